-- Sources of a component on their way, and that they have one outcome.
use Rattle.std.proofs.Common.{◌≡◌, inl, inr, ℕ, ◌+◌, ◌<◌, ◌≤◌, Option, Some, None, List, [], ◌∷◌, ◌++◌, length, take}
use Rattle.std.proofs.Common.{drop, get_or, Result, Ok, Err, arith, refl, sym, ap, ◌∙◌, subst}
use Rattle.std.specs.Option.{option_map}
use Rattle.std.proofs.lemmas.List.{drop_more}
use Rattle.bp_base.specs.Texts.{Text}
use Rattle.bp_base.specs.declared.defect.Defect.{Defect}
use Rattle.bp_checks.specs.Check.{Check, IsExact, IsWithin, Through}
use Rattle.bp_checks.specs.Refused.{Refused, Wrong, IsWrong, OnRefusal}
use Rattle.bp_checks.specs.Stop.{OnStop, Tells, stop_of}
use Rattle.bp_base.specs.declared.defect.Refusal.{Refusal}
use Rattle.bp_checks.specs.declared.stop.Stop.{Stop}
use Rattle.bp_checks.specs.declared.stop.Stop.TheVariants as s
use Rattle.bp_checks.proofs.CheckLemmas.{IsExact-then, IsExact-given, IsExact-each}
use Rattle.bp_checks.proofs.CheckLemmas.{IsWithin-then, IsWithin-given, IsWithin-each}
use Rattle.bp_checks.proofs.LoopLemmas.{stopped_on_the_way, one_more, at_the_end}
use Rattle.bp_checks.proofs.RefusedLemmas.{OnStop-map, OnRefusal-map, OnRefusal-stops}
use Rattle.bp_edges.specs.declared.files.File.{File}
use Rattle.bp_edges.specs.Files.{content_at}
use Rattle.bp_edges.specs.Tree.{front_at}
use Rattle.cabal_component.specs.declared.component.Component.{Component}
use Rattle.project_sources.specs.declared.sources.Source.{Source}
use Rattle.project_sources.specs.declared.sources.Wanted.{Wanted}
use Rattle.project_sources.specs.declared.sources.Input.{Input}
use Rattle.project_sources.specs.Limits.{Limits, limited, unlimited, at_most}
use Rattle.project_sources.specs.Reading.{Stops}
use Rattle.project_sources.specs.Sources.{source_at, source_front, first_there, sized_file, sized_source, absent_at}
use Rattle.project_sources.specs.Sources.{paths_of, source_found, sources_found, source_total, gathered, input_of}
use Rattle.project_sources.specs.Sources.{wanted_of, or_later, own_modules_hit}
use Rattle.project_sources.proofs.FileLemmas.{front_passes, front_fails, IsExact-sized, IsWithin-sized, IsExact-refused}
use Rattle.project_sources.proofs.LimitLemmas.{IsExact-at_most, IsWithin-at_most}

-- what the front of a source says is said of the source
front_file : (o : Option Source) (front : Source) (seen : ℕ) (q : Refused) (r : Result Source Stop)
    → Some front ≡ option_map source_front o → Stops (sized_file limited seen front) r
    → Stops (sized_source limited seen q o) r
unfolding sized_file
front_file None front seen q r e h = absurd (cc)
front_file (Some c) front seen q r e h = by r h
  where
    is : front ≡ source_front c
    is = cc

    bytes_are : front.bytes ≡ take 1048577 c.bytes
    bytes_are = ap (λ (x : Source). x.bytes) is

    path_is : front.path ≡ c.path
    path_is = ap (λ (x : Source). x.path) is

    fails : (x : Refused) → (sized_file limited seen front).fails x → (sized_file limited seen c).fails x
    fails x (inl z) = inl (front_fails c.bytes front.bytes seen x bytes_are z)
    fails x (inr z) = absurd z.2

    by : (t : Result Source Stop) → Stops (sized_file limited seen front) t → Stops (sized_file limited seen c) t
    by (Ok b) k = (
      k.0,
      front_passes c.bytes front.bytes k.0 seen bytes_are k.1,
      k.2 ∙ ap (λ (p : Text). source_at p k.0) path_is,
    )
    by (Err stop) k = OnStop-map stop (sized_file limited seen front).fails (sized_file limited seen c).fails fails k

module _ (told : Option (List File)) (seen : ℕ) (c : Component) (w : Wanted) (paths : List Text)
    (are : paths ≡ paths_of c w) where
  there : (files : List File) (o : Option Source) → o ≡ option_map source_front (first_there files paths)
      → o ≡ option_map source_front (first_there files (paths_of c w))
  there files o e = e ∙ ap (λ (ps : List Text). option_map source_front (first_there files ps)) are

  -- a source that is there is told
  pub source_told : (front : Source) (r : Result Source Stop)
      → ((files : List File) → told ≡ Some files → Some front ≡ option_map source_front (first_there files paths))
      → Stops (sized_file limited seen front) r
      → Tells told (λ (files : List File). source_found limited files seen c w) r
  unfolding source_found
  source_told front (Ok b) e h = λ files t. front_file (first_there files (paths_of c w)) front seen
      (absent_at c.name w.name (paths_of c w)) (Ok b) (there files (Some front) (e files t)) h
  source_told front (Err stop) e h = λ files t. front_file (first_there files (paths_of c w)) front seen
      (absent_at c.name w.name (paths_of c w)) (Err stop) (there files (Some front) (e files t)) h

  nothing : (o : Option Source) → None ≡ option_map source_front o → o ≡ None
  nothing None e = refl
  nothing (Some x) e = absurd (cc)

  -- and so is one that isn't
  pub source_absent : (d : Defect)
      → ((files : List File) → told ≡ Some files → None ≡ option_map source_front (first_there files paths))
      → Wrong d ≡ absent_at c.name w.name paths
      → Tells {B = Source} told (λ (files : List File). source_found limited files seen c w) (Err (s.Refused d))
  unfolding source_found
  source_absent d e h = λ files t.
      subst (λ (o : Option Source). (sized_source limited seen (absent_at c.name w.name (paths_of c w)) o).fails
      (Wrong d)) (sym (nothing (first_there files (paths_of c w)) (there files None (e files t))))
      (h ∙ ap (λ (ps : List Text). absent_at c.name w.name ps) are)

-- the bytes of one more
pub source_total-push : (ss : List Source) (x : Source) → source_total (ss ++ x ∷ []) ≡ source_total ss + length x.bytes
source_total-push [] x = omega arith
source_total-push (y ∷ ss) x = let e = source_total-push ss x in omega (arith, e)

pub source_total_more : (seen read : ℕ) (ss new : List Source) (x : Source) → read ≡ seen + source_total ss
    → new ≡ ss ++ x ∷ [] → read + length x.bytes ≡ seen + source_total new
source_total_more seen read ss new x e n =
    let t = source_total-push ss x in
    subst (λ (xs : List Source). read + length x.bytes ≡ seen + source_total xs) (sym n) (omega (arith, e, t))

-- the step of the loop over sources
abbrev pub one_source : List File → ℕ → Component → List Source → Wanted → Check Source Refused
one_source files seen c done w = source_found limited files (seen + source_total done) c w

module _ (files : List File) (seen : ℕ) (c : Component) (ws : List Wanted) where
  module _ (all : List Source) (i read : ℕ) (x : Wanted)
      (way : Through (one_source files seen c) ws all (drop i ws)) where
    pub sources_stopped : (stop : Stop) → i < length ws → x ≡ get_or ws i x → read ≡ seen + source_total all
        → OnStop stop (source_found limited files read c x).fails
        → OnStop stop (sources_found limited files seen c ws).fails
    unfolding sources_found
    sources_stopped stop l is e h =
        stopped_on_the_way (one_source files seen c) ws all i all x stop way l is refl
        (subst (λ (n : ℕ). OnStop stop (source_found limited files n c x).fails) e h)

    pub sources_more : (p : Source) (new : List Source) → i < length ws → x ≡ get_or ws i x
        → read ≡ seen + source_total all → (source_found limited files read c x).passes p → new ≡ all ++ p ∷ []
        → Through (one_source files seen c) ws new (drop (i + 1) ws)
    sources_more p new l is e h n =
        one_more (one_source files seen c) ws all i all x p new way l is refl
        (subst (λ (m : ℕ). (source_found limited files m c x).passes p) e h) n

  pub sources_end : (all : List Source) (i : ℕ) → Through (one_source files seen c) ws all (drop i ws)
      → length ws ≤ i → (sources_found limited files seen c ws).passes all
  unfolding sources_found
  sources_end all i way l = at_the_end (one_source files seen c) ws all i way l

IsExact-sized_file : (l : Limits) (seen : ℕ) (x : Source) → IsExact (sized_file l seen x)
unfolding sized_file
IsExact-sized_file l seen x = IsExact-then _ _ (IsExact-sized l seen x.bytes) (λ content. IsExact-given _)

IsExact-sized_source : (l : Limits) (seen : ℕ) (q : Refused) (o : Option Source) → IsExact (sized_source l seen q o)
IsExact-sized_source l seen q None = IsExact-refused q
IsExact-sized_source l seen q (Some x) = IsExact-sized_file l seen x

IsExact-source_found : (l : Limits) (files : List File) (seen : ℕ) (c : Component) (w : Wanted)
    → IsExact (source_found l files seen c w)
unfolding source_found
IsExact-source_found l files seen c w = IsExact-sized_source l seen _ (first_there files (paths_of c w))

IsExact-sources_found : (l : Limits) (files : List File) (seen : ℕ) (c : Component) (ws : List Wanted)
    → IsExact (sources_found l files seen c ws)
unfolding sources_found
IsExact-sources_found l files seen c ws =
    IsExact-each _ (λ done w. IsExact-source_found l files (seen + source_total done) c w) ws

-- a component has one input
pub IsExact-gathered : (l : Limits) (files : List File) (seen : ℕ) (c : Component) → IsExact (gathered l files seen c)
unfolding gathered
IsExact-gathered l files seen c =
    IsExact-then _ _ (IsExact-at_most l.own_modules (length (wanted_of c)) own_modules_hit)
    (λ b. IsExact-then _ _ (IsExact-sources_found l files seen c (wanted_of c)) (λ ss. IsExact-given (input_of c ss)))

IsWithin-sized_file : (l : Limits) (seen other : ℕ) (x : Source)
    → IsWithin IsWrong (sized_file l seen x) (sized_file unlimited other x)
unfolding sized_file
IsWithin-sized_file l seen other x = IsWithin-then IsWrong _ _ _ _ (IsWithin-sized l seen other x.bytes)
    (λ content. IsWithin-given IsWrong _)

IsWithin-sized_source : (l : Limits) (seen other : ℕ) (q : Refused) (o : Option Source)
    → IsWithin IsWrong (sized_source l seen q o) (sized_source unlimited other q o)
IsWithin-sized_source l seen other q None = record { answer = λ b p. p; refusal = λ r k p. p }
IsWithin-sized_source l seen other q (Some x) = IsWithin-sized_file l seen other x

IsWithin-source_found : (l : Limits) (files : List File) (seen other : ℕ) (c : Component) (w : Wanted)
    → IsWithin IsWrong (source_found l files seen c w) (source_found unlimited files other c w)
unfolding source_found
IsWithin-source_found l files seen other c w =
    IsWithin-sized_source l seen other _ (first_there files (paths_of c w))

IsWithin-sources_found : (l : Limits) (files : List File) (seen other : ℕ) (c : Component) (ws : List Wanted)
    → IsWithin IsWrong (sources_found l files seen c ws) (sources_found unlimited files other c ws)
unfolding sources_found
IsWithin-sources_found l files seen other c ws =
    IsWithin-each IsWrong _ _
    (λ done w. IsWithin-source_found l files (seen + source_total done) (other + source_total done) c w) ws

-- it is refused as without limits, but for the limits, whatever was read before
pub IsWithin-gathered : (l : Limits) (files : List File) (seen other : ℕ) (c : Component)
    → IsWithin IsWrong (gathered l files seen c) (gathered unlimited files other c)
unfolding gathered
IsWithin-gathered l files seen other c =
    IsWithin-then IsWrong _ _ _ _ (IsWithin-at_most l.own_modules (length (wanted_of c)) _)
    (λ b. IsWithin-then IsWrong _ _ _ _ (IsWithin-sources_found l files seen other c (wanted_of c))
    (λ ss. IsWithin-given IsWrong (input_of c ss)))

-- the first of paths, in a loop: the file is here, or further on
module _ (files : List File) (paths : List Text) (i : ℕ) (x : Text) (l : i < length paths) (is : x ≡ get_or paths i x)
    (way : first_there files (drop i paths) ≡ first_there files paths) where
  cut : first_there files (x ∷ drop (i + 1) paths) ≡ first_there files paths
  cut = ap (first_there files) (ap (λ (p : Text). p ∷ drop (i + 1) paths) is ∙ sym (drop_more paths i x l)) ∙ way

  here : (bytes : Text) (o : Option Text) (later : Option Source) → Some bytes ≡ option_map (take 1048577) o
      → Some (source_at x bytes) ≡ option_map source_front (or_later x o later)
  here bytes None later e = absurd (cc)
  here bytes (Some c) later e = let same : bytes ≡ take 1048577 c = cc in ap (λ (b : Text). Some (source_at x b)) same

  pub first_here : (bytes : Text) (out : Source) → Some bytes ≡ front_at 1048577 files x → out ≡ source_at x bytes
      → Some out ≡ option_map source_front (first_there files paths)
  unfolding front_at
  first_here bytes out e o =
      ap Some o ∙ here bytes (content_at files x) (first_there files (drop (i + 1) paths)) e
      ∙ ap (option_map source_front) cut

  not_here : (o : Option Text) (later : Option Source) → None ≡ option_map (take 1048577) o → or_later x o later ≡ later
  not_here None later e = refl
  not_here (Some c) later e = absurd (cc)

  pub first_later : None ≡ front_at 1048577 files x → first_there files (drop (i + 1) paths) ≡ first_there files paths
  unfolding front_at
  first_later e = sym (not_here (content_at files x) (first_there files (drop (i + 1) paths)) e) ∙ cut

-- a reading that stopped for no refusal
pub source_unread : (told : Option (List File)) (seen : ℕ) (c : Component) (w : Wanted) (stop : Stop)
    → OnStop stop (λ r. ⊥) → Tells {B = Source} told (λ (files : List File). source_found limited files seen c w) (Err stop)
source_unread told seen c w stop h = λ files t.
    OnStop-map stop (λ r. ⊥) (source_found limited files seen c w).fails (λ r z. absurd z) h

-- a component with its sources, from what its steps tell
module _ (told : Option (List File)) (seen : ℕ) (c : Component) (ws : List Wanted) (are : ws ≡ wanted_of c) where
  abbrev within_modules : List Wanted → Check (Unit {0}) Refused
  within_modules xs = at_most limited.own_modules (length xs) own_modules_hit

  pub modules_refused : (refusal : Refusal) → OnRefusal refusal (within_modules ws).fails
      → Tells told (λ (files : List File). gathered limited files seen c) (Err (stop_of refusal))
  unfolding gathered
  modules_refused refusal k = λ files t. OnRefusal-stops refusal (gathered limited files seen c).fails
      (OnRefusal-map refusal (within_modules (wanted_of c)).fails (gathered limited files seen c).fails (λ r z. inl z)
      (subst (λ (xs : List Wanted). OnRefusal refusal (within_modules xs).fails) are k))

  module _ (few : (within_modules ws).passes tt) where
    passed : (within_modules (wanted_of c)).passes tt
    passed = subst (λ (xs : List Wanted). (within_modules xs).passes tt) are few

    pub gathered_stopped : (stop : Stop)
        → Tells told (λ (files : List File). sources_found limited files seen c ws) (Err stop)
        → Tells told (λ (files : List File). gathered limited files seen c) (Err stop)
    unfolding gathered
    gathered_stopped stop h = λ files t.
        OnStop-map stop (sources_found limited files seen c (wanted_of c)).fails (gathered limited files seen c).fails
        (λ r z. inr (tt, passed, inl z))
        (subst (λ (xs : List Wanted). OnStop stop (sources_found limited files seen c xs).fails) are (h files t))

    pub gathered_told : (ss : List Source) (i : Input)
        → Tells told (λ (files : List File). sources_found limited files seen c ws) (Ok ss) → i ≡ input_of c ss
        → Tells told (λ (files : List File). gathered limited files seen c) (Ok i)
    unfolding gathered
    gathered_told ss i h e = λ files t. (
      tt,
      passed,
      (ss, subst (λ (xs : List Wanted). (sources_found limited files seen c xs).passes ss) are (h files t), e),
    )
