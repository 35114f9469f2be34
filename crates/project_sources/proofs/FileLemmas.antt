-- What the front of a file says of the file.
use Rattle.std.proofs.Common.{◌≡◌, inl, inr, ℕ, ◌+◌, ◌<◌, ◌≤◌, Option, Some, None, List, length, take, Result, Ok, Err}
use Rattle.std.proofs.Common.{arith, refl, sym, ap, ◌∙◌, subst}
use Rattle.std.specs.Option.{option_map}
use Rattle.std.proofs.lemmas.List.{length-take, take_all}
use Rattle.bp_base.specs.Texts.{Text}
use Rattle.bp_base.specs.declared.code.Code.TheVariants.{NoSource}
use Rattle.bp_base.specs.declared.defect.Defect.{Defect}
use Rattle.bp_base.specs.declared.defect.Item.TheVariants.{Named}
use Rattle.bp_checks.specs.Check.{IsExact, IsWithin}
use Rattle.bp_checks.specs.Refused.{Refused, Wrong, IsWrong, defect_at}
use Rattle.bp_checks.specs.Stop.{OnStop, Tells}
use Rattle.bp_checks.specs.declared.stop.Stop.{Stop}
use Rattle.bp_checks.specs.declared.stop.Stop.TheVariants as s
use Rattle.bp_checks.proofs.CheckLemmas.{IsExact-then, IsExact-given, IsWithin-then, IsWithin-given}
use Rattle.bp_checks.proofs.RefusedLemmas.{OnStop-map}
use Rattle.bp_edges.specs.declared.files.File.{File}
use Rattle.bp_edges.specs.Files.{content_at}
use Rattle.bp_edges.specs.Tree.{front_at}
use Rattle.project_sources.specs.Limits.{Limits, limited, unlimited}
use Rattle.project_sources.specs.Reading.{sized, sized_if, refused, whole_file, Stops}
use Rattle.project_sources.proofs.LimitLemmas.{IsExact-at_most, IsWithin-at_most}

nothing : (n : ℕ) (o : Option Text) → None ≡ option_map (take n) o → o ≡ None
nothing n None e = refl
nothing n (Some c) e = absurd (cc)

-- a file that isn't there is told so
pub absent_told : (files : List File) (path component at : Text) (seen : ℕ) (d : Defect)
    → None ≡ front_at 1048577 files path
    → d ≡ defect_at NoSource component at (Named path)
    → OnStop (s.Refused d) (whole_file limited files seen component at path).fails
unfolding front_at whole_file
absent_told files path component at seen d e h =
    subst (λ (o : Option Text). (sized_if limited seen (Wrong (defect_at NoSource component at (Named path))) o).fails
    (Wrong d)) (sym (nothing 1048577 (content_at files path) e)) (ap Wrong h)

-- a content that is within the limits is its own front
pub front_passes : (c bytes b : Text) (seen : ℕ) → bytes ≡ take 1048577 c → (sized limited seen bytes).passes b
    → (sized limited seen c).passes b
unfolding sized
front_passes c bytes b seen is k = subst (λ (t : Text). (sized limited seen t).passes b) (len k.1.1) k
  where
    len : length bytes ≤ 1048576 → bytes ≡ c
    len l =
        let k : length c ≤ 1048577 = omega (arith, ap length is, length-take 1048577 c, l) in
        is ∙ take_all 1048577 c k

-- a front is refused as the content is
pub front_fails : (c bytes : Text) (seen : ℕ) (x : Refused) → bytes ≡ take 1048577 c → (sized limited seen bytes).fails x
    → (sized limited seen c).fails x
unfolding sized
front_fails c bytes seen x is h = by x h
  where
    len : length bytes ≤ 1048576 → bytes ≡ c
    len l =
        let k : length c ≤ 1048577 = omega (arith, ap length is, length-take 1048577 c, l) in
        is ∙ take_all 1048577 c k

    long : 1048576 < length bytes → 1048576 < length c
    long l = omega (arith, ap length is, length-take 1048577 c, l)

    by : (y : Refused) → (sized limited seen bytes).fails y → (sized limited seen c).fails y
    by y (inl (inl p)) = inl (inl (long p.0, p.1))
    by y (inl (inr p)) = subst (λ (t : Text). (sized limited seen t).fails y) (len p.1) (inl (inr p))
    by y (inr p) = absurd p.2

front_sized : (o : Option Text) (bytes : Text) (seen : ℕ) (q : Refused) (r : Result Text Stop)
    → Some bytes ≡ option_map (take 1048577) o → Stops (sized limited seen bytes) r
    → Stops (sized_if limited seen q o) r
front_sized None bytes seen q r e h = absurd (cc)
front_sized (Some c) bytes seen q r e h = by r h
  where
    is : bytes ≡ take 1048577 c
    is = cc

    by : (t : Result Text Stop) → Stops (sized limited seen bytes) t → Stops (sized limited seen c) t
    by (Ok b) k = front_passes c bytes b seen is k
    by (Err stop) k = OnStop-map stop (sized limited seen bytes).fails (sized limited seen c).fails
        (λ x z. front_fails c bytes seen x is z) k

-- what the front of a file says is said of the file
pub sized_told : (files : List File) (path component at bytes : Text) (seen : ℕ) (r : Result Text Stop)
    → Some bytes ≡ front_at 1048577 files path → Stops (sized limited seen bytes) r
    → Stops (whole_file limited files seen component at path) r
unfolding front_at whole_file
sized_told files path component at bytes seen r e h =
    front_sized (content_at files path) bytes seen (Wrong (defect_at NoSource component at (Named path))) r e h

-- the same of a reading that is told
pub read_told : (told : Option (List File)) (path component at bytes : Text) (seen : ℕ) (r : Result Text Stop)
    → ((files : List File) → told ≡ Some files → Some bytes ≡ front_at 1048577 files path)
    → Stops (sized limited seen bytes) r
    → Tells told (λ (files : List File). whole_file limited files seen component at path) r
read_told told path component at bytes seen (Ok b) e h =
    λ files t. sized_told files path component at bytes seen (Ok b) (e files t) h
read_told told path component at bytes seen (Err stop) e h =
    λ files t. sized_told files path component at bytes seen (Err stop) (e files t) h

pub IsExact-refused : {B : Type 0} (q : Refused) → IsExact (refused {B = B} q)
IsExact-refused q = record {
  one_answer = λ b c p z. absurd p;
  one_refusal = λ r x p z. p ∙ sym z;
  never_both = λ b r p z. p;
}

pub IsExact-sized : (l : Limits) (seen : ℕ) (content : Text) → IsExact (sized l seen content)
unfolding sized
IsExact-sized l seen content =
    IsExact-then _ _ (IsExact-then _ _ (IsExact-at_most l.file_bytes (length content) _)
    (λ b. IsExact-at_most l.source_bytes (seen + length content) _)) (λ b. IsExact-given content)

IsExact-sized_if : (l : Limits) (seen : ℕ) (q : Refused) (o : Option Text) → IsExact (sized_if l seen q o)
IsExact-sized_if l seen q None = IsExact-refused q
IsExact-sized_if l seen q (Some c) = IsExact-sized l seen c

-- a file has one outcome
pub IsExact-whole_file : (l : Limits) (files : List File) (seen : ℕ) (component at path : Text)
    → IsExact (whole_file l files seen component at path)
unfolding whole_file
IsExact-whole_file l files seen component at path = IsExact-sized_if l seen _ (content_at files path)

-- without limits it doesn't matter what was read before
pub IsWithin-sized : (l : Limits) (seen other : ℕ) (content : Text)
    → IsWithin IsWrong (sized l seen content) (sized unlimited other content)
unfolding sized
IsWithin-sized l seen other content =
    IsWithin-then IsWrong _ _ _ _ (IsWithin-then IsWrong _ _ _ _ (IsWithin-at_most l.file_bytes (length content) _)
    (λ b. IsWithin-at_most l.source_bytes (seen + length content) _)) (λ b. IsWithin-given IsWrong content)

IsWithin-sized_if : (l : Limits) (seen : ℕ) (q : Refused) (o : Option Text)
    → IsWithin IsWrong (sized_if l seen q o) (sized_if unlimited seen q o)
IsWithin-sized_if l seen q None = record { answer = λ b p. p; refusal = λ r k p. p }
IsWithin-sized_if l seen q (Some c) = IsWithin-sized l seen seen c

-- a file is refused as without limits, but for the limits
pub IsWithin-whole_file : (l : Limits) (files : List File) (seen : ℕ) (component at path : Text)
    → IsWithin IsWrong (whole_file l files seen component at path) (whole_file unlimited files seen component at path)
unfolding whole_file
IsWithin-whole_file l files seen component at path = IsWithin-sized_if l seen _ (content_at files path)
