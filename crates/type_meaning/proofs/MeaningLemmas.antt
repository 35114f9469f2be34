-- Each typing is met by sets of types: the main lemma of completeness of inference.
use Rattle.std.proofs.Common.{◌≡◌, refl, sym, ap, ap₂, ◌∙◌, subst, inl, inr, ℕ, zero, suc, Bool, true, false, not, ◌&&◌}
use Rattle.std.proofs.Common.{◌||◌, cond, true≢false, List, [], ◌∷◌, ◌++◌, map, filter}
use Rattle.std.specs.Prelude.{◌⊎◌, nat_eq}
use Rattle.std.proofs.lemmas.Bool.{eqb-true, eq-eqb, or_right}
use Rattle.std.proofs.lemmas.List.{map-append, append_assoc}
use Rattle.bp_base.proofs.SetLemmas.{among-map}
use Rattle.bp_base.specs.Texts.{Text}
use Rattle.bp_base.specs.Lists.{Among, is_among}
use Rattle.bp_base.specs.declared.special.Special.TheVariants as sp
use Rattle.hs_core.specs.declared.group.IndexGroup.{IndexGroup}
use Rattle.hs_core.specs.declared.tree.Pat.{Pat}
use Rattle.hs_core.specs.declared.tree.Pat.TheVariants.{PVar, PWild, PInt, PChr, PStr, PCon', PTuple', PList', PAs'}
use Rattle.hs_core.specs.declared.tree.Pat.TheVariants.{PLazy'}
use Rattle.hs_core.specs.declared.tree.Pat.TheBlock.{Row_of-Pat, end_of-Pat, more_of-Pat}
use Rattle.hs_core.specs.declared.tree.Exp.{Exp}
use Rattle.hs_core.specs.declared.tree.Exp.TheVariants.{Local, Global, Int, Chr, Str, Apply', Lambda', Let', If', Case'}
use Rattle.hs_core.specs.declared.tree.Exp.TheVariants.{Tuple', List' as ListOf', RightSection', Annot'}
use Rattle.hs_core.specs.declared.tree.Decl.{Decl}
use Rattle.hs_core.specs.declared.tree.Decl.TheVariants.{DataDecl, SynonymDecl, TypeSig, FixityOf, Clause, PatBind}
use Rattle.hs_core.specs.declared.tree.Rhs.{Rhs, Rhs'}
use Rattle.hs_core.specs.declared.tree.Guard.{Guard}
use Rattle.hs_core.specs.declared.tree.Guard.TheVariants.{Test, Bind}
use Rattle.hs_core.specs.declared.tree.Alt.{Alt, Alt'}
use Rattle.hs_core.specs.declared.tree.Decl.TheBlock.{Row_of-Choice, end_of-Choice, more_of-Choice, Row_of-Decl}
use Rattle.hs_core.specs.declared.tree.Decl.TheBlock.{end_of-Decl, more_of-Decl, Row_of-Guard, end_of-Guard}
use Rattle.hs_core.specs.declared.tree.Decl.TheBlock.{more_of-Guard, Row_of-Exp, end_of-Exp, more_of-Exp, Row_of-Alt}
use Rattle.hs_core.specs.declared.tree.Decl.TheBlock.{end_of-Alt, more_of-Alt}
use Rattle.type_terms.specs.Terms.{var, con, app, occurs_in, applied}
use Rattle.type_terms.proofs.TermLemmas.{applied-applied}
use Rattle.hs_core.specs.Types.{KindTerm, star, arrow, TypeTerm, TypeAssignment, any, boolean, function, functions}
use Rattle.hs_core.specs.Types.{tuple_of, special_type, applied_to}
use Rattle.hs_core.specs.Kinds.{HasKind}
use Rattle.hs_core.specs.Schemes.{TypeScheme, IsInstance, IsDeclared, Assumption, Bound, Selects, monomorphic}
use Rattle.hs_core.specs.Schemes.{free_in, generalised, IsRigid, Agree}
use Rattle.hs_core.specs.Globals.{Constructor, Globals, plain_names}
use Rattle.hs_core.specs.FreeNames.{Signed, LocalDecl, local_decls, all_signed, signed_names}
use Rattle.hs_core.specs.LocalGroups.{IsTyped, HaveSchemes, names_bound, unsigned, AllAmong, AllTyped, GroupTyping}
use Rattle.hs_core.specs.LocalGroups.{MeetsSignature, GroupAfterGroup, Extends}
use Rattle.hs_core.specs.Typing.{Kinds, IsProperType, IsBuilt, AllAre, Binds, BindAll, BindEach, HasType, HaveTypes}
use Rattle.hs_core.specs.Typing.{HaveAlternatives, IsAlternative, IsRightSide, HaveChoices, GuardsBind, IsGuard}
use Rattle.hs_core.specs.Typing.{IsTypedDecl, IsTypedAt}
use Rattle.hs_core_laws.proofs.StabilityLemmas.{map-map, count-map, filter-map}
use Rattle.type_meaning.specs.Meanings.{LocalTypes, Offers, only, MeantTyping, AllMeant, GroupMeaning, sets_of}
use Rattle.type_meaning.specs.Meanings.{IsChoice}
use Rattle.type_meaning.specs.Meanings.{HasEveryInstance, declared_sets, unsigned_names, MeantGroups, MeantExtension}
use Rattle.type_meaning.specs.Meanings.{MeantType, MeantTypes, MeantAlternatives, MeantAlternative, MeantRightSide}
use Rattle.type_meaning.specs.Meanings.{MeantChoices, MeantGuards, MeantGuard, MeantDecl, MeantAt}
use Rattle.type_meaning.specs.MeaningLaws.{applied_bound, IsKinded, IsInstanceUnder, Covers, HasAllKinds, sets_under}
use Rattle.type_meaning.specs.MeaningLaws.{TypedExpressionsAreMeant, TypedDeclarationsAreMeant, TypedPatternsAreMeant}

-- ---- lists

-- what is left of a list stands in it
filtered-step : {A : Type 0} (q : A → Bool) (x b : A) (xs : List A) (c : Bool)
    → Among b (cond c (x ∷ filter q xs) (filter q xs)) → (Among b (filter q xs) → Among b xs) → (x ≡ b) ⊎ Among b xs
filtered-step q x b xs true (inl p) rest = inl p
filtered-step q x b xs true (inr h) rest = inr (rest h)
filtered-step q x b xs false h rest = inr (rest h)

filtered : {A : Type 0} (q : A → Bool) (b : A) (xs : List A) → Among b (filter q xs) → Among b xs
filtered q b [] h = absurd h
filtered q b (x ∷ xs) h = filtered-step q x b xs (q x) h (filtered q b xs)

-- ---- assignments
pub agreeing : (s s' : TypeAssignment) (t : TypeTerm) → ((w : ℕ) → occurs_in w t ≡ true → s w ≡ s' w)
    → applied s t ≡ applied s' t
agreeing s s' (var i) h = h i (eq-eqb i i refl)
agreeing s s' (con n) h = refl
agreeing s s' (app f a) h = ap₂ app (agreeing s s' f (λ w o. h w (ap (λ b. b || occurs_in w a) o)))
    (agreeing s s' a (λ w o. h w (or_right (occurs_in w f) (occurs_in w a) o)))

pub composing : (s u : TypeAssignment) (t : TypeTerm) → applied (λ w. applied s (u w)) t ≡ applied s (applied u t)
composing s u t = sym (applied-applied s u t)

pub functions_applied : (s : TypeAssignment) (us : List TypeTerm) (v : TypeTerm)
    → applied s (functions us v) ≡ functions (map (applied s) us) (applied s v)
functions_applied s [] v = refl
functions_applied s (u ∷ us) v = ap (function (applied s u)) (functions_applied s us v)

applied_to_applied : (s : TypeAssignment) (t : TypeTerm) (us : List TypeTerm)
    → applied s (applied_to t us) ≡ applied_to (applied s t) (map (applied s) us)
applied_to_applied s t [] = refl
applied_to_applied s t (u ∷ us) = applied_to_applied s (app t u) us

tuple_applied : (s : TypeAssignment) (us : List TypeTerm) → applied s (tuple_of us) ≡ tuple_of (map (applied s) us)
tuple_applied s us = applied_to_applied s _ us ∙ ap (λ n. applied_to (special_type (sp.Tuple n)) (map
    (applied s) us)) (sym (count-map (applied s) us))

-- the choice at v for the variable new v, where v occurs
abbrev assign : (ℕ → ℕ) → TypeAssignment → TypeTerm → ℕ → TypeTerm → TypeTerm
assign new choice (var i) w other = cond (nat_eq (new i) w) (choice i) other
assign new choice (con n) w other = other
assign new choice (app f a) w other = assign new choice f w (assign new choice a w other)

assign-other : (new : ℕ → ℕ) (choice : TypeAssignment) (t : TypeTerm) (v : ℕ) (other : TypeTerm) → ((u : ℕ)
    → occurs_in u t ≡ true → new u ≡ new v → u ≡ v) → other ≡ choice v → assign new choice t (new v) other ≡ choice v
assign-other new choice (var i) v other d p = go (nat_eq (new i) (new v)) refl
  where
    go : (b : Bool) → nat_eq (new i) (new v) ≡ b → cond b (choice i) other ≡ choice v
    go true q = ap choice (d i (eq-eqb i i refl) (eqb-true (new i) (new v) q))
    go false q = p
assign-other new choice (con n) v other d p = p
assign-other new choice (app f a) v other d p = assign-other new choice f v _ (λ u o. d u (ap
    (λ b. b || occurs_in u a) o))
    (assign-other new choice a v other (λ u o. d u (or_right (occurs_in u f) (occurs_in u a) o)) p)

assign-found : (new : ℕ → ℕ) (choice : TypeAssignment) (t : TypeTerm) (v : ℕ) (other : TypeTerm) → ((u : ℕ)
    → occurs_in u t ≡ true → new u ≡ new v → u ≡ v) → occurs_in v t ≡ true
    → assign new choice t (new v) other ≡ choice v
assign-found new choice (var i) v other d o = ap (λ b. cond b (choice i) other) (eq-eqb (new i) (new v) (ap new
    (sym (eqb-true v i o)))) ∙ ap choice (sym (eqb-true v i o))
assign-found new choice (con n) v other d o = absurd (true≢false (sym o))
assign-found new choice (app f a) v other d o = go (occurs_in v f) refl (assign-found new choice f v
    (assign new choice a (new v) other) df) (assign-found new choice a v other da)
  where
    df : (u : ℕ) → occurs_in u f ≡ true → new u ≡ new v → u ≡ v
    df u p = d u (ap (λ b. b || occurs_in u a) p)

    da : (u : ℕ) → occurs_in u a ≡ true → new u ≡ new v → u ≡ v
    da u p = d u (or_right (occurs_in u f) (occurs_in u a) p)

    go : (b : Bool) → occurs_in v f ≡ b → (occurs_in v f ≡ true → assign new choice f (new v) (assign new choice a
        (new v) other) ≡ choice v)
        → (occurs_in v a ≡ true → assign new choice a (new v) other ≡ choice v)
        → assign new choice f (new v) (assign new choice a (new v) other) ≡ choice v
    go true q first second = first q
    go false q first second = assign-other new choice f v _ df (second (sym (ap (λ b. b || occurs_in v a) q) ∙ o))

-- ---- environments
abbrev mix : List Assumption → TypeAssignment → TypeAssignment → TypeAssignment
mix env s other w = cond (free_in env w) (s w) (other w)

module _ (G : Globals) (K : Kinds) (rich : HasAllKinds G K) where
  kept : (kinds : Kinds) (s : TypeAssignment) → IsKinded G K kinds s → (t : TypeTerm) (k : KindTerm)
      → HasKind (plain_names G) kinds t k → HasKind (plain_names G) K (applied s t) k
  kept kinds s kd (var i) k h = subst (λ z. HasKind (plain_names G) K (s i) z) h (kd i)
  kept kinds s kd (con n) k h = h
  kept kinds s kd (app f a) k (j, hf, ha) = (j, kept kinds s kd f (arrow j k) hf, kept kinds s kd a j ha)

  covers-agree : (s s' : TypeAssignment) (es : List Assumption) (ks : List LocalTypes) → ((w : ℕ)
      → free_in es w ≡ true → s' w ≡ s w) → Covers G K s es ks → Covers G K s' es ks
  covers-agree s s' [] [] p h = tt
  covers-agree s s' [] (k ∷ ks) p h = absurd h
  covers-agree s s' (e ∷ es) [] p h = absurd h
  covers-agree s s' (e ∷ es) (k ∷ ks) p h = (
    h.0,
    (λ t i. h.1 t (record {
      choice = i.choice;
      fixed = λ w o g. i.fixed w o g
          ∙ p w (ap₂ (λ a b. (a && not b) || free_in es w) o g);
      kinded = i.kinded;
      gives = i.gives;
    })),
    covers-agree s s' es ks (λ w f. p w (or_right (occurs_in w e.scheme.body && not (e.scheme.generic w))
        (free_in es w) f)) h.2,
  )

  covers-only : (s : TypeAssignment) (bs : List Bound) (env : List Assumption) (ks : List LocalTypes)
      → Covers G K s env ks → Covers G K s (monomorphic bs ++ env) (only (map (applied_bound s) bs) ks)
  covers-only s [] env ks h = h
  covers-only s (b ∷ bs) env ks h = (
    refl,
    (λ t i. sym (agreeing i.choice s b.type (λ w o. i.fixed w o refl))
        ∙ i.gives),
    covers-only s bs env ks h,
  )

  selected : (s : TypeAssignment) (es : List Assumption) (ks : List LocalTypes) (x : Text) (c : TypeScheme)
      (t : TypeTerm) → Covers G K s es ks → Selects es x c → IsInstanceUnder G K s c t → Offers ks x t
  selected s [] ks x c t h p i = absurd p
  selected s (e ∷ es) [] x c t h p i = absurd h
  selected s (e ∷ es) (k ∷ ks) x c t h (inl p) i = inl (
    sym h.0 ∙ p.0,
    h.1 t (subst
        (λ z. IsInstanceUnder G K s z t) (sym p.1) i),
  )
  selected s (e ∷ es) (k ∷ ks) x c t h (inr p) i = inr ((λ z. p.0 (h.0 ∙ z)), selected s es ks x c t h.2 p.1 i)

  stands : (kinds : Kinds) (s : TypeAssignment) → IsKinded G K kinds s → (t : TypeTerm)
      → IsProperType G any kinds t → IsProperType G any K (applied s t)
  stands kinds s kd t h = (refl, kept kinds s kd t star h.1)

  under : (kinds : Kinds) (s : TypeAssignment) → IsKinded G K kinds s → (c : TypeScheme) (t : TypeTerm)
      → IsInstance (plain_names G) kinds c t → IsInstanceUnder G K s c (applied s t)
  under kinds s kd c t h = record {
    choice = λ w. applied s (h.choice w);
    fixed = λ w o g. ap (applied s) (h.fixed w g);
    kinded = λ w o g. kept kinds s kd (h.choice w) (c.kinds w) (h.kinded w o g);
    gives = composing s h.choice c.body ∙ ap (applied s) h.gives;
  }

  of_declared : (kinds : Kinds) (s : TypeAssignment) → IsKinded G K kinds s → (d : TypeTerm) (c : TypeScheme)
      → IsDeclared (plain_names G) d c → (t : TypeTerm) → IsInstance (plain_names G) kinds c t
      → IsInstance (plain_names G) K c (applied s t)
  of_declared kinds s kd d c dec t h = record {
    choice = λ w. applied s (h.choice w);
    fixed = λ w g. absurd (true≢false (sym (dec.generic w) ∙ g));
    kinded = λ w o g. kept kinds s kd (h.choice w) (c.kinds w) (h.kinded w o g);
    gives = composing s h.choice c.body ∙ ap (applied s) h.gives;
  }

  all_are : (s : TypeAssignment) (t : TypeTerm) (us : List TypeTerm) → AllAre t us
      → AllAre (applied s t) (map (applied s) us)
  all_are s t [] h = tt
  all_are s t (u ∷ us) h = (ap (applied s) h.0, all_are s t us h.1)

  built : (kinds : Kinds) (s : TypeAssignment) → IsKinded G K kinds s → (c : Constructor) (us : List TypeTerm)
      (t : TypeTerm) → IsBuilt (plain_names G) kinds c us t → IsBuilt (plain_names G) K c (map (applied s) us)
      (applied s t)
  built kinds s kd c us t h = record {
    scheme = h.scheme;
    declared = h.declared;
    many = count-map (applied s) us ∙ h.many;
    built = subst (λ d. IsInstance (plain_names G) K h.scheme d) (functions_applied s us t)
        (of_declared kinds s kd _ h.scheme h.declared (functions us t) h.built);
  }

  mutual
    binds : (kinds : Kinds) (s : TypeAssignment) → IsKinded G K kinds s
        → (p : Pat) (t : TypeTerm) (bs : List Bound) → Binds G any kinds p t bs
        → Binds G any K p (applied s t) (map (applied_bound s) bs)
    binds kinds s kd (PVar x) t bs h = (stands kinds s kd t h.0, ap (map (applied_bound s)) h.1)
    binds kinds s kd PWild t bs h = (stands kinds s kd t h.0, ap (map (applied_bound s)) h.1)
    binds kinds s kd (PInt negative n) t bs h = (
      stands kinds s kd t h.0,
      ap (applied s) h.1,
      ap (map
          (applied_bound s)) h.2,
    )
    binds kinds s kd (PChr c) t bs h = (stands kinds s kd t h.0, ap (applied s) h.1, ap (map (applied_bound s)) h.2)
    binds kinds s kd (PStr cs) t bs h = (stands kinds s kd t h.0, ap (applied s) h.1, ap (map (applied_bound s)) h.2)
    binds kinds s kd (PCon' n y ps) t bs h = (
      stands kinds s kd t h.0,
      h.1,
      h.2,
      map (applied s) h.3,
      built kinds s kd h.1 h.3 t h.4,
      bind_all kinds s kd ps h.3 bs h.5,
    )
    binds kinds s kd (PTuple' y ps) t bs h = (
      stands kinds s kd t h.0,
      map (applied s) h.1,
      ap (applied s) h.2
          ∙ tuple_applied s h.1,
      bind_all kinds s kd ps h.1 bs h.3,
    )
    binds kinds s kd (PList' y ps) t bs h = (
      stands kinds s kd t h.0,
      applied s h.1,
      map (applied s) h.2,
      ap
          (applied s) h.3,
      all_are s h.1 h.2 h.4,
      bind_all kinds s kd ps h.2 bs h.5,
    )
    binds kinds s kd (PAs' x y (more_of-Pat p end_of-Pat)) t bs h = (
      map (applied_bound s) h.0,
      binds kinds s kd p t h.0 h.1,
      ap (map (applied_bound s)) h.2,
    )
    binds kinds s kd (PLazy' y (more_of-Pat p end_of-Pat)) t bs h = binds kinds s kd p t bs h

    bind_all : (kinds : Kinds) (s : TypeAssignment) → IsKinded G K kinds s
        → {m : _} (ps : Row_of-Pat m) (ts : List TypeTerm) (bs : List Bound) → BindAll G any kinds ps ts bs
        → BindAll G any K ps (map (applied s) ts) (map (applied_bound s) bs)
    bind_all kinds s kd end_of-Pat ts bs h = (ap (map (applied s)) h.0, ap (map (applied_bound s)) h.1)
    bind_all kinds s kd (more_of-Pat p ps) ts bs h = (
      applied s h.0,
      map (applied s) h.1,
      map (applied_bound s) h.2,
      map (applied_bound s) h.3,
      ap (map (applied s)) h.4,
      binds kinds s kd p h.0 h.2 h.5,
      bind_all kinds s kd ps h.1 h.3 h.6,
      ap (map (applied_bound s)) h.7 ∙ map-append (applied_bound s) h.2 h.3,
    )

  bind_each : (kinds : Kinds) (s : TypeAssignment) → IsKinded G K kinds s
      → (ps : List Pat) (ts : List TypeTerm) (bs : List Bound) → BindEach G any kinds ps ts bs
      → BindEach G any K ps (map (applied s) ts) (map (applied_bound s) bs)
  bind_each kinds s kd [] ts bs h = (ap (map (applied s)) h.0, ap (map (applied_bound s)) h.1)
  bind_each kinds s kd (p ∷ ps) ts bs h = (
    applied s h.0,
    map (applied s) h.1,
    map (applied_bound s) h.2,
    map (applied_bound s) h.3,
    ap (map (applied s)) h.4,
    binds kinds s kd p h.0 h.2 h.5,
    bind_each kinds s kd ps h.1 h.3 h.6,
    ap (map (applied_bound s)) h.7 ∙ map-append (applied_bound s) h.2 h.3,
  )

  -- ---- groups
  abbrev Carries : IsTyped → MeantTyping → Type 1
  Carries typed meant = (i : ℕ) (kinds : Kinds) (en : List Assumption) (bs : List Bound) → typed i kinds en bs
      → (s : TypeAssignment) → IsKinded G K kinds s → (ks : List LocalTypes) → Covers G K s en ks
      → meant i ks (map (applied_bound s) bs)

  unsigned_applied : (s : TypeAssignment) (ds : List LocalDecl) (bs : List Bound)
      → unsigned ds (map (applied_bound s) bs) ≡ map (applied_bound s) (unsigned ds bs)
  unsigned_applied s ds bs = filter-map (applied_bound s) (λ b. not (is_among b.name (signed_names ds))) (λ b. not
      (is_among b.name (signed_names ds))) (λ b. refl) bs

  mix-kinded : (env : List Assumption) (kinds inside : Kinds) (s other : TypeAssignment) → IsKinded G K kinds s
      → Agree env kinds inside → ((w : ℕ) → free_in env w ≡ false → HasKind (plain_names G) K (other w)
      (inside w)) → IsKinded G K inside (mix env s other)
  mix-kinded env kinds inside s other kd agree h w = go (free_in env w) refl
    where
      go : (b : Bool) → free_in env w ≡ b → HasKind (plain_names G) K (cond b (s w) (other w)) (inside w)
      go true p = subst (λ z. HasKind (plain_names G) K (s w) z) (sym (agree w p)) (kd w)
      go false p = h w p

  mix-free : (env : List Assumption) (s other : TypeAssignment) (w : ℕ) → free_in env w ≡ true → mix env s other w ≡ s w
  mix-free env s other w p = ap (λ b. cond b (s w) (other w)) p

  mix-other : (env : List Assumption) (s other : TypeAssignment) (w : ℕ) → free_in env w ≡ false
      → mix env s other w ≡ other w
  mix-other env s other w p = ap (λ b. cond b (s w) (other w)) p

  all_among : (s : TypeAssignment) (bs given : List Bound) → AllAmong bs given
      → AllAmong (map (applied_bound s) bs) (map (applied_bound s) given)
  all_among s [] given h = tt
  all_among s (b ∷ bs) given h = (among-map (applied_bound s) b given h.0, all_among s bs given h.1)

  all_typed : (typed : IsTyped) (meant : MeantTyping) → Carries typed meant
      → (kinds : Kinds) (en : List Assumption) (s : TypeAssignment) → IsKinded G K kinds s
      → (ks : List LocalTypes) → Covers G K s en ks → (given : List Bound) (is : List ℕ)
      → AllTyped typed kinds en given is → AllMeant meant ks (map (applied_bound s) given) is
  all_typed typed meant step kinds en s kd ks cov given [] h = tt
  all_typed typed meant step kinds en s kd ks cov given (i ∷ is) (first, rest) = (
    (
      map (applied_bound s) first.0,
      step i kinds en first.0 first.1 s kd ks cov,
      all_among s first.0 given first.2,
    ),
    all_typed typed meant step kinds en s kd ks cov given is rest,
  )

  group_at : (typed : IsTyped) (meant : MeantTyping) → Carries typed meant
      → (ds : List LocalDecl) (kinds : Kinds) (env : List Assumption) (members : List ℕ)
      (g : GroupTyping typed ds kinds env members)
      (s : TypeAssignment) → IsKinded G K g.inside s → (ks : List LocalTypes) → Covers G K s env ks
      → GroupMeaning meant ds ks members
  group_at typed meant step ds kinds env members g s kd ks cov = record {
    given = map (applied_bound s) g.given;
    names = map-map (λ (b : Bound). b.name) (applied_bound s) (λ b. b.name) (λ b. refl) g.given ∙ g.names;
    each = subst (λ bs. AllMeant meant (only bs ks) (map (applied_bound s) g.given) members) (sym
        (unsigned_applied s ds g.given))
        (all_typed typed meant step g.inside _ s kd _ (covers-only s
        (unsigned ds g.given) env ks cov) g.given members g.each);
  }

  abbrev some : Kinds → TypeAssignment
  some kinds w = (rich (kinds w)).0

  -- a group has every instance of what it generalises
  generalised-has : (typed : IsTyped) (meant : MeantTyping) → Carries typed meant
      → (ds : List LocalDecl) (kinds : Kinds) (env : List Assumption) (members : List ℕ)
      (g : GroupTyping typed ds kinds env members)
      (s : TypeAssignment) → IsKinded G K kinds s → (ks : List LocalTypes) → Covers G K s env ks → (b : Bound)
      → Among b g.given → (t : TypeTerm)
      → IsInstanceUnder G K s (record { generic = λ w. not (free_in env w); kinds = g.inside; body = b.type }) t
      → (m : GroupMeaning meant ds ks members) × Among (record { name = b.name; type = t }) m.given
  unfolding group_at
  generalised-has typed meant step ds kinds env members g s kd ks cov b among t i = (
    group_at typed meant step ds kinds env members g u (mix-kinded env kinds g.inside s other kd g.agree kinded) ks
        (covers-agree s u env ks (mix-free env s other) cov),
    subst (λ z. Among (record { name = b.name; type = z }) (map (applied_bound u) g.given)) same (among-map
        (applied_bound u) b g.given among),
  )
    where
      other : TypeAssignment
      other w = cond (occurs_in w b.type) (i.choice w) (some g.inside w)

      u : TypeAssignment
      u = mix env s other

      kinded : (w : ℕ) → free_in env w ≡ false → HasKind (plain_names G) K (other w) (g.inside w)
      kinded w f = go (occurs_in w b.type) refl
        where
          go : (c : Bool) → occurs_in w b.type ≡ c → HasKind (plain_names G) K (cond c (i.choice w)
              (some g.inside w)) (g.inside w)
          go true p = i.kinded w p (ap not f)
          go false p = (rich (g.inside w)).1

      same : applied u b.type ≡ t
      same = agreeing u i.choice b.type at ∙ i.gives
        where
          at : (w : ℕ) → occurs_in w b.type ≡ true → u w ≡ i.choice w
          at w o = go (free_in env w) refl
            where
              go : (c : Bool) → free_in env w ≡ c → cond c (s w) (other w) ≡ i.choice w
              go true p = sym (i.fixed w o (ap not p))
              go false p = ap (λ c. cond c (i.choice w) (some g.inside w)) o

  -- a declared type with rigid variables has every instance
  assigned-kinded : (inside : Kinds) (new : ℕ → ℕ) (choice : TypeAssignment) (t : TypeTerm) (w : ℕ)
      (other : TypeTerm) → ((v : ℕ) → occurs_in v t ≡ true → HasKind (plain_names G) K (choice v) (inside (new v)))
      → HasKind (plain_names G) K other (inside w) → HasKind (plain_names G) K (assign new choice t w other) (inside w)
  assigned-kinded inside new choice (var i) w other h d = go (nat_eq (new i) w) refl
    where
      go : (b : Bool) → nat_eq (new i) w ≡ b → HasKind (plain_names G) K (cond b (choice i) other) (inside w)
      go true q = subst (λ z. HasKind (plain_names G) K (choice i) (inside z)) (eqb-true (new i) w q) (h i
          (eq-eqb i i refl))
      go false q = d
  assigned-kinded inside new choice (con n) w other h d = d
  assigned-kinded inside new choice (app f a) w other h d = assigned-kinded inside new choice f w _ (λ v o. h v (ap
      (λ b. b || occurs_in v a) o))
      (assigned-kinded inside new choice a w other (λ v o. h v (or_right (occurs_in v f) (occurs_in v a) o)) d)

  -- the assignment that puts the choice for the rigid variables
  abbrev put : Kinds → List Assumption → TypeAssignment → (ℕ → ℕ) → TypeAssignment → TypeTerm → TypeAssignment
  put inside env s new choice body = mix env s (λ w. assign new choice body w (some inside w))

  put-kinded : (kinds inside : Kinds) (env : List Assumption) (s : TypeAssignment) (c : TypeScheme) (t : TypeTerm)
      (choice : TypeAssignment) → IsKinded G K kinds s → Agree env kinds inside → (r : IsRigid inside env c t)
      → IsChoice G K c choice
      → IsKinded G K inside (put inside env s r.new choice c.body)
  put-kinded kinds inside env s c t choice kd agree r inst = mix-kinded env kinds inside s _ kd agree
      (λ w f. assigned-kinded inside r.new choice c.body w _ (λ v o. subst (λ z. HasKind (plain_names G) K
      (choice v) z) (sym (r.kinded v o)) (inst v o)) (rich (inside w)).1)

  put-gives : (inside : Kinds) (env : List Assumption) (s : TypeAssignment) (c : TypeScheme) (t : TypeTerm)
      (choice : TypeAssignment) (r : IsRigid inside env c t) → applied
      (put inside env s r.new choice c.body) t ≡ applied choice c.body
  put-gives inside env s c t choice r = ap (applied (put inside env s r.new choice c.body)) (sym r.gives)
      ∙ sym (composing (put inside env s r.new choice c.body) (λ v. var (r.new v)) c.body)
      ∙ agreeing _ choice c.body (λ v o. mix-other env s (λ w. assign r.new choice c.body w (some inside w))
      (r.new v) (r.apart v o)
      ∙ assign-found r.new choice c.body v _ (λ u p q. r.distinct u v p o q) o)

  signature : (typed : IsTyped) (meant : MeantTyping) → Carries typed meant
      → (ds : List LocalDecl) (kinds : Kinds) (env : List Assumption) (members : List ℕ) (e : Assumption)
      (s : TypeAssignment) → IsKinded G K kinds s → (ks : List LocalTypes) → Covers G K s env ks
      → MeetsSignature typed ds kinds env members e → HasEveryInstance G K meant ds ks members e
  unfolding group_at
  signature typed meant step ds kinds env members e s kd ks cov h = record {
    every = λ choice inst. (
      group_at typed meant step ds kinds env members h.typing
          (put h.typing.inside env s h.rigid.new choice e.scheme.body)
          (put-kinded kinds h.typing.inside env s e.scheme h.type choice kd h.typing.agree h.rigid inst) ks
          (covers-agree s _ env ks (mix-free env s _) cov),
      subst (λ z. Among (record { name = e.name; type = z }) (map (applied_bound
          (put h.typing.inside env s h.rigid.new choice e.scheme.body)) h.typing.given))
          (put-gives h.typing.inside env s e.scheme h.type choice h.rigid) (among-map (applied_bound
          (put h.typing.inside env s h.rigid.new choice e.scheme.body)) _ h.typing.given h.has),
    );
  }

  -- what a group gives is covered by the sets_of
  covers-sets : (typed : IsTyped) (meant : MeantTyping) → Carries typed meant
      → (ds : List LocalDecl) (kinds : Kinds) (env : List Assumption) (members : List ℕ)
      (g : GroupTyping typed ds kinds env members)
      (s : TypeAssignment) → IsKinded G K kinds s → (ks : List LocalTypes) → Covers G K s env ks
      → (bs : List Bound) → ((b : Bound) → Among b bs → Among b g.given)
      → Covers G K s (generalised env g.inside bs ++ env) (sets_of meant ds ks members (map (λ b. b.name) bs) ks)
  covers-sets typed meant step ds kinds env members g s kd ks cov [] all = cov
  covers-sets typed meant step ds kinds env members g s kd ks cov (b ∷ bs) all = (
    refl,
    (λ t i. generalised-has typed meant step ds kinds env members g s kd ks cov b (all b (inl refl)) t i),
    covers-sets typed meant step ds kinds env members g s kd ks cov bs (λ x h. all x (inr h)),
  )

  unsigned_names-of : (ds : List LocalDecl) (members : List ℕ) (given : List Bound)
      → map (λ b. b.name) given ≡ names_bound ds members → map (λ b. b.name)
      (unsigned ds given) ≡ unsigned_names ds members
  unsigned_names-of ds members given h = sym (filter-map (λ b. b.name) (λ x. not (is_among x (signed_names ds)))
      (λ b. not (is_among b.name (signed_names ds))) (λ b. refl) given)
      ∙ ap (filter (λ x. not (is_among x (signed_names ds)))) h

  groups_m : (typed : IsTyped) (meant : MeantTyping) → Carries typed meant
      → (ds : List LocalDecl) (es : List Assumption) (kinds : Kinds) (gs : List IndexGroup)
      (env after : List Assumption) → GroupAfterGroup typed ds es kinds gs env after
      → (s : TypeAssignment) → IsKinded G K kinds s → (ks : List LocalTypes) → Covers G K s env ks
      → (P : List LocalTypes → Type 0) → ((rest : List LocalTypes) → Covers G K s after rest → P rest)
      → MeantGroups G K meant ds es gs ks P
  groups_m typed meant step ds es kinds [] env after h s kd ks cov P k = k ks (subst (λ z. Covers G K s z ks)
      (sym h) cov)
  groups_m typed meant step ds es kinds (g ∷ gs) env after (new, first, rest) s kd ks cov P k = (
    group_at typed meant step ds kinds env g.members first.typing (mix env s (some first.typing.inside))
        (mix-kinded env kinds first.typing.inside s (some first.typing.inside) kd first.typing.agree (λ w f. (rich
        (first.typing.inside w)).1)) ks (covers-agree s _ env ks (mix-free env s _) cov),
    (λ e a b. signature typed meant step ds kinds env g.members e s kd ks cov (first.signatures e a b)),
    groups_m typed meant step ds es kinds gs (new ++ env) after rest s kd _
        (subst (λ z. Covers G K s (z ++ env) (sets_of meant ds ks g.members (unsigned_names ds g.members) ks))
        (sym first.generalises)
        (subst (λ xs. Covers G K s (generalised env first.typing.inside (unsigned ds first.typing.given) ++ env)
        (sets_of meant ds ks g.members xs ks))
        (unsigned_names-of ds g.members first.typing.given first.typing.names)
        (covers-sets typed meant step ds kinds env g.members first.typing s kd ks cov
        (unsigned ds first.typing.given) (λ b a. filtered (λ b. not (is_among b.name
        (signed_names ds))) b first.typing.given a)))) P k,
  )

  covers-declared : (ss : List Signed) (es : List Assumption) → HaveSchemes G ss es
      → (s : TypeAssignment) (env : List Assumption) (ks : List LocalTypes) → Covers G K s env ks
      → Covers G K s (es ++ env) (declared_sets G K es ks)
  covers-declared [] es h s env ks cov = subst (λ z. Covers G K s (z ++ env) (declared_sets G K z ks)) (sym h) cov
  covers-declared (x ∷ ss) es (c, rest, p, q, h) s env ks cov = subst (λ z. Covers G K s (z ++ env)
      (declared_sets G K z ks)) (sym p) (
        refl,
        (λ t i. (i.choice, (λ w o. i.kinded w o (q.2.generic w)), i.gives)),
        covers-declared ss rest h s env ks cov,
      )

  extends_m : (typed : IsTyped) (meant : MeantTyping) → Carries typed meant
      → (ds : List LocalDecl) (kinds : Kinds) (env after : List Assumption) → Extends G typed ds kinds env after
      → (s : TypeAssignment) → IsKinded G K kinds s → (ks : List LocalTypes) → Covers G K s env ks
      → (P : List LocalTypes → Type 0) → ((rest : List LocalTypes) → Covers G K s after rest → P rest)
      → MeantExtension G K meant ds ks P
  extends_m typed meant step ds kinds env after h s kd ks cov P k = (
    h.declared,
    h.schemes,
    h.groups,
    h.order,
    groups_m typed meant step ds h.declared kinds h.groups (h.declared ++ env) after h.each s kd _ (covers-declared
        (all_signed ds) h.declared h.schemes s env ks cov) P k,
  )

  -- ---- expressions
  mutual
    has : (e : Exp) (kinds : Kinds) (env : List Assumption) (t : TypeTerm) → HasType G any e kinds env t
        → (s : TypeAssignment) → IsKinded G K kinds s → (ks : List LocalTypes) → Covers G K s env ks
        → MeantType G K e ks (applied s t)
    has (Local x) kinds env t h s kd ks cov = (
      stands kinds s kd t h.0,
      selected s env ks x h.1 _ cov h.2
          (under kinds s kd h.1 t h.3),
    )
    has (Global n) kinds env t h s kd ks cov = (
      stands kinds s kd t h.0,
      h.1,
      h.2,
      h.3,
      h.4,
      of_declared kinds s kd h.1 h.2 h.4 t h.5,
    )
    has (Int n) kinds env t h s kd ks cov = (stands kinds s kd t h.0, ap (applied s) h.1)
    has (Chr c) kinds env t h s kd ks cov = (stands kinds s kd t h.0, ap (applied s) h.1)
    has (Str cs) kinds env t h s kd ks cov = (stands kinds s kd t h.0, ap (applied s) h.1)
    has (Apply' y (more_of-Exp f end_of-Exp) z es) kinds env t h s kd ks cov = (
      stands kinds s kd t h.0,
      map (applied s) h.1,
      subst (λ v. MeantType G K f ks v) (functions_applied s h.1 t) (has f kinds env (functions h.1 t) h.2 s kd ks cov),
      have es kinds env h.1 h.3 s kd ks cov,
    )
    has (Lambda' ps y (more_of-Exp e end_of-Exp)) kinds env t h s kd ks cov = (
      stands kinds s kd t h.0,
      map (applied s) h.1,
      applied s h.2,
      map (applied_bound s) h.3,
      ap (applied s) h.4 ∙ functions_applied s h.1 h.2,
      bind_each kinds s kd ps h.1 h.3 h.5,
      has e kinds (monomorphic h.3 ++ env) h.2 h.6 s kd _ (covers-only s h.3 env ks cov),
    )
    has (Let' y ds z (more_of-Exp e end_of-Exp)) kinds env t h s kd ks cov = (
      stands kinds s kd t h.0,
      extends_m (λ i k en bs. IsTypedAt G any ds i k en bs) (λ i ks bs. MeantAt G K ds i ks bs)
          (λ i k en bs g s kd ks cov. typed_at ds i k en bs g s kd ks cov)
          (local_decls ds) kinds env h.1 h.2 s kd ks cov
          (λ after. MeantType G K e after (applied s t)) (λ rest c. has e kinds h.1 t h.3 s kd rest c),
    )
    has (If' y (more_of-Exp a end_of-Exp) x (more_of-Exp b end_of-Exp) z
        (more_of-Exp c end_of-Exp)) kinds env t h s kd ks cov = (
          stands kinds s kd t h.0,
          has a kinds env boolean h.1 s kd ks cov,
          has b kinds env t h.2 s kd ks cov,
          has c kinds env t h.3 s kd ks cov,
        )
    has (Case' y (more_of-Exp e end_of-Exp) z as') kinds env t h s kd ks cov = (
      stands kinds s kd t h.0,
      applied s h.1,
      has e kinds env h.1 h.2 s kd ks cov,
      alternatives as' kinds env h.1 t h.3 s kd ks cov,
    )
    has (Tuple' y es) kinds env t h s kd ks cov = (
      stands kinds s kd t h.0,
      map (applied s) h.1,
      ap
          (applied s) h.2 ∙ tuple_applied s h.1,
      have es kinds env h.1 h.3 s kd ks cov,
    )
    has (ListOf' y es) kinds env t h s kd ks cov = (
      stands kinds s kd t h.0,
      applied s h.1,
      map (applied s) h.2,
      ap
          (applied s) h.3,
      all_are s h.1 h.2 h.4,
      have es kinds env h.2 h.5 s kd ks cov,
    )
    has (RightSection' y (more_of-Exp op end_of-Exp) z (more_of-Exp a end_of-Exp)) kinds env t h s kd ks cov = (
      stands kinds s kd t h.0,
      applied s h.1,
      applied s h.2,
      applied s h.3,
      ap (applied s) h.4,
      has op kinds env _ h.5 s kd ks cov,
      has a kinds env h.2 h.6 s kd ks cov,
    )
    has (Annot' y (more_of-Exp e end_of-Exp) w) kinds env t h s kd ks cov = (
      stands kinds s kd t h.0,
      h.1,
      h.2,
      (λ choice inst. subst (λ z. MeantType G K e ks z) (put-gives h.3.inside env s h.1 h.3.type choice h.3.rigid)
          (has e h.3.inside env h.3.type h.3.has (put h.3.inside env s h.3.rigid.new choice h.1.body)
          (put-kinded kinds h.3.inside env s h.1 h.3.type choice kd h.3.agree h.3.rigid inst) ks
          (covers-agree s _ env ks (mix-free env s _) cov))),
      of_declared kinds s kd h.2.0 h.1 h.2.2 t h.4,
    )

    have : {m : _} (es : Row_of-Exp m) (kinds : Kinds) (env : List Assumption) (ts : List TypeTerm)
        → HaveTypes G any es kinds env ts → (s : TypeAssignment) → IsKinded G K kinds s → (ks : List LocalTypes)
        → Covers G K s env ks → MeantTypes G K es ks (map (applied s) ts)
    have end_of-Exp kinds env ts h s kd ks cov = ap (map (applied s)) h
    have (more_of-Exp e es) kinds env ts h s kd ks cov = (
      applied s h.0,
      map (applied s) h.1,
      ap (map
          (applied s)) h.2,
      has e kinds env h.0 h.3 s kd ks cov,
      have es kinds env h.1 h.4 s kd ks cov,
    )

    alternatives : {m : _} (as' : Row_of-Alt m) (kinds : Kinds) (env : List Assumption) (u t : TypeTerm)
        → HaveAlternatives G any as' kinds env u t → (s : TypeAssignment) → IsKinded G K kinds s
        → (ks : List LocalTypes) → Covers G K s env ks
        → MeantAlternatives G K as' ks (applied s u) (applied s t)
    alternatives end_of-Alt kinds env u t h s kd ks cov = tt
    alternatives (more_of-Alt a as') kinds env u t (first, rest) s kd ks cov =
        (alternative a kinds env u t first s kd ks cov, alternatives as' kinds env u t rest s kd ks cov)

    alternative : (a : Alt) (kinds : Kinds) (env : List Assumption) (u t : TypeTerm)
        → IsAlternative G any a kinds env u t → (s : TypeAssignment) → IsKinded G K kinds s
        → (ks : List LocalTypes) → Covers G K s env ks → MeantAlternative G K a ks (applied s u) (applied s t)
    alternative (Alt' p x) kinds env u t (bs, b, g) s kd ks cov = (
      map (applied_bound s) bs,
      binds kinds s kd p u bs b,
      right x kinds (monomorphic bs ++ env) t g s kd _ (covers-only s bs env ks cov),
    )

    right : (x : Rhs) (kinds : Kinds) (env : List Assumption) (t : TypeTerm) → IsRightSide G any x kinds env t
        → (s : TypeAssignment) → IsKinded G K kinds s → (ks : List LocalTypes) → Covers G K s env ks
        → MeantRightSide G K x ks (applied s t)
    right (Rhs' y cs z ds) kinds env t h s kd ks cov = (
      stands kinds s kd t h.0,
      extends_m (λ i k en bs. IsTypedAt G any ds i k en bs) (λ i ks bs. MeantAt G K ds i ks bs)
          (λ i k en bs g s kd ks cov. typed_at ds i k en bs g s kd ks cov)
          (local_decls ds) kinds env h.1 h.2 s kd ks cov
          (λ after. MeantChoices G K cs after (applied s t)) (λ rest c. choices cs kinds h.1 t h.3 s kd rest c),
    )

    choices : {m : _} (cs : Row_of-Choice m) (kinds : Kinds) (env : List Assumption) (t : TypeTerm)
        → HaveChoices G any cs kinds env t → (s : TypeAssignment) → IsKinded G K kinds s → (ks : List LocalTypes)
        → Covers G K s env ks → MeantChoices G K cs ks (applied s t)
    choices end_of-Choice kinds env t h s kd ks cov = tt
    choices (more_of-Choice y gs e cs) kinds env t ((bs, b, h), rest) s kd ks cov = (
      guards gs kinds env bs b s kd ks cov (λ after. MeantType G K e after (applied s t))
          (λ after c. has e kinds (monomorphic bs ++ env) t h s kd after c),
      choices cs kinds env t rest s kd ks cov,
    )

    guards : {m : _} (gs : Row_of-Guard m) (kinds : Kinds) (env : List Assumption) (bs : List Bound)
        → GuardsBind G any gs kinds env bs → (s : TypeAssignment) → IsKinded G K kinds s → (ks : List LocalTypes)
        → Covers G K s env ks
        → (P : List LocalTypes → Type 0) → ((after : List LocalTypes) → Covers G K s (monomorphic bs ++ env) after
        → P after) → MeantGuards G K gs ks P
    guards end_of-Guard kinds env bs h s kd ks cov P k = k ks (subst (λ z. Covers G K s (monomorphic z ++ env) ks)
        (sym h) cov)
    guards (more_of-Guard g gs) kinds env bs h s kd ks cov P k = (
      map (applied_bound s) h.0,
      guard g kinds env h.0 h.2 s kd ks cov,
      guards gs kinds (monomorphic h.0 ++ env) h.1 h.3 s kd _ (covers-only s h.0 env ks cov) P
          (λ after c. k after (subst (λ z. Covers G K s z after) (sym (ap (λ z. monomorphic z ++ env) h.4
          ∙ ap (λ z. z ++ env) (map-append _ h.1 h.0) ∙ append_assoc (monomorphic h.1) (monomorphic h.0) env)) c)),
    )

    guard : (g : Guard) (kinds : Kinds) (env : List Assumption) (bs : List Bound) → IsGuard G any g kinds env bs
        → (s : TypeAssignment) → IsKinded G K kinds s → (ks : List LocalTypes) → Covers G K s env ks
        → MeantGuard G K g ks (map (applied_bound s) bs)
    guard (Test e) kinds env bs h s kd ks cov = (
      has e kinds env boolean h.0 s kd ks cov,
      ap (map
          (applied_bound s)) h.1,
    )
    guard (Bind p e) kinds env bs (t, b, h) s kd ks cov = (
      applied s t,
      binds kinds s kd p t bs b,
      has e kinds env t h s kd ks cov,
    )

    decl : (d : Decl) (kinds : Kinds) (env : List Assumption) (bs : List Bound) → IsTypedDecl G any d kinds env bs
        → (s : TypeAssignment) → IsKinded G K kinds s → (ks : List LocalTypes) → Covers G K s env ks
        → MeantDecl G K d ks (map (applied_bound s) bs)
    decl (DataDecl x w ps cs) kinds env bs h s kd ks cov = ap (map (applied_bound s)) h
    decl (SynonymDecl x ps b) kinds env bs h s kd ks cov = ap (map (applied_bound s)) h
    decl (TypeSig x w) kinds env bs h s kd ks cov = ap (map (applied_bound s)) h
    decl (FixityOf x f) kinds env bs h s kd ks cov = ap (map (applied_bound s)) h
    decl (Clause x ps y) kinds env bs h s kd ks cov = (
      map (applied s) h.0,
      applied s h.1,
      map (applied_bound s) h.2,
      ap (map (applied_bound s)) h.3 ∙ ap (λ v. record { name = x; type = v } ∷ []) (functions_applied s h.0 h.1),
      subst (λ v. IsProperType G any K v) (functions_applied s h.0 h.1) (stands kinds s kd (functions h.0 h.1) h.4),
      bind_each kinds s kd ps h.0 h.2 h.5,
      right y kinds (monomorphic h.2 ++ env) h.1 h.6 s kd _ (covers-only s h.2 env ks cov),
    )
    decl (PatBind p y) kinds env bs (t, b, h) s kd ks cov = (
      applied s t,
      binds kinds s kd p t bs b,
      right y kinds env t h s kd ks cov,
    )

    typed_at : {m : _} (ds : Row_of-Decl m) (i : ℕ) (kinds : Kinds) (env : List Assumption) (bs : List Bound)
        → IsTypedAt G any ds i kinds env bs → (s : TypeAssignment) → IsKinded G K kinds s → (ks : List LocalTypes)
        → Covers G K s env ks → MeantAt G K ds i ks (map (applied_bound s) bs)
    typed_at end_of-Decl i kinds env bs h s kd ks cov = absurd h
    typed_at (more_of-Decl d ds) zero kinds env bs h s kd ks cov = decl d kinds env bs h s kd ks cov
    typed_at (more_of-Decl d ds) (suc i) kinds env bs h s kd ks cov = typed_at ds i kinds env bs h s kd ks cov

-- the sets of instances cover their schemes
pub covers-under : (G : Globals) (K : Kinds) (s : TypeAssignment) (env : List Assumption)
    → Covers G K s env (sets_under G K s env)
covers-under G K s [] = tt
covers-under G K s (e ∷ es) = (refl, (λ t i. i), covers-under G K s es)

pub typed_expressions_are_meant : TypedExpressionsAreMeant
typed_expressions_are_meant G K rich e kinds env t h s kd =
    has G K rich e kinds env t h s kd (sets_under G K s env) (covers-under G K s env)

pub typed_declarations_are_meant : TypedDeclarationsAreMeant
typed_declarations_are_meant G K rich d kinds env bs h s kd =
    decl G K rich d kinds env bs h s kd (sets_under G K s env) (covers-under G K s env)

pub typed_patterns_are_meant : TypedPatternsAreMeant
typed_patterns_are_meant G K rich p kinds t bs h s kd = binds G K rich kinds s kd p t bs h
