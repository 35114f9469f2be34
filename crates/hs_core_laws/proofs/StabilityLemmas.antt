-- A typing stays one where names of types stand for closed types.
use Rattle.std.proofs.Common.{◌≡◌, refl, sym, ap, ap₂, ◌∙◌, subst, inl, inr, ℕ, zero, suc, Bool, true, false, not, ◌&&◌}
use Rattle.std.proofs.Common.{◌||◌, cond, List, [], ◌∷◌, ◌++◌, map, filter}
use Rattle.std.proofs.lemmas.List.{map-append}
use Rattle.std.proofs.Math.Path.{fun_ext}
use Rattle.bp_base.proofs.SetLemmas.{among-map, among-image}
use Rattle.bp_base.specs.Texts.{Text}
use Rattle.bp_base.specs.Lists.{Among, is_among}
use Rattle.bp_base.specs.declared.special.Special.TheVariants as s
use Rattle.hs_core.specs.declared.group.IndexGroup.{IndexGroup}
use Rattle.hs_core.specs.declared.tree.Written.{Written}
use Rattle.hs_core.specs.declared.tree.Pat.{Pat}
use Rattle.hs_core.specs.declared.tree.Pat.TheVariants.{PVar, PWild, PInt, PChr, PStr, PCon', PTuple', PList', PAs'}
use Rattle.hs_core.specs.declared.tree.Pat.TheVariants.{PLazy'}
use Rattle.hs_core.specs.declared.tree.Pat.TheBlock.{Row_of-Pat, end_of-Pat, more_of-Pat}
use Rattle.hs_core.specs.declared.tree.Exp.{Exp}
use Rattle.hs_core.specs.declared.tree.Exp.TheVariants.{Local, Global, Int, Chr, Str, Apply', Lambda', Let', If', Case'}
use Rattle.hs_core.specs.declared.tree.Exp.TheVariants.{Tuple', List' as ListOf', RightSection', Annot'}
use Rattle.hs_core.specs.declared.tree.Decl.{Decl}
use Rattle.hs_core.specs.declared.tree.Decl.TheVariants.{DataDecl, SynonymDecl, TypeSig, FixityOf, Clause, PatBind}
use Rattle.hs_core.specs.declared.tree.Rhs.{Rhs, Rhs'}
use Rattle.hs_core.specs.declared.tree.Guard.{Guard}
use Rattle.hs_core.specs.declared.tree.Guard.TheVariants.{Test, Bind}
use Rattle.hs_core.specs.declared.tree.Alt.{Alt, Alt'}
use Rattle.hs_core.specs.declared.tree.Decl.TheBlock.{Row_of-Choice, end_of-Choice, more_of-Choice, Row_of-Decl}
use Rattle.hs_core.specs.declared.tree.Decl.TheBlock.{end_of-Decl, more_of-Decl, Row_of-Guard, end_of-Guard}
use Rattle.hs_core.specs.declared.tree.Decl.TheBlock.{more_of-Guard, Row_of-Exp, end_of-Exp, more_of-Exp, Row_of-Alt}
use Rattle.hs_core.specs.declared.tree.Decl.TheBlock.{end_of-Alt, more_of-Alt}
use Rattle.type_terms.specs.Terms.{var, con, app, occurs_in, applied}
use Rattle.hs_core.specs.Types.{KindTerm, star, arrow, TypeTerm, TypeAssignment, any, character, boolean, function}
use Rattle.hs_core.specs.Types.{functions, list_of, tuple_of, special_type, applied_to, count}
use Rattle.hs_core.specs.Kinds.{HasKind}
use Rattle.hs_core.specs.Schemes.{TypeScheme, IsInstance, IsDeclared, Assumption, Bound, Selects, monotype, monomorphic}
use Rattle.hs_core.specs.Schemes.{free_in, generalised, IsRigid, Agree}
use Rattle.hs_core.specs.Globals.{Constructor, Globals, plain_names}
use Rattle.hs_core.specs.WellTyped.{typed_in}
use Rattle.hs_core_laws.specs.Stability.{Replacement, replaced_names, replaced_scheme, replaced_assumption}
use Rattle.hs_core_laws.specs.Stability.{replaced_environment, replaced_bound, replaced_constructor, Follows}
use Rattle.hs_core_laws.specs.Stability.{ExpressionsStayTyped, DeclarationsStayTyped, BindingsStayTyped}
use Rattle.hs_core.specs.FreeNames.{Signed, LocalDecl, local_decls, all_signed, signed_names}
use Rattle.hs_core.specs.LocalGroups.{IsTyped, HasScheme, HaveSchemes, names_bound, unsigned, AllAmong, AllTyped}
use Rattle.hs_core.specs.LocalGroups.{GroupTyping, MeetsSignature, IsGroupTyped, GroupAfterGroup, Extends}
use Rattle.hs_core.specs.Typing.{Kinds, IsProperType, IsBuilt, AllAre, Binds, BindAll, BindEach, HasType, HaveTypes}
use Rattle.hs_core.specs.Typing.{HaveAlternatives, IsAlternative, IsRightSide, HaveChoices, GuardsBind, IsGuard}
use Rattle.hs_core.specs.Typing.{IsTypedDecl, IsTypedAt}

-- ---- lists
pub map-map : {A B C : Type 0} (g : B → C) (f : A → B) (h : A → C) → ((x : A) → g (f x) ≡ h x) → (xs : List A)
    → map g (map f xs) ≡ map h xs
map-map g f h p [] = refl
map-map g f h p (x ∷ xs) = ap₂ (λ y l. y ∷ l) (p x) (map-map g f h p xs)

pub count-map : {A B : Type 0} (f : A → B) (xs : List A) → count (map f xs) ≡ count xs
count-map f [] = refl
count-map f (x ∷ xs) = ap suc (count-map f xs)

filter-step : {A B : Type 0} (f : A → B) (p : B → Bool) (q : A → Bool) (x : A) (xs : List A) (b : Bool)
    → filter p (map f xs) ≡ map f (filter q xs)
    → cond b (f x ∷ filter p (map f xs)) (filter p (map f xs)) ≡ map f (cond b (x ∷ filter q xs) (filter q xs))
filter-step f p q x xs true h = ap (λ l. f x ∷ l) h
filter-step f p q x xs false h = h

pub filter-map : {A B : Type 0} (f : A → B) (p : B → Bool) (q : A → Bool) → ((x : A) → p (f x) ≡ q x) → (xs : List A)
    → filter p (map f xs) ≡ map f (filter q xs)
filter-map f p q e [] = refl
filter-map f p q e (x ∷ xs) = ap (λ b. cond b (f x ∷ filter p (map f xs)) (filter p (map f xs))) (e x)
    ∙ filter-step f p q x xs (q x) (filter-map f p q e xs)

-- ---- types
module _ (r : Replacement) (G : Globals) (H : Globals) (F : Follows r G H) where
  occurs : (w : ℕ) (t : TypeTerm) → occurs_in w (replaced_names r t) ≡ occurs_in w t
  occurs w (var i) = refl
  occurs w (con n) = F.apart n w
  occurs w (app f a) = ap₂ ◌||◌ (occurs w f) (occurs w a)

  free : (w : ℕ) (es : List Assumption) → free_in (replaced_environment r es) w ≡ free_in es w
  free w [] = refl
  free w (e ∷ es) = ap₂ (λ a b. (a && not (e.scheme.generic w)) || b) (occurs w e.scheme.body) (free w es)

  applies : (s : TypeAssignment) (t : TypeTerm)
      → applied (λ w. replaced_names r (s w)) (replaced_names r t) ≡ replaced_names r (applied s t)
  applies s (var i) = refl
  applies s (con n) = F.closed n _
  applies s (app f a) = ap₂ app (applies s f) (applies s a)

  kept : (kinds : Kinds) (t : TypeTerm) (k : KindTerm) → HasKind (plain_names G) kinds t k
      → HasKind (plain_names H) kinds (replaced_names r t) k
  kept kinds (var i) k h = h
  kept kinds (con n) k h = F.kinds n k h kinds
  kept kinds (app f a) k (j, hf, ha) = (j, kept kinds f (arrow j k) hf, kept kinds a j ha)

  back_again : (kinds others : Kinds) (t : TypeTerm) (k j : KindTerm) → HasKind (plain_names G) kinds t k
      → HasKind (plain_names H) others (replaced_names r t) j → HasKind (plain_names G) others t j
  back_again kinds others (var i) k j h g = g
  back_again kinds others (con n) k j h g = subst (λ z. plain_names G n z) (F.back n k j others h g) h
  back_again kinds others (app f a) k j (i, hf, ha) (l, gf, ga) =
      (l, back_again kinds others f (arrow i k) (arrow l j) hf gf, back_again kinds others a i l ha ga)

  proper : (kinds : Kinds) (t : TypeTerm) → IsProperType G any kinds t → IsProperType H any kinds (replaced_names r t)
  proper kinds t h = (refl, kept kinds t star h.1)

  function_replaced : (t u : TypeTerm)
      → replaced_names r (function t u) ≡ function (replaced_names r t) (replaced_names r u)
  function_replaced t u = ap (λ a. app (app a (replaced_names r t)) (replaced_names r u)) F.arrow_stays

  functions_replaced : (us : List TypeTerm) (v : TypeTerm)
      → replaced_names r (functions us v) ≡ functions (map (replaced_names r) us) (replaced_names r v)
  functions_replaced [] v = refl
  functions_replaced (u ∷ us) v = function_replaced u (functions us v)
      ∙ ap (λ z. function (replaced_names r u) z) (functions_replaced us v)

  list_replaced : (t : TypeTerm) → replaced_names r (list_of t) ≡ list_of (replaced_names r t)
  list_replaced t = ap (λ l. app l (replaced_names r t)) F.list_stays

  applied_to_replaced : (t : TypeTerm) (us : List TypeTerm)
      → replaced_names r (applied_to t us) ≡ applied_to (replaced_names r t) (map (replaced_names r) us)
  applied_to_replaced t [] = refl
  applied_to_replaced t (u ∷ us) = applied_to_replaced (app t u) us

  tuple_replaced : (us : List TypeTerm) → replaced_names r (tuple_of us) ≡ tuple_of (map (replaced_names r) us)
  tuple_replaced us = applied_to_replaced _ us
      ∙ ap (λ t. applied_to t (map (replaced_names r) us))
      (F.tuple_stays (count us) ∙ ap (λ n. special_type (s.Tuple n)) (sym (count-map (replaced_names r) us)))

  strings : replaced_names r (list_of character) ≡ list_of character
  strings = list_replaced character ∙ ap list_of F.character_stays

  -- ---- schemes
  declared : (d : TypeTerm) (c : TypeScheme) → IsDeclared (plain_names G) d c
      → IsDeclared (plain_names H) (replaced_names r d) (replaced_scheme r c)
  declared d c h = record {
    generic = h.generic;
    kinds = record {
      fit = kept c.kinds d star h.kinds.fit;
      least = λ other g w o. h.kinds.least other (back_again c.kinds other d star star h.kinds.fit g) w
          (sym (occurs w d) ∙ o);
    };
    body = ap (replaced_names r) h.body;
  }

  instance : (kinds : Kinds) (c : TypeScheme) (t : TypeTerm) → IsInstance (plain_names G) kinds c t
      → IsInstance (plain_names H) kinds (replaced_scheme r c) (replaced_names r t)
  instance kinds c t h = record {
    choice = λ w. replaced_names r (h.choice w);
    fixed = λ w g. ap (replaced_names r) (h.fixed w g);
    kinded = λ w o g. kept kinds (h.choice w) (c.kinds w) (h.kinded w (sym (occurs w c.body) ∙ o) g);
    gives = applies h.choice c.body ∙ ap (replaced_names r) h.gives;
  }

  selects : (es : List Assumption) (x : Text) (c : TypeScheme) → Selects es x c
      → Selects (replaced_environment r es) x (replaced_scheme r c)
  selects [] x c h = absurd h
  selects (e ∷ es) x c (inl h) = inl (h.0, ap (replaced_scheme r) h.1)
  selects (e ∷ es) x c (inr h) = inr (h.0, selects es x c h.1)

  mono : (bs : List Bound) → replaced_environment r (monomorphic bs) ≡ monomorphic (map (replaced_bound r) bs)
  mono [] = refl
  mono (b ∷ bs) = ap (λ l. record { name = b.name; scheme = monotype (replaced_names r b.type) } ∷ l) (mono bs)

  joined : (bs : List Bound) (env : List Assumption)
      → replaced_environment r (monomorphic bs ++ env) ≡ monomorphic (map (replaced_bound r) bs)
      ++ replaced_environment r env
  joined bs env = map-append (replaced_assumption r) (monomorphic bs) env
      ∙ ap (λ l. l ++ replaced_environment r env) (mono bs)

  generalises : (env : List Assumption) (kinds : Kinds) (bs : List Bound)
      → replaced_environment r (generalised env kinds bs)
      ≡ generalised (replaced_environment r env) kinds (map (replaced_bound r) bs)
  generalises env kinds [] = refl
  generalises env kinds (b ∷ bs) = ap₂
      (λ g l. record { name = b.name; scheme = record { generic = g; kinds = kinds; body = replaced_names r b.type } }
      ∷ l)
      (fun_ext (λ w. ap not (sym (free w env)))) (generalises env kinds bs)

  unsigned_replaced : (ds : List LocalDecl) (bs : List Bound)
      → unsigned ds (map (replaced_bound r) bs) ≡ map (replaced_bound r) (unsigned ds bs)
  unsigned_replaced ds bs = filter-map (replaced_bound r) (λ b. not (is_among b.name (signed_names ds)))
      (λ b. not (is_among b.name (signed_names ds))) (λ b. refl) bs

  agrees : (env : List Assumption) (kinds inside : Kinds) → Agree env kinds inside
      → Agree (replaced_environment r env) kinds inside
  agrees env kinds inside h w f = h w (sym (free w env) ∙ f)

  rigid : (kinds : Kinds) (env : List Assumption) (c : TypeScheme) (t : TypeTerm) → IsRigid kinds env c t
      → IsRigid kinds (replaced_environment r env) (replaced_scheme r c) (replaced_names r t)
  rigid kinds env c t h = record {
    new = h.new;
    distinct = λ v w o p e. h.distinct v w (sym (occurs v c.body) ∙ o) (sym (occurs w c.body) ∙ p) e;
    apart = λ v o. free (h.new v) env ∙ h.apart v (sym (occurs v c.body) ∙ o);
    kinded = λ v o. h.kinded v (sym (occurs v c.body) ∙ o);
    gives = applies (λ v. var (h.new v)) c.body ∙ ap (replaced_names r) h.gives;
  }

  scheme : (w : Written) (c : TypeScheme) → HasScheme G w c → HasScheme H w (replaced_scheme r c)
  scheme w c h = (replaced_names r h.0, F.written _ h.0 h.1, declared h.0 c h.2)

  schemes : (ss : List Signed) (es : List Assumption) → HaveSchemes G ss es
      → HaveSchemes H ss (replaced_environment r es)
  schemes [] es h = ap (replaced_environment r) h
  schemes (x ∷ ss) es h = (
    replaced_scheme r h.0,
    replaced_environment r h.1,
    ap
        (replaced_environment r) h.2,
    scheme x.written h.0 h.3,
    schemes ss h.1 h.4,
  )

  built : (kinds : Kinds) (c : Constructor) (us : List TypeTerm) (t : TypeTerm) → IsBuilt (plain_names G) kinds c us t
      → IsBuilt (plain_names H) kinds (replaced_constructor r c) (map (replaced_names r) us) (replaced_names r t)
  built kinds c us t h = record {
    scheme = replaced_scheme r h.scheme;
    declared = subst (λ d. IsDeclared (plain_names H) d (replaced_scheme r h.scheme))
        (functions_replaced c.fields c.result) (declared _ h.scheme h.declared);
    many = count-map (replaced_names r) us ∙ h.many ∙ sym (count-map (replaced_names r) c.fields);
    built = subst (λ d. IsInstance (plain_names H) kinds (replaced_scheme r h.scheme) d) (functions_replaced us t)
        (instance kinds h.scheme _ h.built);
  }

  all_are : (t : TypeTerm) (us : List TypeTerm) → AllAre t us → AllAre (replaced_names r t) (map (replaced_names r) us)
  all_are t [] h = tt
  all_are t (u ∷ us) h = (ap (replaced_names r) h.0, all_are t us h.1)

  -- ---- patterns
  mutual
    binds : (kinds : Kinds) (p : Pat) (t : TypeTerm) (bs : List Bound) → Binds G any kinds p t bs
        → Binds H any kinds p (replaced_names r t) (map (replaced_bound r) bs)
    binds kinds (PVar x) t bs h = (proper kinds t h.0, ap (map (replaced_bound r)) h.1)
    binds kinds PWild t bs h = (proper kinds t h.0, ap (map (replaced_bound r)) h.1)
    binds kinds (PInt negative n) t bs h =
        (proper kinds t h.0, ap (replaced_names r) h.1 ∙ F.integer_stays, ap (map (replaced_bound r)) h.2)
    binds kinds (PChr c) t bs h =
        (proper kinds t h.0, ap (replaced_names r) h.1 ∙ F.character_stays, ap (map (replaced_bound r)) h.2)
    binds kinds (PStr cs) t bs h =
        (proper kinds t h.0, ap (replaced_names r) h.1 ∙ strings, ap (map (replaced_bound r)) h.2)
    binds kinds (PCon' n s ps) t bs h = (
      proper kinds t h.0,
      replaced_constructor r h.1,
      F.constructors n h.1 h.2,
      map
          (replaced_names r) h.3,
      built kinds h.1 h.3 t h.4,
      bind_all kinds ps h.3 bs h.5,
    )
    binds kinds (PTuple' s ps) t bs h = (
      proper kinds t h.0,
      map (replaced_names r) h.1,
      ap (replaced_names r) h.2
          ∙ tuple_replaced h.1,
      bind_all kinds ps h.1 bs h.3,
    )
    binds kinds (PList' s ps) t bs h = (
      proper kinds t h.0,
      replaced_names r h.1,
      map (replaced_names r) h.2,
      ap (replaced_names r) h.3
          ∙ list_replaced h.1,
      all_are h.1 h.2 h.4,
      bind_all kinds ps h.2 bs h.5,
    )
    binds kinds (PAs' x s (more_of-Pat p end_of-Pat)) t bs h =
        (map (replaced_bound r) h.0, binds kinds p t h.0 h.1, ap (map (replaced_bound r)) h.2)
    binds kinds (PLazy' s (more_of-Pat p end_of-Pat)) t bs h = binds kinds p t bs h

    bind_all : (kinds : Kinds) {m : _} (ps : Row_of-Pat m) (ts : List TypeTerm) (bs : List Bound)
        → BindAll G any kinds ps ts bs → BindAll H any kinds ps (map (replaced_names r) ts) (map (replaced_bound r) bs)
    bind_all kinds end_of-Pat ts bs h = (ap (map (replaced_names r)) h.0, ap (map (replaced_bound r)) h.1)
    bind_all kinds (more_of-Pat p ps) ts bs h = (
      replaced_names r h.0,
      map (replaced_names r) h.1,
      map (replaced_bound r) h.2,
      map (replaced_bound r) h.3,
      ap
          (map (replaced_names r)) h.4,
      binds kinds p h.0 h.2 h.5,
      bind_all kinds ps h.1 h.3 h.6,
      ap (map (replaced_bound r)) h.7
          ∙ map-append (replaced_bound r) h.2 h.3,
    )

  bind_each : (kinds : Kinds) (ps : List Pat) (ts : List TypeTerm) (bs : List Bound) → BindEach G any kinds ps ts bs
      → BindEach H any kinds ps (map (replaced_names r) ts) (map (replaced_bound r) bs)
  bind_each kinds [] ts bs h = (ap (map (replaced_names r)) h.0, ap (map (replaced_bound r)) h.1)
  bind_each kinds (p ∷ ps) ts bs h = (
    replaced_names r h.0,
    map (replaced_names r) h.1,
    map (replaced_bound r) h.2,
    map (replaced_bound r) h.3,
    ap
        (map (replaced_names r)) h.4,
    binds kinds p h.0 h.2 h.5,
    bind_each kinds ps h.1 h.3 h.6,
    ap (map (replaced_bound r)) h.7
        ∙ map-append (replaced_bound r) h.2 h.3,
  )

  -- ---- groups
  abbrev Carries : IsTyped → IsTyped → Type 0
  Carries typed typed_after = (i : ℕ) (kinds : Kinds) (en : List Assumption) (bs : List Bound) → typed i kinds en bs
      → typed_after i kinds (replaced_environment r en) (map (replaced_bound r) bs)

  all_among : (bs given : List Bound) → AllAmong bs given
      → AllAmong (map (replaced_bound r) bs) (map (replaced_bound r) given)
  all_among [] given h = tt
  all_among (b ∷ bs) given h = (among-map (replaced_bound r) b given h.0, all_among bs given h.1)

  all_typed : (typed typed_after : IsTyped) → Carries typed typed_after
      → (kinds : Kinds) (en en' : List Assumption) (given : List Bound) (is : List ℕ) → replaced_environment r en ≡ en'
      → AllTyped typed kinds en given is → AllTyped typed_after kinds en' (map (replaced_bound r) given) is
  all_typed typed typed_after step kinds en en' given [] p h = tt
  all_typed typed typed_after step kinds en en' given (i ∷ is) p (first, rest) = (
    (
      map (replaced_bound r) first.0,
      subst (λ z. typed_after i kinds z (map (replaced_bound r) first.0)) p
          (step i kinds en first.0 first.1),
      all_among first.0 given first.2,
    ),
    all_typed typed typed_after step kinds en en' given is p rest,
  )

  group_typing : (typed typed_after : IsTyped) → Carries typed typed_after
      → (ds : List LocalDecl) (kinds : Kinds) (env : List Assumption) (members : List ℕ)
      → GroupTyping typed ds kinds env members → GroupTyping typed_after ds kinds (replaced_environment r env) members
  group_typing typed typed_after step ds kinds env members h = record {
    inside = h.inside;
    agree = agrees env kinds h.inside h.agree;
    given = map (replaced_bound r) h.given;
    names = map-map (λ b. b.name) (replaced_bound r) (λ b. b.name) (λ b. refl) h.given ∙ h.names;
    each = all_typed typed typed_after step h.inside _ _ h.given members
        (joined (unsigned ds h.given) env
        ∙ ap (λ bs. monomorphic bs ++ replaced_environment r env) (sym (unsigned_replaced ds h.given))) h.each;
  }

  meets : (typed typed_after : IsTyped) → Carries typed typed_after
      → (ds : List LocalDecl) (kinds : Kinds) (env : List Assumption) (members : List ℕ) (e : Assumption)
      → MeetsSignature typed ds kinds env members e
      → MeetsSignature typed_after ds kinds (replaced_environment r env) members (replaced_assumption r e)
  unfolding group_typing
  meets typed typed_after step ds kinds env members e h = record {
    typing = group_typing typed typed_after step ds kinds env members h.typing;
    type = replaced_names r h.type;
    has = among-map (replaced_bound r) _ h.typing.given h.has;
    rigid = rigid h.typing.inside env e.scheme h.type h.rigid;
  }

  group : (typed typed_after : IsTyped) → Carries typed typed_after
      → (ds : List LocalDecl) (es : List Assumption) (kinds : Kinds) (env : List Assumption) (members : List ℕ)
      (new : List Assumption)
      → IsGroupTyped typed ds es kinds env members new
      → IsGroupTyped typed_after ds (replaced_environment r es) kinds (replaced_environment r env) members
      (replaced_environment r new)
  unfolding group_typing
  group typed typed_after step ds es kinds env members new h = record {
    typing = group_typing typed typed_after step ds kinds env members h.typing;
    generalises = ap (replaced_environment r) h.generalises
        ∙ generalises env h.typing.inside (unsigned ds h.typing.given)
        ∙ ap (generalised (replaced_environment r env) h.typing.inside) (sym (unsigned_replaced ds h.typing.given));
    signatures = λ e a b. let u = among-image (replaced_assumption r) e es a in
        subst (λ z. MeetsSignature typed_after ds kinds (replaced_environment r env) members z) u.2
        (meets typed typed_after step ds kinds env members u.0
        (h.signatures u.0 u.1 (subst (λ z. Among z.name (names_bound ds members)) (sym u.2) b)));
  }

  after_group : (typed typed_after : IsTyped) → Carries typed typed_after
      → (ds : List LocalDecl) (es : List Assumption) (kinds : Kinds) (gs : List IndexGroup)
      (env after : List Assumption)
      → GroupAfterGroup typed ds es kinds gs env after
      → GroupAfterGroup typed_after ds (replaced_environment r es) kinds gs (replaced_environment r env)
      (replaced_environment r after)
  after_group typed typed_after step ds es kinds [] env after h = ap (replaced_environment r) h
  after_group typed typed_after step ds es kinds (g ∷ gs) env after (new, first, rest) = (
    replaced_environment r new,
    group typed typed_after step ds es kinds env g.members new first,
    subst (λ z. GroupAfterGroup typed_after ds (replaced_environment r es) kinds gs z (replaced_environment r after))
        (map-append (replaced_assumption r) new env)
        (after_group typed typed_after step ds es kinds gs (new ++ env) after rest),
  )

  extends : (typed typed_after : IsTyped) → Carries typed typed_after
      → (ds : List LocalDecl) (kinds : Kinds) (env after : List Assumption)
      → Extends G typed ds kinds env after
      → Extends H typed_after ds kinds (replaced_environment r env) (replaced_environment r after)
  extends typed typed_after step ds kinds env after h = record {
    declared = replaced_environment r h.declared;
    schemes = schemes (all_signed ds) h.declared h.schemes;
    groups = h.groups;
    order = h.order;
    each = subst
        (λ z. GroupAfterGroup typed_after ds (replaced_environment r h.declared) kinds h.groups z
        (replaced_environment r after)) (map-append (replaced_assumption r) h.declared env)
        (after_group typed typed_after step ds h.declared kinds h.groups (h.declared ++ env) after h.each);
  }

  -- ---- expressions
  mutual
    has : (e : Exp) (kinds : Kinds) (env : List Assumption) (t : TypeTerm) → HasType G any e kinds env t
        → HasType H any e kinds (replaced_environment r env) (replaced_names r t)
    has (Local x) kinds env t h =
        (proper kinds t h.0, replaced_scheme r h.1, selects env x h.1 h.2, instance kinds h.1 t h.3)
    has (Global n) kinds env t h = (
      proper kinds t h.0,
      replaced_names r h.1,
      replaced_scheme r h.2,
      F.values n h.1 h.3,
      declared h.1 h.2 h.4,
      instance kinds h.2 t h.5,
    )
    has (Int n) kinds env t h = (proper kinds t h.0, ap (replaced_names r) h.1 ∙ F.integer_stays)
    has (Chr c) kinds env t h = (proper kinds t h.0, ap (replaced_names r) h.1 ∙ F.character_stays)
    has (Str cs) kinds env t h = (proper kinds t h.0, ap (replaced_names r) h.1 ∙ strings)
    has (Apply' s (more_of-Exp f end_of-Exp) z es) kinds env t h = (
      proper kinds t h.0,
      map (replaced_names r) h.1,
      subst (λ v. HasType H any f kinds (replaced_environment r env) v) (functions_replaced h.1 t)
          (has f kinds env (functions h.1 t) h.2),
      have es kinds env h.1 h.3,
    )
    has (Lambda' ps s (more_of-Exp e end_of-Exp)) kinds env t h = (
      proper kinds t h.0,
      map (replaced_names r) h.1,
      replaced_names r h.2,
      map (replaced_bound r) h.3,
      ap (replaced_names r) h.4 ∙ functions_replaced h.1 h.2,
      bind_each kinds ps h.1 h.3 h.5,
      subst (λ en. HasType H any e kinds en (replaced_names r h.2)) (joined h.3 env)
          (has e kinds (monomorphic h.3 ++ env) h.2 h.6),
    )
    has (Let' s ds z (more_of-Exp e end_of-Exp)) kinds env t h = (
      proper kinds t h.0,
      replaced_environment r h.1,
      extends (λ i k en bs. IsTypedAt G any ds i k en bs) (λ i k en bs. IsTypedAt H any ds i k en bs)
          (λ i k en bs g. typed_at ds i k en bs g) (local_decls ds) kinds env h.1 h.2,
      has e kinds h.1 t h.3,
    )
    has (If' s (more_of-Exp a end_of-Exp) y (more_of-Exp b end_of-Exp) z (more_of-Exp c end_of-Exp)) kinds env t h = (
      proper kinds t h.0,
      subst (λ v. HasType H any a kinds (replaced_environment r env) v) F.boolean_stays
          (has a kinds env boolean h.1),
      has b kinds env t h.2,
      has c kinds env t h.3,
    )
    has (Case' s (more_of-Exp e end_of-Exp) z as') kinds env t h =
        (proper kinds t h.0, replaced_names r h.1, has e kinds env h.1 h.2, alternatives as' kinds env h.1 t h.3)
    has (Tuple' s es) kinds env t h = (
      proper kinds t h.0,
      map (replaced_names r) h.1,
      ap (replaced_names r) h.2
          ∙ tuple_replaced h.1,
      have es kinds env h.1 h.3,
    )
    has (ListOf' s es) kinds env t h = (
      proper kinds t h.0,
      replaced_names r h.1,
      map (replaced_names r) h.2,
      ap (replaced_names r) h.3
          ∙ list_replaced h.1,
      all_are h.1 h.2 h.4,
      have es kinds env h.2 h.5,
    )
    has (RightSection' s (more_of-Exp op end_of-Exp) z (more_of-Exp a end_of-Exp)) kinds env t h = (
      proper kinds t h.0,
      replaced_names r h.1,
      replaced_names r h.2,
      replaced_names r h.3,
      ap (replaced_names r) h.4 ∙ function_replaced h.1 h.3,
      subst (λ v. HasType H any op kinds (replaced_environment r env) v)
          (function_replaced h.1 (function h.2 h.3)
          ∙ ap (λ z. function (replaced_names r h.1) z) (function_replaced h.2 h.3)) (has op kinds env _ h.5),
      has a kinds env h.2 h.6,
    )
    has (Annot' s (more_of-Exp e end_of-Exp) w) kinds env t h = (
      proper kinds t h.0,
      replaced_scheme r h.1,
      scheme w h.1 h.2,
      record {
        inside = h.3.inside;
        agree = agrees env kinds h.3.inside h.3.agree;
        type = replaced_names r h.3.type;
        rigid = rigid h.3.inside env h.1 h.3.type h.3.rigid;
        has = has e h.3.inside env h.3.type h.3.has;
      },
      instance kinds h.1 t h.4,
    )

    have : {m : _} (es : Row_of-Exp m) (kinds : Kinds) (env : List Assumption) (ts : List TypeTerm)
        → HaveTypes G any es kinds env ts
        → HaveTypes H any es kinds (replaced_environment r env) (map (replaced_names r) ts)
    have end_of-Exp kinds env ts h = ap (map (replaced_names r)) h
    have (more_of-Exp e es) kinds env ts h = (
      replaced_names r h.0,
      map (replaced_names r) h.1,
      ap
          (map (replaced_names r)) h.2,
      has e kinds env h.0 h.3,
      have es kinds env h.1 h.4,
    )

    alternatives : {m : _} (as' : Row_of-Alt m) (kinds : Kinds) (env : List Assumption) (u t : TypeTerm)
        → HaveAlternatives G any as' kinds env u t
        → HaveAlternatives H any as' kinds (replaced_environment r env) (replaced_names r u) (replaced_names r t)
    alternatives end_of-Alt kinds env u t h = tt
    alternatives (more_of-Alt a as') kinds env u t (first, rest) =
        (alternative a kinds env u t first, alternatives as' kinds env u t rest)

    alternative : (a : Alt) (kinds : Kinds) (env : List Assumption) (u t : TypeTerm)
        → IsAlternative G any a kinds env u t
        → IsAlternative H any a kinds (replaced_environment r env) (replaced_names r u) (replaced_names r t)
    alternative (Alt' p x) kinds env u t (bs, b, g) = (
      map (replaced_bound r) bs,
      binds kinds p u bs b,
      subst
          (λ en. IsRightSide H any x kinds en (replaced_names r t)) (joined bs env)
          (right x kinds (monomorphic bs ++ env) t g),
    )

    right : (x : Rhs) (kinds : Kinds) (env : List Assumption) (t : TypeTerm) → IsRightSide G any x kinds env t
        → IsRightSide H any x kinds (replaced_environment r env) (replaced_names r t)
    right (Rhs' s cs z ds) kinds env t h = (
      proper kinds t h.0,
      replaced_environment r h.1,
      extends (λ i k en bs. IsTypedAt G any ds i k en bs) (λ i k en bs. IsTypedAt H any ds i k en bs)
          (λ i k en bs g. typed_at ds i k en bs g) (local_decls ds) kinds env h.1 h.2,
      choices cs kinds h.1 t h.3,
    )

    choices : {m : _} (cs : Row_of-Choice m) (kinds : Kinds) (env : List Assumption) (t : TypeTerm)
        → HaveChoices G any cs kinds env t
        → HaveChoices H any cs kinds (replaced_environment r env) (replaced_names r t)
    choices end_of-Choice kinds env t h = tt
    choices (more_of-Choice s gs e cs) kinds env t ((bs, b, h), rest) = (
      (
        map (replaced_bound r) bs,
        guards gs kinds env bs b,
        subst
            (λ en. HasType H any e kinds en (replaced_names r t)) (joined bs env)
            (has e kinds (monomorphic bs ++ env) t h),
      ),
      choices cs kinds env t rest,
    )

    guards : {m : _} (gs : Row_of-Guard m) (kinds : Kinds) (env : List Assumption) (bs : List Bound)
        → GuardsBind G any gs kinds env bs
        → GuardsBind H any gs kinds (replaced_environment r env) (map (replaced_bound r) bs)
    guards end_of-Guard kinds env bs h = ap (map (replaced_bound r)) h
    guards (more_of-Guard g gs) kinds env bs h = (
      map (replaced_bound r) h.0,
      map (replaced_bound r) h.1,
      guard g kinds env h.0 h.2,
      subst (λ en. GuardsBind H any gs kinds en (map (replaced_bound r) h.1)) (joined h.0 env)
          (guards gs kinds (monomorphic h.0 ++ env) h.1 h.3),
      ap (map (replaced_bound r)) h.4 ∙ map-append (replaced_bound r) h.1 h.0,
    )

    guard : (g : Guard) (kinds : Kinds) (env : List Assumption) (bs : List Bound) → IsGuard G any g kinds env bs
        → IsGuard H any g kinds (replaced_environment r env) (map (replaced_bound r) bs)
    guard (Test e) kinds env bs h = (
      subst (λ v. HasType H any e kinds (replaced_environment r env) v) F.boolean_stays
          (has e kinds env boolean h.0),
      ap (map (replaced_bound r)) h.1,
    )
    guard (Bind p e) kinds env bs (t, b, h) = (replaced_names r t, binds kinds p t bs b, has e kinds env t h)

    decl : (d : Decl) (kinds : Kinds) (env : List Assumption) (bs : List Bound) → IsTypedDecl G any d kinds env bs
        → IsTypedDecl H any d kinds (replaced_environment r env) (map (replaced_bound r) bs)
    decl (DataDecl x w ps cs) kinds env bs h = ap (map (replaced_bound r)) h
    decl (SynonymDecl x ps b) kinds env bs h = ap (map (replaced_bound r)) h
    decl (TypeSig x w) kinds env bs h = ap (map (replaced_bound r)) h
    decl (FixityOf x f) kinds env bs h = ap (map (replaced_bound r)) h
    decl (Clause x ps y) kinds env bs h = (
      map (replaced_names r) h.0,
      replaced_names r h.1,
      map (replaced_bound r) h.2,
      ap (map (replaced_bound r)) h.3 ∙ ap (λ v. record { name = x; type = v } ∷ []) (functions_replaced h.0 h.1),
      subst (λ v. IsProperType H any kinds v) (functions_replaced h.0 h.1) (proper kinds (functions h.0 h.1) h.4),
      bind_each kinds ps h.0 h.2 h.5,
      subst (λ en. IsRightSide H any y kinds en (replaced_names r h.1)) (joined h.2 env)
          (right y kinds (monomorphic h.2 ++ env) h.1 h.6),
    )
    decl (PatBind p y) kinds env bs (t, b, h) = (replaced_names r t, binds kinds p t bs b, right y kinds env t h)

    typed_at : {m : _} (ds : Row_of-Decl m) (i : ℕ) (kinds : Kinds) (env : List Assumption) (bs : List Bound)
        → IsTypedAt G any ds i kinds env bs
        → IsTypedAt H any ds i kinds (replaced_environment r env) (map (replaced_bound r) bs)
    typed_at end_of-Decl i kinds env bs h = absurd h
    typed_at (more_of-Decl d ds) zero kinds env bs h = decl d kinds env bs h
    typed_at (more_of-Decl d ds) (suc i) kinds env bs h = typed_at ds i kinds env bs h

  typed_inside : (ds : List Decl) → Carries (typed_in G any ds) (typed_in H any ds)
  typed_inside ds i kinds env bs (d, q, h) = (d, q, decl d kinds env bs h)

pub expressions_stay_typed : ExpressionsStayTyped
expressions_stay_typed r G H F e kinds env t h = has r G H F e kinds env t h

pub declarations_stay_typed : DeclarationsStayTyped
declarations_stay_typed r G H F d kinds env bs h = decl r G H F d kinds env bs h

pub bindings_stay_typed : BindingsStayTyped
bindings_stay_typed r G H F signatures clauses h = (
  replaced_environment r h.0,
  schemes r G H F _ h.0 h.1,
  group r G H F _ _ (typed_inside r G H F clauses) _ h.0 _ [] _ [] h.2,
)
