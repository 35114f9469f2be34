-- Steps of derivations.
use Rattle.std.proofs.Common.{◌≡◌, ◌&&◌, cond, refl, sym, ap, ◌∙◌, subst, inl, inr, ℕ, Bool, true, false, true≢false}
use Rattle.std.proofs.Common.{List, [], ◌∷◌, ◌++◌, arith}
use Rattle.std.specs.Prelude.{map, unwrap_or, codes, Option, Some, None, is_none}
use Rattle.std.specs.Str.{bytes_eq}
use Rattle.bp_base.specs.Texts.{Text}
use Rattle.std.specs.List.Sorted.{IsStrictlyIncreasing}
use Rattle.bp_base.specs.Lists.{Among}
use Rattle.bp_base.specs.Specials.{special_name}
use Rattle.bp_base.specs.declared.special.Special.TheVariants as s
use Rattle.bp_base.specs.declared.ty.Space.TheVariants.{Types}
use Rattle.bp_base.specs.declared.ident.Ident.TheViews.{roll-Unit}
use Rattle.bp_base.specs.declared.ident.Ident.TheBlock.{hidden-the_row-Unit-0, hidden-the_row-Fill-1}
use Rattle.bp_base.specs.declared.ty.OrigName.{OrigName}
use Rattle.hs_core.specs.declared.tree.Exp.{Exp}
use Rattle.hs_core.specs.declared.tree.Exp.TheVariants.{Local, Apply}
use Rattle.hs_core.specs.declared.tree.Decl.{Decl}
use Rattle.hs_core.specs.declared.tree.Decl.TheViews.{roll-Rhs}
use Rattle.hs_core.specs.declared.tree.Decl.TheBlock.{hidden-the_row-Exp-0, hidden-the_row-Exp-1, hidden-the_row-Decl-2}
use Rattle.hs_core.specs.declared.tree.Decl.TheBlock.{hidden-the_row-Choice-5}
use Rattle.hs_core.specs.declared.group.UseList.{UseList}
use Rattle.hs_core.specs.declared.group.IndexGroup.{IndexGroup}
use Rattle.hs_core.specs.Groups.{uses_at, Reaches, Together, DepthFirst, Grouped, AreGroups}
use Rattle.hs_core.specs.Groups.Reaches.{here, along}
use Rattle.hs_core.specs.Groups.DepthFirst.{ended, met, visited}
use Rattle.hs_core.specs.Groups.Grouped.{none, last}
use Rattle.type_terms.specs.Terms.{var, con, app, applied}
use Rattle.hs_core.specs.Types.{star, arrow, TypeTerm, function, functions, integer, character, tuple_of}
use Rattle.hs_core.specs.Kinds.{NameKinds, HasKind}
use Rattle.hs_core.specs.Expansion.{Synonyms, Expands}
use Rattle.hs_core.specs.Expansion.Expands.{variable, name, application, body_for}
use Rattle.hs_core.specs.Schemes.{TypeScheme, IsInstance, monotype, Assumption, Bound, monomorphic, Selects}
use Rattle.std.proofs.lemmas.Bool.{and_parts}
use Rattle.std.proofs.lemmas.Option.{none-some}
use Rattle.type_terms.proofs.TermLemmas.{applied-itself}
use Rattle.hs_core.specs.Sameness.{same_original}
use Rattle.hs_core.specs.Globals.{NameMeaning, Globals, Named, plain_names, globals_of, synonym_in, synonyms_of}
use Rattle.hs_core.specs.Globals.{known_names, in_front, no_names}
use Rattle.hs_core.specs.LocalGroups.{IsTyped, Extends, GroupAfterGroup}
use Rattle.hs_core.specs.Typing.{TypeTest, Kinds, IsProperType, HasType, IsRightSide, IsTypedDecl}
use Rattle.hs_core.specs.WellTyped.{typed_in}
use Rattle.hs_core_laws.specs.Examples.{simply}
use denote.Hole.Carrier.{hidden, roll}

-- no declaration makes no group, and one that uses itself makes one
pub no_groups : AreGroups [] []
no_groups = record { order = []; walk = ended [] []; grouped = none }

abbrev pub itself : List UseList
itself = record { uses = 0 ∷ [] } ∷ []

from_zero : (v w : ℕ) → Reaches itself v w → v ≡ 0 → w ≡ 0
from_zero v _ (here _) p = p
from_zero v w (along _ u _ a r) p = from_zero u w r (used (subst (λ x. Among u (uses_at itself x)) p a))
  where
    used : Among u (0 ∷ []) → u ≡ 0
    used (inl q) = sym q
    used (inr h) = elim h [ ]

abbrev pub alone : IndexGroup
alone = record { members = 0 ∷ [] }

pub one_group : AreGroups itself (alone ∷ [])
one_group = record {
  order = 0 ∷ [];
  walk = visited [] [] 0 [] (0 ∷ []) [] ((λ h. h), (λ h. h))
      (met (0 ∷ []) [] 0 [] [] (inr (inl refl)) (ended (0 ∷ []) [])) (ended [] (0 ∷ []));
  grouped = last 0 [] alone [] (λ w h. absurd h) (record {
    rising = rising;
    each = λ w t. inl (sym (from_zero 0 w t.0 refl));
    only = together;
  }) none;
}
  where
    rising : IsStrictlyIncreasing (0 ∷ [])
    rising k h = Prim.omega arith

    together : (w : ℕ) → Among w (0 ∷ []) → Together itself 0 w
    together w (inl p) = subst (λ x. Together itself 0 x) p (here 0, here 0)
    together w (inr h) = elim h [ ]

-- no declarations extend nothing
pub extends_nothing : (G : Globals) (typed : IsTyped) (kinds : Kinds) (env : List Assumption)
    → Extends G typed [] kinds env env
extends_nothing G typed kinds env = record {
  declared = [];
  schemes = refl;
  groups =
      [];
  order = no_groups;
  each = refl;
}

-- an expression alone as a right side
pub simply_has : (G : Globals) (fits : TypeTest) (e : Exp) (kinds : Kinds) (env : List Assumption) (t : TypeTerm)
    → IsProperType G fits kinds t → HasType G fits e kinds env t → IsRightSide G fits (simply e) kinds env t
unfolding roll-Rhs roll hidden-the_row-Decl-2 hidden hidden-the_row-Choice-5
simply_has G fits e kinds env t stands h = (stands, env, extends_nothing G _ kinds env, (([], refl, h), tt))

-- names without declarations of any module
abbrev pub bare : Globals
bare = globals_of []

is_none-None : {A : Type 0} (o : Option A) → is_none o ≡ true → o ≡ None
is_none-None None h = refl
is_none-None (Some x) h = absurd (true≢false (sym h))

-- of names none of which is a synonym none is one
abbrev pub are_plain : List Named → Bool
are_plain [] = true
are_plain (x ∷ xs) = is_none (synonym_in (Some x.means)) && are_plain xs

no_synonym_at : (b : Bool) (x : NameMeaning) (o : Option NameMeaning) → is_none (synonym_in (Some x)) ≡ true
    → synonym_in o ≡ None → synonym_in (cond b (Some x) o) ≡ None
no_synonym_at true x o h k = is_none-None (synonym_in (Some x)) h
no_synonym_at false x o h k = k

pub no_synonyms_in : (xs : List Named) (G : Globals) → are_plain xs ≡ true → ((n : OrigName) → synonym_in (G n) ≡ None)
    → (n : OrigName) → synonym_in (in_front xs G n) ≡ None
no_synonyms_in [] G h k n = k n
no_synonyms_in (x ∷ xs) G h k n =
    let parts = and_parts (is_none (synonym_in (Some x.means))) (are_plain xs) h in
    no_synonym_at (same_original x.name n) x.means (in_front xs G n) parts.0 (no_synonyms_in xs G parts.1 k n)

pub no_synonym : (n : OrigName) → synonyms_of bare n ≡ None
no_synonym n = no_synonyms_in known_names no_names refl (λ m. refl) n

-- no name is a synonym there
pub bare_name : (n : OrigName) → Expands (synonyms_of bare) (con n) (con n)
bare_name n = name n (no_synonym n)

pub arrow_kind : plain_names bare (special_name Types s.Arrow) (arrow star (arrow star star))
unfolding roll-Unit roll hidden-the_row-Unit-0 hidden-the_row-Fill-1 hidden
arrow_kind = refl

pub pair_kind : plain_names bare (special_name Types (s.Tuple 2)) (arrow star (arrow star star))
unfolding roll-Unit roll hidden-the_row-Unit-0 hidden-the_row-Fill-1 hidden
pair_kind = refl

pub integer_kind : (kinds : Kinds) → HasKind (plain_names bare) kinds integer star
unfolding roll-Unit roll hidden-the_row-Unit-0 hidden-the_row-Fill-1 hidden
integer_kind kinds = refl

pub character_kind : (kinds : Kinds) → HasKind (plain_names bare) kinds character star
unfolding roll-Unit roll hidden-the_row-Unit-0 hidden-the_row-Fill-1 hidden
character_kind kinds = refl

pub function_kind : (kinds : Kinds) (t u : TypeTerm) → HasKind (plain_names bare) kinds t star
    → HasKind (plain_names bare) kinds u star → HasKind (plain_names bare) kinds (function t u) star
function_kind kinds t u h k = (star, (star, arrow_kind, h), k)

pub pair_of_kind : (kinds : Kinds) (t u : TypeTerm) → HasKind (plain_names bare) kinds t star
    → HasKind (plain_names bare) kinds u star → HasKind (plain_names bare) kinds (tuple_of (t ∷ u ∷ [])) star
pair_of_kind kinds t u h k = (star, (star, pair_kind, h), k)

-- one type is an instance of itself
pub single_instance : (G : Globals) (kinds : Kinds) (t : TypeTerm) → IsInstance (plain_names G) kinds (monotype t) t
single_instance G kinds t = record {
  choice = λ w. var w;
  fixed = λ w h. refl;
  kinded = λ w o g. absurd
      (true≢false (sym g));
  gives = applied-itself t;
}

-- and nothing else is
single_only : (names : NameKinds) (kinds : Kinds) (t u : TypeTerm) → IsInstance names kinds (monotype t) u → t ≡ u
single_only names kinds t u h = sym (applied-itself t) ∙ (λ i. applied (λ w. sym (h.fixed w refl) i) t) ∙ h.gives

-- the newest name of one type has that type
pub local_single : (G : Globals) (fits : TypeTest) (x : Text) (kinds : Kinds) (env : List Assumption) (t u : TypeTerm)
    → HasType G fits (Local x) kinds (record { name = x; scheme = monotype t } ∷ env) u → t ≡ u
local_single G fits x kinds env t u h = selected h.1 h.2 h.3
  where
    selected : (c : TypeScheme) → Selects (record { name = x; scheme = monotype t } ∷ env) x c
        → IsInstance (plain_names G) kinds c u → t ≡ u
    selected c (inl p) i = single_only (plain_names G) kinds t u
        (subst (λ c. IsInstance (plain_names G) kinds c u) (sym p.1) i)
    selected c (inr p) i = absurd (p.0 refl)

-- applied to one argument, it is a function from the argument's type
pub local_applied : (G : Globals) (fits : TypeTest) (x : Text) (e : Exp) (kinds : Kinds) (env : List Assumption)
    (t v : TypeTerm)
    → HasType G fits (Apply (Local x) (e ∷ [])) kinds (record { name = x; scheme = monotype t } ∷ env) v
    → (u : TypeTerm) × (t ≡ function u v) × HasType G fits e kinds (record { name = x; scheme = monotype t } ∷ env) u
unfolding hidden-the_row-Exp-0 hidden-the_row-Exp-1 hidden
local_applied G fits x e kinds env t v h = (
  h.3.0,
  local_single G fits x kinds env t (functions h.1 v) h.2
      ∙ ap (λ z. functions z v) (h.3.2 ∙ ap (λ r. h.3.0 ∷ r) h.3.4),
  h.3.3,
)

ends_nothing : (path new : List ℕ) → DepthFirst [] path [] [] new → new ≡ []
ends_nothing path _ (ended _ _) = refl

grouped_nothing : (groups : List IndexGroup) → Grouped [] [] groups → groups ≡ []
grouped_nothing _ none = refl

no_groups_only : (groups : List IndexGroup) → AreGroups [] groups → groups ≡ []
no_groups_only groups a = grouped_nothing groups
    (subst (λ o. Grouped [] o groups) (ends_nothing [] a.order a.walk) a.grouped)

extends_only : (G : Globals) (typed : IsTyped) (kinds : Kinds) (env after : List Assumption)
    → Extends G typed [] kinds env after → after ≡ env
extends_only G typed kinds env after h =
    let each = subst (λ gs. GroupAfterGroup typed [] h.declared kinds gs (h.declared ++ env) after)
    (no_groups_only h.groups h.order) h.each in
    each ∙ ap (λ d. d ++ env) h.schemes

pub simply_only : (G : Globals) (fits : TypeTest) (e : Exp) (kinds : Kinds) (env : List Assumption) (t : TypeTerm)
    → IsRightSide G fits (simply e) kinds env t → HasType G fits e kinds env t
unfolding roll-Rhs roll hidden-the_row-Decl-2 hidden hidden-the_row-Choice-5
simply_only G fits e kinds env t h =
    subst (λ a. HasType G fits e kinds a t) (extends_only G _ kinds env h.1 h.2)
    (subst (λ bs. HasType G fits e kinds (monomorphic bs ++ h.1) t) h.3.0.1 h.3.0.2)

-- the first declaration of a list
pub first_typed : (G : Globals) (fits : TypeTest) (d : Decl) (ds : List Decl) (kinds : Kinds) (env : List Assumption)
    (bs : List Bound) → typed_in G fits (d ∷ ds) 0 kinds env bs → IsTypedDecl G fits d kinds env bs
first_typed G fits d ds kinds env bs h = subst (λ x. IsTypedDecl G fits x kinds env bs)
    (sym (ap (λ o. unwrap_or o d) h.1)) h.2

-- where there is no synonym, a type expands to itself alone
pub expands_itself : (S : Synonyms) → ((n : OrigName) → S n ≡ None) → (t u : TypeTerm) → Expands S t u → t ≡ u
expands_itself S no_one _ _ (variable i) = refl
expands_itself S no_one _ _ (name n h) = refl
expands_itself S no_one _ _ (application f a g b h k) = λ i. app (expands_itself S no_one f g h i)
    (expands_itself S no_one a b k i)
expands_itself S no_one _ _ (body_for n s args us t v q c p h k) = absurd (none-some s (sym (no_one n) ∙ q))

-- parts of function types, and types that differ
abbrev pub argument_of : TypeTerm → TypeTerm
argument_of (app (app f a) b) = a
argument_of t = t

abbrev pub result_of : TypeTerm → TypeTerm
result_of (app f b) = b
result_of t = t

abbrev pub is_integer : TypeTerm → Bool
is_integer (con n) = bytes_eq n.occ (codes "Int")
is_integer t = false

pub integer_character : integer ≡ character → ⊥
integer_character p = true≢false (ap is_integer p)

-- of a list of one name each two are the same
pub one_given : (given : List Bound) (x : Text) → map (λ b. b.name) given ≡ x ∷ [] → (a b : Bound) → Among a given
    → Among b given → a ≡ b
one_given [] x p a b h k = elim h [ ]
one_given (g ∷ []) x p a b (inl h) (inl k) = sym h ∙ k
one_given (g ∷ []) x p a b (inl h) (inr k) = elim k [ ]
one_given (g ∷ []) x p a b (inr h) k = elim h [ ]
one_given (g ∷ g' ∷ rest) x p a b h k = absurd (true≢false (ap has_two p))
  where
    has_two : List Text → Bool
    has_two (y ∷ z ∷ zs) = true
    has_two ys = false
