-- The types of a module have one outcome at most.
use Rattle.std.proofs.Common.{◌≡◌, ◌⊎◌, inl, inr, ℕ, ◌<◌, ◌≤◌, List, [], ◌∷◌, refl, sym, ap, ap₂, ◌∙◌, subst, arith}
use Rattle.std.specs.Prelude.{Option, Some, None, unwrap_or, slice_get, map}
use Rattle.bp_base.specs.Lists.{Among}
use Rattle.bp_base.specs.Texts.{Text}
use Rattle.bp_base.specs.declared.ident.Ident.{Ident}
use Rattle.bp_base.specs.declared.ty.Kind.{Kind}
use Rattle.bp_base.specs.declared.ty.Kind.TheVariants.{Star, Arrow, Arrow'}
use Rattle.bp_base.specs.declared.ty.Kind.TheBlock.{more_of-Kind, end_of-Kind, shape-the_row-Kind-0, hidden-the_row-Kind-0}
use Rattle.bp_base.specs.declared.ty.Ty.{Ty}
use Rattle.bp_base.specs.declared.ty.Ty.TheVariants.{Var, Con, App, App'}
use Rattle.bp_base.specs.declared.ty.Ty.TheBlock.{more_of-Ty, end_of-Ty, shape-the_row-Ty-0, hidden-the_row-Ty-0}
use Rattle.bp_base.specs.declared.ty.OrigName.{OrigName}
use Rattle.bp_base.specs.declared.entity.Field.{Field}
use Rattle.bp_base.specs.declared.entity.Con.{Con as Constructor}
use Rattle.bp_base.specs.declared.entity.Entity.{Entity}
use Rattle.bp_base.specs.declared.entity.Entity.TheVariants.{Abstract, DataType, Synonym, Value}
use Rattle.bp_checks.specs.Check.{Check, ◌>>=◌, ◌>>◌, given, each, IsExact}
use Rattle.bp_checks.proofs.CheckLemmas.{IsExact-then, IsExact-given, IsExact-each}
use Rattle.type_terms.specs.Terms.{var, con, app}
use Rattle.hs_core.specs.declared.tree.Decl.{Decl}
use Rattle.hs_core.specs.Types.{KindTerm, star, arrow, TypeTerm, kind_term, type_term, depth}
use Rattle.hs_core.specs.Kinds.{TypeDecl}
use Rattle.hs_core.specs.Expansion.{Synonyms, Expands}
use Rattle.hs_core.specs.Globals.{Globals, kinds_of, kind_in, synonyms_of}
use Rattle.hs_core.specs.WellTyped.{type_decls, located}
use Rattle.hs_core.proofs.ExpansionLemmas.{expansion_is_one}
use Rattle.declared_kinds.proofs.ExactLemmas.{first_bad_one, first_bad_never, kinds_one, ill_kinded_one, ill_kinded_never}
use Rattle.declared_kinds.proofs.ExactLemmas.{first_cycle_one, first_cycle_never}
use Rattle.type_drafts.specs.declared.uses.TypeUse.{TypeUse}
use Rattle.type_drafts.specs.Drafts.{drafts}
use Rattle.type_drafts.specs.Uses.{value_uses, all_uses}
use Rattle.kind_module.specs.Faults.{KindFault, IllKinded, Misused, TooDeep, all_are}
use Rattle.kind_module.specs.Tests.{Kinds, IsStarKinded, IsFull, values_kinded, uses_full, no_cycle}
use Rattle.kind_module.specs.Expanded.{AreNoted, IsNoDeeper, IsDeeper, type_gives, field_gives, fields_give, con_gives}
use Rattle.kind_module.specs.Expanded.{cons_give, entity_gives, entities_give, scheme_of}
use Rattle.kind_module.specs.Kinds.{groups_give, synonyms_lawful, types_give, seen, kinds_give}
use denote.Hole.Carrier.{hidden}

-- ---- trees

Arrow-is : (s z : _) (a b : Kind) → Arrow a b ≡ Arrow' s (more_of-Kind a end_of-Kind) z (more_of-Kind b end_of-Kind)
unfolding shape-the_row-Kind-0 hidden-the_row-Kind-0 hidden
Arrow-is s z a b = refl

App-is : (s z : _) (a b : Ty) → App a b ≡ App' s (more_of-Ty a end_of-Ty) z (more_of-Ty b end_of-Ty)
unfolding shape-the_row-Ty-0 hidden-the_row-Ty-0 hidden
App-is s z a b = refl

abbrev from_of : KindTerm → KindTerm
from_of star = star
from_of (arrow j k) = j

abbrev to_of : KindTerm → KindTerm
to_of star = star
to_of (arrow j k) = k

abbrev IsArrow : KindTerm → Type 0
IsArrow star = ⊥
IsArrow (arrow j k) = Unit {0}

-- a kind has one tree
pub kind_one : (j k : Kind) → kind_term j ≡ kind_term k → j ≡ k
kind_one Star Star e = refl
kind_one Star (Arrow' s (more_of-Kind f end_of-Kind) z (more_of-Kind t end_of-Kind)) e =
    absurd (subst IsArrow (sym e) tt)
kind_one (Arrow' s (more_of-Kind f end_of-Kind) z (more_of-Kind t end_of-Kind)) Star e = absurd (subst IsArrow e tt)
kind_one (Arrow' s (more_of-Kind f end_of-Kind) z (more_of-Kind t end_of-Kind))
    (Arrow' u (more_of-Kind g end_of-Kind) v (more_of-Kind w end_of-Kind)) e =
    sym (Arrow-is s z f t) ∙ ap₂ Arrow (kind_one f g (ap from_of e)) (kind_one t w (ap to_of e)) ∙ Arrow-is u v g w

kinds-one : (js ks : List Kind) → map kind_term js ≡ map kind_term ks → js ≡ ks
kinds-one [] [] e = refl
kinds-one [] (k ∷ ks) e = absurd (subst IsSome e tt)
  where
    IsSome : List KindTerm → Type 0
    IsSome [] = Unit {0}
    IsSome (x ∷ xs) = ⊥
kinds-one (j ∷ js) [] e = absurd (subst IsSome (sym e) tt)
  where
    IsSome : List KindTerm → Type 0
    IsSome [] = Unit {0}
    IsSome (x ∷ xs) = ⊥
kinds-one (j ∷ js) (k ∷ ks) e = ap₂ (λ x xs. x ∷ xs) (kind_one j k (ap first e)) (kinds-one js ks (ap rest e))
  where
    first : List KindTerm → KindTerm
    first [] = star
    first (x ∷ xs) = x

    rest : List KindTerm → List KindTerm
    rest [] = []
    rest (x ∷ xs) = xs

abbrev index_of : TypeTerm → ℕ
index_of (var i) = i
index_of (con n) = 0
index_of (app f a) = 0

abbrev fun_of : TypeTerm → TypeTerm
fun_of (var i) = var i
fun_of (con n) = con n
fun_of (app f a) = f

abbrev arg_of : TypeTerm → TypeTerm
arg_of (var i) = var i
arg_of (con n) = con n
arg_of (app f a) = a

abbrev IsVar : TypeTerm → Type 0
IsVar (var i) = Unit {0}
IsVar (con n) = ⊥
IsVar (app f a) = ⊥

abbrev IsCon : TypeTerm → Type 0
IsCon (var i) = ⊥
IsCon (con n) = Unit {0}
IsCon (app f a) = ⊥

-- a type with the kinds of its names has one tree
pub type_one : (K : Kinds) (u v : Ty) → type_term u ≡ type_term v → AreNoted K u → AreNoted K v → u ≡ v
type_one K (Var i) (Var j) e p q = ap Var (ap index_of e)
type_one K (Var i) (Con n k) e p q = absurd (subst IsVar e tt)
type_one K (Var i) (App' s (more_of-Ty f end_of-Ty) z (more_of-Ty a end_of-Ty)) e p q = absurd (subst IsVar e tt)
type_one K (Con m j) (Var i) e p q = absurd (subst IsVar (sym e) tt)
type_one K (Con m j) (Con n k) e p q =
    let same = ap (name_of m) e in
    ap₂ Con same (kind_one j k (p ∙ ap (λ x. unwrap_or (K x) star) same ∙ sym q))
  where
    name_of : OrigName → TypeTerm → OrigName
    name_of d (var i) = d
    name_of d (con x) = x
    name_of d (app f a) = d
type_one K (Con m j) (App' s (more_of-Ty f end_of-Ty) z (more_of-Ty a end_of-Ty)) e p q = absurd (subst IsCon e tt)
type_one K (App' s (more_of-Ty f end_of-Ty) z (more_of-Ty a end_of-Ty)) (Var i) e p q =
    absurd (subst IsVar (sym e) tt)
type_one K (App' s (more_of-Ty f end_of-Ty) z (more_of-Ty a end_of-Ty)) (Con n k) e p q =
    absurd (subst IsCon (sym e) tt)
type_one K (App' s (more_of-Ty f end_of-Ty) z (more_of-Ty a end_of-Ty))
    (App' t (more_of-Ty g end_of-Ty) y (more_of-Ty b end_of-Ty)) e p q =
    sym (App-is s z f a)
    ∙ ap₂ App (type_one K f g (ap fun_of e) p.0 q.0) (type_one K a b (ap arg_of e) p.1 q.1) ∙ App-is t y g b

-- ---- tests of all items

all_are-exact : {A : Type 0} (Good : A → Type 0) (fault : A → KindFault) (xs : List A) → IsExact (all_are Good fault xs)
all_are-exact Good fault xs = record {
  one_answer = λ b c p q. refl;
  one_refusal = λ r q h k. h.2 ∙ ap fault (first_bad_one Good xs h.0 k.0 h.1 k.1) ∙ sym k.2;
  never_both = λ b r p h. first_bad_never Good xs h.0 p h.1;
}

values-exact : (K : Kinds) (ds : List Decl) → IsExact (values_kinded K ds)
unfolding values_kinded
values-exact K ds = all_are-exact (λ (u : TypeUse). IsStarKinded K u.ty) (λ u. IllKinded u.name) (value_uses ds)

full-exact : (S : Synonyms) (ds : List Decl) → IsExact (uses_full S ds)
unfolding uses_full
full-exact S ds = all_are-exact (λ (u : TypeUse). IsFull S u.ty) (λ u. Misused u.name) (all_uses ds)

cycle-exact : (at : Ident) (ds : List Decl) → IsExact (no_cycle at ds)
unfolding no_cycle
cycle-exact at ds = record {
  one_answer = λ b c p q. refl;
  one_refusal = λ r q h k.
      let e = first_cycle_one (type_decls (located at ds)) h.0 k.0 h.1 k.1 in
      let same = ap (λ o. unwrap_or o h.2.0) (sym h.2.1 ∙ ap (slice_get (type_decls (located at ds))) e ∙ k.2.1) in
      h.2.2 ∙ ap (λ (d : TypeDecl). Misused d.name.occ) same ∙ sym k.2.2;
  never_both = λ b r p h. first_cycle_never (type_decls (located at ds)) h.0 p h.1;
}

-- ---- expansions

module _ (most : Option ℕ) (K : Kinds) (S : Synonyms) where
  not-both : (t : TypeTerm) → IsNoDeeper most t → IsDeeper most t → ⊥
  not-both t p q = go most p q
    where
      go : (m : Option ℕ) → IsNoDeeper m t → IsDeeper m t → ⊥
      go None a b = b
      go (Some n) a b = absurd (omega (arith, a, b))

  type-exact : (x : Text) (t : Ty) → IsExact (type_gives most K S x t)
  unfolding type_gives
  type-exact x t = record {
    one_answer = λ u v p q. type_one K u v (expansion_is_one S (type_term t) (type_term u) (type_term v) p.0 q.0)
        p.2 q.2;
    one_refusal = λ r q h k. refusal r q h k;
    never_both = λ u r p h. both u r p h;
  }
    where
      refusal : (r q : KindFault) → (type_gives most K S x t).fails r → (type_gives most K S x t).fails q → r ≡ q
      refusal r q (inl h) (inl k) = h.1 ∙ sym k.1
      refusal r q (inl h) (inr k) = absurd (h.0 k.0 k.1)
      refusal r q (inr h) (inl k) = absurd (k.0 h.0 h.1)
      refusal r q (inr h) (inr k) = h.3 ∙ sym k.3

      both : (u : Ty) (r : KindFault) → (type_gives most K S x t).passes u → (type_gives most K S x t).fails r → ⊥
      both u r p (inl h) = h.0 (type_term u) p.0
      both u r p (inr h) = not-both (type_term u) p.1
          (subst (IsDeeper most) (expansion_is_one S (type_term t) h.0 (type_term u) h.1 p.0) h.2)

  field-exact : (x : Text) (f : Field) → IsExact (field_gives most K S x f)
  field-exact x f = IsExact-then (type_gives most K S x f.ty) (λ t. given (record { strict = f.strict; ty = t }))
      (type-exact x f.ty) (λ t. IsExact-given (record { strict = f.strict; ty = t }))

  fields-exact : (x : Text) (fs : List Field) → IsExact (fields_give most K S x fs)
  unfolding fields_give
  fields-exact x fs = IsExact-each (λ done f. field_gives most K S x f) (λ done f. field-exact x f) fs

  con-exact : (x : Text) (c : Constructor) → IsExact (con_gives most K S x c)
  con-exact x c = IsExact-then (fields_give most K S x c.fields)
      (λ fs. given (record { occ = c.occ; fields = fs; fixity = c.fixity })) (fields-exact x c.fields)
      (λ fs. IsExact-given (record { occ = c.occ; fields = fs; fixity = c.fixity }))

  cons-exact : (x : Text) (cs : List Constructor) → IsExact (cons_give most K S x cs)
  unfolding cons_give
  cons-exact x cs = IsExact-each (λ done c. con_gives most K S x c) (λ done c. con-exact x c) cs

  entity-exact : (e : Entity) → IsExact (entity_gives most K S e)
  entity-exact (Abstract n k) = IsExact-given (Abstract n k)
  entity-exact (DataType n k p w cs) = IsExact-then (cons_give most K S n.occ cs) (λ ds. given (DataType n k p w ds))
      (cons-exact n.occ cs) (λ ds. IsExact-given (DataType n k p w ds))
  entity-exact (Synonym n k p t) = IsExact-then (type_gives most K S n.occ t) (λ u. given (Synonym n k p u))
      (type-exact n.occ t) (λ u. IsExact-given (Synonym n k p u))
  entity-exact (Value n c f) = IsExact-then (type_gives most K S n.occ c.body) (λ u. given (Value n (scheme_of u) f))
      (type-exact n.occ c.body) (λ u. IsExact-given (Value n (scheme_of u) f))

  entities-exact : (es : List Entity) → IsExact (entities_give most K S es)
  unfolding entities_give
  entities-exact es = IsExact-each (λ done e. entity_gives most K S e) (λ done e. entity-exact e) es

  lawful-exact : (at : Ident) (ds : List Decl) → IsExact (synonyms_lawful S at ds)
  unfolding synonyms_lawful
  lawful-exact at ds = IsExact-then (no_cycle at ds) (λ b. uses_full S ds) (cycle-exact at ds) (λ b. full-exact S ds)

  types-exact : (at : Ident) (ds : List Decl) (es : List Entity) → IsExact (types_give most K S at ds es)
  unfolding types_give
  types-exact at ds es =
      IsExact-then (values_kinded K ds >> synonyms_lawful S at ds) (λ b. entities_give most K S es)
      (IsExact-then (values_kinded K ds) (λ b. synonyms_lawful S at ds) (values-exact K ds) (λ b. lawful-exact at ds))
      (λ b. entities-exact es)

-- ---- the whole

groups-exact : (outside : Globals) (at : Ident) (ds : List Decl) → IsExact (groups_give outside at ds)
unfolding groups_give
groups-exact outside at ds = record {
  one_answer = λ js ks p q. kinds-one js ks
      (kinds_one (type_decls (located at ds)) (kinds_of outside) (map kind_term js) (map kind_term ks) p q);
  one_refusal = λ r q h k.
      h.2 ∙ ap IllKinded (ill_kinded_one (type_decls (located at ds)) (kinds_of outside) h.0 k.0 h.1 k.1) ∙ sym k.2;
  never_both = λ ks r p h. ill_kinded_never (type_decls (located at ds)) (kinds_of outside) (map kind_term ks) h.0 p h.1;
}

pub kinds_exact : (most : Option ℕ) (outside : Globals) (at : Ident) (ds : List Decl)
    → IsExact (kinds_give most outside at ds)
unfolding kinds_give
kinds_exact most outside at ds =
    IsExact-then (groups_give outside at ds)
    (λ ks. types_give most (λ n. kind_in (seen outside (drafts ds at ds ks) n))
    (synonyms_of (seen outside (drafts ds at ds ks))) at ds (drafts ds at ds ks)) (groups-exact outside at ds)
    (λ ks. types-exact most (λ n. kind_in (seen outside (drafts ds at ds ks) n))
    (synonyms_of (seen outside (drafts ds at ds ks))) at ds (drafts ds at ds ks))
