-- Names that mean the same, and the steps of a module joined.
use Rattle.std.proofs.Common.{◌≡◌, ◌⊎◌, inl, inr, ℕ, List, [], ◌∷◌, refl, sym, ap, subst}
use Rattle.std.specs.Prelude.{◌↔◌, Option, Some, map, Result, Ok, Err}
use Rattle.bp_base.specs.Texts.{Text}
use Rattle.bp_base.specs.declared.ident.Ident.{Ident}
use Rattle.bp_base.specs.declared.ty.OrigName.{OrigName}
use Rattle.bp_base.specs.declared.ty.Kind.{Kind}
use Rattle.bp_base.specs.declared.entity.Entity.{Entity}
use Rattle.hs_core.specs.declared.tree.Decl.{Decl}
use Rattle.hs_core.specs.declared.group.IndexGroup.{IndexGroup}
use Rattle.hs_core.specs.Types.{KindTerm, kind_term}
use Rattle.hs_core.specs.Kinds.{NameKinds, TypeDecl, within_group, AllKeep, IsKinding, AreLeastKinds}
use Rattle.hs_core.specs.Expansion.{Synonyms}
use Rattle.hs_core.specs.Globals.{Globals, kind_in, kinds_of, synonyms_of}
use Rattle.hs_core.specs.WellTyped.{chosen, AllLeast, AreKinds, type_decls, located}
use Rattle.kind_check.specs.Walks.{HasNoKinding}
use Rattle.kind_check.proofs.DeclareLemmas.{Keeps-map}
use Rattle.kind_order.proofs.OrderLemmas.{least-map}
use Rattle.declared_kinds.specs.Sources.{IsIllIn, IsIllKinded}
use Rattle.type_drafts.specs.Drafts.{drafts}
use Rattle.kind_module.specs.declared.error.KindsError.{KindsError}
use Rattle.kind_module.specs.declared.error.KindsError.TheVariants as k
use Rattle.kind_module.specs.Faults.{KindFault, IllKinded, Finds, OnKinds}
use Rattle.kind_module.specs.Tests.{Kinds}
use Rattle.kind_module.specs.Kinds.{groups_give, types_give, seen, kinds_give}
use Rattle.kind_module.proofs.LoopLemmas.{OnKinds-map}

-- ---- names that mean the same

abbrev AreSame : NameKinds → NameKinds → Type 0
AreSame N M = (n : OrigName) (j : KindTerm) → N n j ↔ M n j

within-both : (N M : NameKinds) (ds : List TypeDecl) (ks : List KindTerm) → AreSame N M
    → AreSame (within_group N ds ks) (within_group M ds ks)
within-both N M ds ks p n j = (
  λ h. elim h [ inl g ↦ inl g | inr o ↦ inr (o.0, (p n j).0 o.1) ],
  λ h. elim h [ inl g ↦ inl g | inr o ↦ inr (o.0, (p n j).1 o.1) ],
)

AllKeep-same : (N M : NameKinds) (ds : List TypeDecl) (ks : List KindTerm) → AreSame N M → AllKeep N ds ks
    → AllKeep M ds ks
AllKeep-same N M [] ks p h = h
AllKeep-same N M (d ∷ ds) ks p h =
    (h.0, h.1, h.2, Keeps-map N M d h.0 (λ n j. (p n j).0) h.3, AllKeep-same N M ds h.1 p h.4)

none-same : (N M : NameKinds) (ds : List TypeDecl) → AreSame N M → HasNoKinding N ds → HasNoKinding M ds
none-same N M ds p h ks x =
    h ks (AllKeep-same (within_group M ds ks) (within_group N ds ks) ds ks
    (λ n j. let b = within-both N M ds ks p n j in (b.1, b.0)) x)

AllLeast-same : (N M : NameKinds) (ds : List TypeDecl) (ks : List KindTerm) (gs : List IndexGroup) → AreSame N M
    → AllLeast N ds ks gs → AllLeast M ds ks gs
AllLeast-same N M ds ks [] p h = tt
AllLeast-same N M ds ks (g ∷ gs) p h = (
  least-map N M (chosen ds g.members) (chosen ks g.members) p h.0,
  AllLeast-same (within_group N (chosen ds g.members) (chosen ks g.members))
      (within_group M (chosen ds g.members) (chosen ks g.members)) ds ks gs
      (within-both N M (chosen ds g.members) (chosen ks g.members) p) h.1,
)

ill-same : (N M : NameKinds) (ds : List TypeDecl) (gs : List IndexGroup) (x : Text) → AreSame N M → IsIllIn N ds gs x
    → IsIllIn M ds gs x
ill-same N M ds [] x p h = h
ill-same N M ds (g ∷ gs) x p (inl h) = inl (none-same N M (chosen ds g.members) p h.0, h.1)
ill-same N M ds (g ∷ gs) x p (inr h) = inr (
  h.0,
  least-map N M (chosen ds g.members) h.0 p h.1,
  ill-same (within_group N (chosen ds g.members) h.0) (within_group M (chosen ds g.members) h.0) ds gs x
      (within-both N M (chosen ds g.members) h.0 p) h.2,
)

-- ---- the kinds of type declarations

module _ (names : NameKinds) (outside : Globals) (at : Ident) (ds : List Decl) (heads : List TypeDecl)
    (same : AreSame names (kinds_of outside)) (is : heads ≡ type_decls (located at ds)) where
  pub groups_pass : (ks : List Kind) → AreKinds names heads (map kind_term ks) → (groups_give outside at ds).passes ks
  unfolding groups_give
  groups_pass ks h = subst (λ z. AreKinds (kinds_of outside) z (map kind_term ks)) is (record {
    each = h.each;
    groups = h.groups;
    order = h.order;
    least = AllLeast-same names (kinds_of outside) heads (map kind_term ks) h.groups same h.least;
  })

  pub groups_fail : (x : Text) → IsIllKinded names heads x → (groups_give outside at ds).fails (IllKinded x)
  unfolding groups_give
  groups_fail x h = (
    x,
    subst (λ z. IsIllKinded (kinds_of outside) z x) is
        (h.0, h.1, ill-same names (kinds_of outside) heads h.0 x same h.2),
    refl,
  )

-- ---- the whole

module _ (most : Option ℕ) (outside : Globals) (at : Ident) (ds : List Decl) where
  pub groups_refused : (e : KindsError) → OnKinds e (groups_give outside at ds).fails
      → OnKinds e (kinds_give most outside at ds).fails
  unfolding kinds_give
  groups_refused e h =
      OnKinds-map e (groups_give outside at ds).fails (kinds_give most outside at ds).fails (λ q y. inl y) h

  joined : (ks : List Kind) (r : Result (List Entity) KindsError) → (groups_give outside at ds).passes ks
      → Finds (types_give most (λ n. kind_in (seen outside (drafts ds at ds ks) n))
      (synonyms_of (seen outside (drafts ds at ds ks))) at ds (drafts ds at ds ks)) r
      → Finds (kinds_give most outside at ds) r
  unfolding kinds_give
  joined ks (Ok b) p z = (ks, p, z)
  joined ks (Err e) p z = OnKinds-map e _ (kinds_give most outside at ds).fails (λ q y. inr (ks, p, y)) z

  pub whole_answer : (ks : List Kind) (own : List Entity) (K : Kinds) (S : Synonyms) (r : Result (List Entity) KindsError)
      → (groups_give outside at ds).passes ks → own ≡ drafts ds at ds ks
      → ((n : OrigName) → K n ≡ kind_in (seen outside own n))
      → ((n : OrigName) → S n ≡ synonyms_of (seen outside own) n) → Finds (types_give most K S at ds own) r
      → Finds (kinds_give most outside at ds) r
  whole_answer ks own K S r p e k s h =
      joined ks r p
      (subst (λ o. Finds (types_give most (λ n. kind_in (seen outside o n)) (synonyms_of (seen outside o)) at ds o) r) e
      (subst (λ z. Finds (types_give most z (synonyms_of (seen outside own)) at ds own) r) (λ i n. k n i)
      (subst (λ z. Finds (types_give most K z at ds own) r) (λ i n. s n i) h)))
