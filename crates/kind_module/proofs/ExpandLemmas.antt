-- Expanded types with the kinds of names noted.
use Rattle.std.proofs.Common.{◌≡◌, ◌⊎◌, inl, inr, ℕ, refl, ap, ◌∙◌, subst, sym}
use Rattle.bp_base.specs.declared.ty.Ty.{Ty}
use Rattle.bp_base.specs.declared.ty.Ty.TheVariants.{App}
use Rattle.bp_base.specs.declared.ty.Ty.TheBlock.{hidden-the_row-Ty-0}
use Rattle.type_terms.specs.Terms.{app}
use Rattle.hs_core.specs.Types.{TypeTerm, type_term}
use Rattle.hs_core.specs.Expansion.{Synonyms, Expands, IsExpandable}
use Rattle.hs_core.proofs.ExpansionLemmas.{expandable_from}
use Rattle.std.proofs.Common.{List, [], ◌∷◌, zero, suc, Bor}
use Rattle.std.specs.Prelude.{Option, Some, None, slice_get, unwrap_or}
use Rattle.std.specs.Option.{option_copied}
use Rattle.bp_base.specs.Texts.{Text}
use Rattle.bp_base.specs.declared.ident.Ident.{Ident}
use Rattle.hs_core.specs.declared.tree.Decl.{Decl}
use Rattle.hs_core.specs.WellTyped.{type_decls, located}
use Rattle.kind_check.specs.declared.scope.GroupDecl.{GroupDecl}
use Rattle.kind_check.specs.Scopes.{decls_of, decl_of}
use Rattle.declared_kinds.specs.Cycles.{IsFirstOnCycle}
use Rattle.kind_module.specs.Faults.{Misused}
use Rattle.std.proofs.lemmas.Option.{none-some}
use Rattle.bp_base.specs.declared.ty.OrigName.{OrigName}
use Rattle.hs_core.specs.Types.{KindTerm}
use Rattle.kind_check.specs.declared.scope.Known.{Known}
use Rattle.kind_check.specs.Scopes.{IsKnown, IsUnknown}
use Rattle.kind_check.proofs.ScopeLemmas.{some_same}
use Rattle.kind_env.specs.Listings.{known_kind}
use Rattle.kind_env.proofs.ListLemmas.{kind_known}
use Rattle.kind_module.specs.Tests.{Kinds, no_cycle}
use Rattle.kind_module.specs.Expanded.{AreNoted}
use denote.Hole.Carrier.{hidden}

pub type_app : (f a : Ty) → type_term (App f a) ≡ app (type_term f) (type_term a)
unfolding hidden-the_row-Ty-0 hidden
type_app f a = refl

pub noted_app : (K : Kinds) (f a : Ty) → AreNoted K f → AreNoted K a → AreNoted K (App f a)
unfolding hidden-the_row-Ty-0 hidden
noted_app K f a h k = (h, k)

-- what isn't expandable has no expansion
pub no_expansion : (S : Synonyms) (t : TypeTerm) → (IsExpandable S t → ⊥) → (u : TypeTerm) → Expands S t u → ⊥
no_expansion S t n u e = n (expandable_from S t u e)

-- what is known of a name, as a function
pub known_is : (es : List Known) (n : OrigName) (k : KindTerm) → IsKnown es n k → known_kind es n ≡ Some k
known_is es n k h = kind_known es n (Some k)
    (λ j. (λ p. ap Some ((h j).0 p), λ e. (h j).1 (some_same k j e)))

pub unknown_is : (es : List Known) (n : OrigName) → IsUnknown es n → known_kind es n ≡ None
unknown_is es n h = kind_known es n None (λ j. (λ p. absurd (h j p), λ e. absurd (none-some j e)))

pub made_same : (t f a g b x y z : Ty) → t ≡ App f a → g ≡ f → b ≡ a → type_term x ≡ type_term g
    → type_term y ≡ type_term b → type_term z ≡ app (type_term x) (type_term y) → type_term z ≡ type_term t
made_same t f a g b x y z is p q h k e =
    e ∙ (λ i. app ((h ∙ ap type_term p) i) ((k ∙ ap type_term q) i)) ∙ sym (ap type_term is ∙ type_app f a)

-- ---- cycles

decl_at : (ds : List GroupDecl) (i : ℕ) (d : GroupDecl) → slice_get ds i ≡ Some d
    → slice_get (decls_of ds) i ≡ Some (decl_of d)
decl_at [] zero d e = absurd (none-some d e)
decl_at [] (suc i) d e = absurd (none-some d e)
decl_at (x ∷ xs) zero d e = ap (λ (o : Option GroupDecl). Some (decl_of (unwrap_or o x))) e
decl_at (x ∷ xs) (suc i) d e = decl_at xs i d e

pub no_cycle_answer : (at : Ident) (ds : List Decl) (heads one : List GroupDecl) (o : Option ℕ)
    → decls_of heads ≡ type_decls (located at ds) → one ≡ heads → IsFirstOnCycle (decls_of one) o → o ≡ None
    → (no_cycle at ds).passes tt
unfolding no_cycle
no_cycle_answer at ds heads one o is p h e =
    subst (λ z. IsFirstOnCycle (type_decls (located at ds)) z) e
    (subst (λ z. IsFirstOnCycle z o) (ap decls_of p ∙ is) h)

pub cycle_answer : (at : Ident) (ds : List Decl) (heads one two : List GroupDecl) (o : Option ℕ) (n : ℕ)
    (r : Option (Bor GroupDecl)) (d : Bor GroupDecl) (x : Text) → decls_of heads ≡ type_decls (located at ds)
    → one ≡ heads → two ≡ heads → IsFirstOnCycle (decls_of one) o → o ≡ Some n → option_copied r ≡ slice_get two n
    → r ≡ Some d → x ≡ d.now.name.occ → (no_cycle at ds).fails (Misused x)
unfolding no_cycle
cycle_answer at ds heads one two o n r d x is p q h e f g c = (
  n,
  subst (λ z. IsFirstOnCycle (type_decls (located at ds)) z) e
      (subst (λ z. IsFirstOnCycle z o) (ap decls_of p ∙ is) h),
  (
    decl_of d.now,
    subst (λ z. slice_get z n ≡ Some (decl_of d.now)) (ap decls_of q ∙ is)
        (decl_at two n d.now (sym f ∙ ap option_copied g)),
    ap Misused c,
  ),
)
