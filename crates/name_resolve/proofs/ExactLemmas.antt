-- At most one outcome of each check on names.
use Rattle.std.proofs.Common.{◌≡◌, List, [], sym, ◌∙◌}
use Rattle.std.specs.Prelude.{Bool, true, false, Option, Some, None}
use Rattle.bp_base.specs.Texts.{Text}
use Rattle.bp_checks.specs.Check.{Check, given, refusing, IsExact}
use Rattle.bp_checks.proofs.CheckLemmas.{IsExact-then, IsExact-given, IsExact-refusing, IsExact-each}
use Rattle.bp_base.specs.declared.ty.Space.{Space}
use Rattle.bp_base.specs.declared.ty.Space.TheVariants.{Values}
use Rattle.hs_modules.specs.declared.module.Module.{Module}
use Rattle.hs_core.specs.declared.tree.Decl.{Decl}
use Rattle.hs_scopes.specs.declared.scope.ScopeItem.{ScopeItem}
use Rattle.hs_scopes.specs.Meanings.{name_meant}
use Rattle.hs_scopes.proofs.MeaningLemmas.{exact_name}
use Rattle.hs_scopes.specs.Patterns.{Literals}
use Rattle.hs_scopes.specs.Resolved.{Env}
use Rattle.name_resolve.specs.Asked.{Reference}
use Rattle.name_resolve.specs.Modules.{NameFault, Done, none_found, name_fault, global_meant, bound_or, reference_meant}
use Rattle.name_resolve.specs.Modules.{tree_or, none_of, Top, declaration_gives, declared_once, decls_give}
use Rattle.name_resolve.specs.Laws.{NamesAreExact}

-- a check that only refuses, and by one fault
pub exact_refused : {B : Type 0} (r : NameFault) → IsExact {B = B} (record { passes = λ c. ⊥; fails = λ q. q ≡ r })
exact_refused r = record {
  one_answer = λ b c p q. absurd p;
  one_refusal = λ a b p q. p ∙ sym q;
  never_both =
      λ b s p q. p;
}

exact_none : (f : Text → NameFault) (o : Option Text) → IsExact (none_found f o)
exact_none f None = IsExact-given tt
exact_none f (Some x) = exact_refused (f x)

exact_none_of : (t : Bool) (r : NameFault) → IsExact (none_of t r)
exact_none_of true r = exact_refused r
exact_none_of false r = IsExact-given tt

exact_tree : (x : Text) (o : Option (List Decl)) → IsExact (tree_or x o)
exact_tree x None = exact_refused (NameFault.Fixity x)
exact_tree x (Some ds) = IsExact-given ds

-- what is bound around is fine
pub exact_bound : (t : Bool) (s : Check Done NameFault) → IsExact s → IsExact (bound_or t s)
exact_bound true s e = IsExact-given tt
exact_bound false s e = e

exact_global : (items : List ScopeItem) (space : Space) (x : Text) → IsExact (global_meant items space x)
exact_global items space x =
    IsExact-then (refusing (name_fault x) (name_meant items space x)) (λ n. given tt)
    (IsExact-refusing (name_fault x) (name_meant items space x) (exact_name items space x)) (λ n. IsExact-given tt)

-- a reference is fine or has one fault
pub exact_reference : (items : List ScopeItem) (r : Reference) → IsExact (reference_meant items r)
exact_reference items (Reference.plain x bound) = exact_bound _ _ (exact_global items Values x)
exact_reference items (Reference.global space x) = exact_global items space x
exact_reference items (Reference.variable x head) = exact_bound _ _ (exact_refused (NameFault.NotInScope x))
exact_reference items (Reference.signed x own) = exact_bound _ _ (exact_refused (NameFault.NotInScope x))

exact_declaration : (env : Env) (own : List Text) (x : Top) → IsExact (declaration_gives env own x)
exact_declaration env own x =
    IsExact-then _ _ (IsExact-each (λ done r. reference_meant env.items r) (λ done r. exact_reference env.items r) _)
    (λ meant.
    IsExact-then _ _ (exact_none_of _ _) (λ once. IsExact-then _ _ (exact_none_of _ _) (λ bound. exact_tree _ _)))

exact_once : (m : Module) → IsExact (declared_once m)
exact_once m = IsExact-then _ _ (exact_none NameFault.Twice _)
    (λ once. IsExact-then _ _ (exact_none NameFault.NoSignatureOf _) (λ signed. exact_none NameFault.Fixity _))

exact_decls : (ls : Literals) (m : Module) (items : List ScopeItem) → IsExact (decls_give ls m items)
exact_decls ls m items = IsExact-then _ _ (IsExact-each _
    (λ done y. exact_declaration (record { literals = ls; items = items; locals = [] }) _ y) _) (λ dss. IsExact-given _)

pub names_are_exact : NamesAreExact
names_are_exact ls m items = (
  exact_once m,
  exact_decls ls m items,
  IsExact-then _ _ (exact_once m)
      (λ once. exact_decls ls m items),
)
