-- At most one outcome of each check.
use Rattle.std.proofs.Common.{List}
use Rattle.std.specs.Prelude.{Option, Some, None}
use Rattle.bp_checks.specs.Check.{IsExact}
use Rattle.bp_checks.proofs.CheckLemmas.{IsExact-then, IsExact-given, IsExact-refusing, IsExact-each}
use Rattle.hs_scopes.specs.declared.scope.ScopeItem.{ScopeItem}
use Rattle.hs_scopes.specs.Meanings.{name_meant}
use Rattle.hs_scopes.proofs.MeaningLemmas.{exact_name}
use Rattle.hs_scopes.specs.Types.{resolved_type}
use Rattle.name_resolve.specs.Asked.{Part, type_parts}
use Rattle.name_resolve.specs.Modules.{name_fault, reference_meant}
use Rattle.name_resolve.proofs.ExactLemmas.{exact_reference}
use Rattle.type_resolve.specs.Given.{all_meant, made_of, name_gives, there}
use Rattle.type_resolve.specs.Laws.{NamesAreExact, TypesAreExact}

pub names_are_exact : NamesAreExact
names_are_exact items space x =
    IsExact-refusing (name_fault x) (name_meant items space x) (exact_name items space x)

-- what is there is one, and nothing is refused
exact_there : {A : Type 0} (o : Option A) → IsExact (there o)
exact_there None = record {
  one_answer = λ b c p q. absurd p;
  one_refusal = λ a b p q. absurd p;
  never_both = λ b s p q. p;
}
exact_there (Some a) = IsExact-given a

-- what is made of names that mean something
exact_made : {A : Type 0} (items : List ScopeItem) (ps : List Part) (o : Option A) → IsExact (made_of items ps o)
exact_made items ps o = IsExact-then (all_meant items ps) (λ meant. there o)
    (IsExact-each (λ done r. reference_meant items r) (λ done r. exact_reference items r) _) (λ meant. exact_there o)

pub types_are_exact : TypesAreExact
types_are_exact items head x = exact_made items (type_parts head x) (resolved_type items x)
