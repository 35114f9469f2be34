-- What inference of a clause of a function does to equations.
use Rattle.std.specs.Prelude.{ℕ, List, [], ◌∷◌}
use Rattle.bp_base.specs.Texts.{Text}
use Rattle.hs_core.specs.declared.tree.Pat.{Pat}
use Rattle.hs_core.specs.declared.tree.Rhs.{Rhs}
use Rattle.type_equations.specs.States.{State}
use Rattle.type_equations.specs.declared.equations.Binder.{Binder}
use Rattle.infer_patterns.specs.declared.names.Declared.{Declared}
use Rattle.clause_demands.specs.Clauses.{is_clause, meant_clause}
use Rattle.infer_expressions.specs.Inferred.{Imposed, Refused}

-- the clause of any name is typed where the name has the type of the unknown
abbrev pub ClauseInferred : List Declared → List Binder → State → State → List Pat → Rhs → ℕ → Type 0
ClauseInferred names env old new ps r v = (x : Text) → Imposed names env (v ∷ []) (λ G. is_clause G x ps r env v)
    (λ G. meant_clause G x ps r env v) old new

abbrev pub ClauseRefused : List Declared → List Binder → State → List Pat → Rhs → ℕ → Type 0
ClauseRefused names env old ps r v = (x : Text) → Refused names env (v ∷ []) (λ G. meant_clause G x ps r env v) old
