-- What inference demands of a clause of a function (Haskell 2010 Report, section 4.4.3.1).
use Rattle.std.specs.Prelude.{◌≡◌, ℕ, List, [], ◌∷◌}
use Rattle.bp_base.specs.Texts.{Text}
use Rattle.hs_core.specs.declared.tree.Pat.{Pat}
use Rattle.hs_core.specs.declared.tree.Rhs.{Rhs}
use Rattle.hs_core.specs.declared.tree.Decl.TheVariants.{Clause}
use Rattle.hs_core.specs.Types.{any}
use Rattle.hs_core.specs.Schemes.{monomorphic}
use Rattle.hs_core.specs.Globals.{Globals}
use Rattle.hs_core.specs.Typing.{IsTypedDecl}
use Rattle.type_meaning.specs.Meanings.{only, MeantDecl}
use Rattle.type_equations.specs.declared.equations.Binder.{Binder}
use Rattle.type_equations.specs.Demands.{Demand, typed_names}

-- a clause is typed where its name has the type of an unknown
abbrev pub is_clause : Globals → Text → List Pat → Rhs → List Binder → ℕ → Demand
is_clause G x ps r env v g bs = IsTypedDecl G any (Clause x ps r) g.kinds (monomorphic (typed_names g env))
    (record { name = x; type = g.types v } ∷ []) × (bs ≡ [])

abbrev pub meant_clause : Globals → Text → List Pat → Rhs → List Binder → ℕ → Demand
meant_clause G x ps r env v g bs = MeantDecl G g.kinds (Clause x ps r) (only (typed_names g env) [])
    (record { name = x; type = g.types v } ∷ []) × (bs ≡ [])
