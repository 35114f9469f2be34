-- What holds of the definitions.
use Rattle.std.specs.Prelude.{List, Option}
use Rattle.bp_base.specs.Texts.{Text}
use Rattle.bp_base.specs.declared.ty.Space.{Space}
use Rattle.bp_checks.specs.Check.{IsExact}
use Rattle.hs_trees.specs.declared.types.TypeTree.{TypeTree}
use Rattle.hs_scopes.specs.declared.scope.ScopeItem.{ScopeItem}
use Rattle.type_resolve.specs.Given.{name_gives, type_gives}

-- a name has one meaning or one fault
abbrev pub NamesAreExact : Type 0
NamesAreExact = (items : List ScopeItem) (space : Space) (x : Text) → IsExact (name_gives items space x)

-- a type is resolved in one way, or refused for one reason
abbrev pub TypesAreExact : Type 0
TypesAreExact = (items : List ScopeItem) (head : Option (List Text)) (x : TypeTree) → IsExact (type_gives items head x)
