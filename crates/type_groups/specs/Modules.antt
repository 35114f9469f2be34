-- The kinds of all type declarations of a module.
use Rattle.std.specs.Prelude.{List}
use Rattle.hs_core.specs.Kinds.{NameKinds}
use Rattle.kind_check.specs.declared.scope.GroupDecl.{GroupDecl}
use Rattle.kind_check.specs.declared.group.TypeGroup.{TypeGroup}
use Rattle.kind_check.specs.declared.group.GroupError.{GroupError}
use Rattle.kind_check.specs.declared.group.GroupError.TheVariants as why
use Rattle.kind_order.specs.Orders.{Kinded, IllAt}
use Rattle.type_groups.specs.Uses.{AreTypeGroups}
use Rattle.type_groups.specs.declared.module.ModuleKinds.{ModuleKinds}

-- the dependency groups, each with its least kinds where those before it have theirs
pub record AreModuleKinds (names : NameKinds) (ds : List GroupDecl) (m : ModuleKinds) : Type 0 where
  pub are_groups : AreTypeGroups ds m.groups
  pub kinded : Kinded names m.groups m.kinds

-- the first group without kinds has the name for its first declaration
abbrev pub IsModuleError : NameKinds → List GroupDecl → GroupError → Type 0
IsModuleError names ds (why.Kind x) = (gs : List TypeGroup) × AreTypeGroups ds gs × IllAt names gs x
IsModuleError names ds why.NoMemory = Unit {0}
