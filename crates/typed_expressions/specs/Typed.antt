-- Whether an expression in which all names are names of modules has a type.
use Rattle.std.specs.Prelude.{List, []}
use Rattle.hs_core.specs.declared.tree.Exp.{Exp}
use Rattle.hs_core.specs.Types.{TypeTerm, any}
use Rattle.hs_core.specs.Globals.{Globals}
use Rattle.hs_core.specs.Typing.{Kinds, HasType}
use Rattle.type_meaning.specs.MeaningLaws.{HasAllKinds}
use Rattle.infer_patterns.specs.Names.{Knows}
use Rattle.infer_patterns.specs.declared.names.Declared.{Declared}

-- where these are all names that have a declared type, and there are types of all kinds, the expression has some type
abbrev pub HasSomeType : List Declared → Exp → Type 0
HasSomeType names e = (G : Globals) (kinds : Kinds) → Knows G names → HasAllKinds G kinds
    → (t : TypeTerm) × HasType G any e kinds [] t

-- there it has none
abbrev pub HasNoType : List Declared → Exp → Type 0
HasNoType names e = (G : Globals) (kinds : Kinds) → Knows G names → HasAllKinds G kinds
    → (t : TypeTerm) → HasType G any e kinds [] t → ⊥
