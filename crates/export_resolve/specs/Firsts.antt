-- The table of first meanings.
use Rattle.std.specs.Prelude.{Option}
use Rattle.std.specs.HashMap.{get}
use Rattle.std.specs.Str.{bytes_eq}
use Rattle.bp_base.specs.Texts.{Text}
use Rattle.bp_base.specs.declared.ty.Space.{Space}
use Rattle.bp_base.specs.declared.ty.Space.TheVariants.{Types, Values}
use Rattle.bp_base.specs.declared.ty.OrigName.{OrigName}
use Rattle.export_resolve.specs.declared.clash.FirstTable.{FirstTable}

-- what the table says of a type or a value of this name
abbrev pub firsts_at : FirstTable → Space → Text → Option OrigName
firsts_at t Types q = get bytes_eq t.types q
firsts_at t Values q = get bytes_eq t.values q
