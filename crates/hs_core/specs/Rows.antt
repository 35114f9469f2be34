-- What the rows of the tables in code mean. No public clause speaks of this.
use Rattle.std.specs.Prelude.{List, [], ◌∷◌, map}
use Rattle.bp_base.specs.declared.ty.Ty.{Ty}
use Rattle.bp_base.specs.declared.ty.Ty.TheVariants.{Var}
use Rattle.bp_base.specs.declared.entity.Con.{Con as Constructor}
use Rattle.bp_base.specs.declared.entity.Export.{Export}
use Rattle.hs_core.specs.declared.base_rows.Atomic.{Atomic}
use Rattle.hs_core.specs.declared.base_rows.Atomic.TheVariants as atomic
use Rattle.hs_core.specs.declared.base_rows.Argument.{Argument}
use Rattle.hs_core.specs.declared.base_rows.Argument.TheVariants.{One, Function}
use Rattle.hs_core.specs.declared.base_rows.Row.{Row}
use Rattle.hs_core.specs.declared.base_rows.ConRow.{ConRow}
use Rattle.hs_core.specs.declared.base_rows.DataRow.{DataRow}
use Rattle.hs_core.specs.Base.{int, char, bool, unit, list, pair, maybe, either, io, ◌⇒◌, value, con, data_type}

abbrev pub atomic_type : Atomic → Ty
atomic_type (atomic.Var index) = Var index
atomic_type atomic.Bool = bool
atomic_type atomic.Char = char
atomic_type atomic.Int = int
atomic_type atomic.Text = list char
atomic_type (atomic.List of) = list (Var of)
atomic_type (atomic.Lists of) = list (list (Var of))
atomic_type (atomic.Pair first second) = pair (Var first) (Var second)
atomic_type (atomic.Pairs first second) = list (pair (Var first) (Var second))
atomic_type (atomic.Maybe of) = maybe (Var of)
atomic_type (atomic.Either left right) = either (Var left) (Var right)
atomic_type (atomic.Io of) = io (Var of)
atomic_type atomic.IoUnit = io unit

-- a function of these
abbrev pub arrows : List Atomic → Ty → Ty
arrows [] result = result
arrows (p ∷ ps) result = atomic_type p ⇒ arrows ps result

abbrev pub argument_type : Argument → Ty
argument_type (One p) = atomic_type p
argument_type (Function ps result) = arrows ps.now (atomic_type result)

abbrev pub row_type : List Argument → Ty → Ty
row_type [] result = result
row_type (p ∷ ps) result = argument_type p ⇒ row_type ps result

abbrev pub row_export : Row → Export
row_export row = value row.0.now row.1 row.2 (row_type row.3.now (atomic_type row.4))

abbrev pub row_con : ConRow → Constructor
row_con row = con row.0.now (map (λ n. Var n) row.1.now)

abbrev pub row_data : DataRow → Export
row_data row = data_type row.0.now row.1 (map row_con row.2.now)
