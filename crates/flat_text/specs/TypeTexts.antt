-- The bytes of types.
use Rattle.std.specs.Prelude.{ℕ, List, ◌++◌, codes, length}
use Rattle.std.specs.List.{flat_map}
use Rattle.flat_text.specs.declared.name.Place.{Place}
use Rattle.flat_text.specs.declared.name.Place.TheVariants as p
use Rattle.flat_text.specs.Marks.{written}
use Rattle.hs_core.specs.declared.tree.Written.{Written}
use Rattle.flat_text.specs.declared.types.Head.{Head}
use Rattle.flat_text.specs.TypeMarks.{Placed, TypeText, type_text}

-- the head of a type, and how many arguments it has
unfoldable pub head_in : Written → Head
head_in ty = (type_text ty).head

unfoldable pub arg_count : Written → ℕ
arg_count ty = length (type_text ty).args

-- the arguments of a type at a place, each with what stands behind it
abbrev pub args_text : List Placed → Place → List ℕ → List ℕ
args_text args place behind = flat_map (λ (arg : Placed). written (arg place) ++ behind) args

unfoldable pub before_text : Written → Place → List ℕ → List ℕ
before_text ty place behind = args_text (type_text ty).args place behind

-- a head and its arguments
abbrev pub head_text : TypeText → List ℕ
head_text ty = written ty.name ++ flat_map (λ (arg : Placed). codes " " ++ written (arg p.Atom)) ty.args

unfoldable pub application_text : Written → List ℕ
application_text ty = head_text (type_text ty)
