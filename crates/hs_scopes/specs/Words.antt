-- Written names: the qualifier, which is empty where there is none, and what stands behind it (Haskell 2010 Report,
-- section 2.4).
use Rattle.std.specs.Prelude.{Bool, true, false, not, ◌&&◌, nat_eq, List, [], ◌∷◌, ◌++◌, if◌then◌else◌}
use Rattle.std.specs.Char.{is_ascii_uppercase}
use Rattle.bp_base.specs.Texts.{Text}
use Rattle.hs_trees.specs.declared.patterns.VarTree.{VarTree}
use Rattle.hs_trees.specs.declared.patterns.VarTree.TheVariants as v
use Rattle.hs_modules.specs.declared.names.ConTree.{ConTree}
use Rattle.hs_modules.specs.declared.names.ConTree.TheVariants as c
use Rattle.hs_modules.specs.declared.names.VarOpTree.{VarOpTree}
use Rattle.hs_modules.specs.declared.names.VarOpTree.TheVariants as vo
use Rattle.hs_modules.specs.declared.names.ConOpTree.{ConOpTree}
use Rattle.hs_modules.specs.declared.names.ConOpTree.TheVariants as co
use Rattle.hs_modules.specs.declared.names.OpTree.{OpTree}
use Rattle.hs_modules.specs.declared.names.OpTree.TheVariants as o

pub record Word : Type 0 where
  pub qualifier : Text
  pub occ : Text

abbrev pub plain : Text → Word
plain x = record { qualifier = []; occ = x }

abbrev pub is_empty : {A : Type 0} → List A → Bool
is_empty [] = true
is_empty (x ∷ xs) = false

-- a part that may stand before a dot: it begins with a capital
abbrev pub is_capital : Text → Bool
is_capital [] = false
is_capital (b ∷ bs) = is_ascii_uppercase b

-- a part behind those before it, with a dot between
abbrev pub dotted : Text → Text → Text
dotted [] part = part
dotted (b ∷ bs) part = (b ∷ bs) ++ 46 ∷ part

-- A dot behind a part with a capital ends that part, as long as something stands behind the dot.
abbrev pub word_from : Text → Text → Text → Word
word_from qualifier part [] = record { qualifier = qualifier; occ = part }
word_from qualifier part (b ∷ bs) =
    if nat_eq b 46 && is_capital part && not (is_empty bs) then word_from
    (dotted qualifier part) [] bs else word_from qualifier (part ++ b ∷ []) bs

-- `A.B.x` is `x` behind `A.B`, `M..` is `.` behind `M`
abbrev pub word_of : Text → Word
word_of name = word_from [] [] name

abbrev pub var_name : VarTree → Text
var_name (v.Id x) = x
var_name (v.Sym x) = x

abbrev pub con_name : ConTree → Text
con_name (c.Id x) = x
con_name (c.Sym x) = x

abbrev pub varop_name : VarOpTree → Text
varop_name (vo.Sym x) = x
varop_name (vo.Quoted x) = x

abbrev pub conop_name : ConOpTree → Text
conop_name (co.Sym x) = x
conop_name (co.Quoted x) = x

abbrev pub op_name : OpTree → Text
op_name (o.Var x) = varop_name x
op_name (o.Con x) = conop_name x
