-- Written types as a table of the scope makes them, as functions (Haskell 2010 Report, section 4.1.2).
use Rattle.std.specs.Prelude.{suc, List, [], ◌∷◌, ◌++◌, length, Option, Result, Ok}
use Rattle.bp_base.specs.Texts.{Text}
use Rattle.bp_base.specs.Specials.{special_name}
use Rattle.bp_base.specs.declared.special.Special.{Special}
use Rattle.bp_base.specs.declared.special.Special.TheVariants as sp
use Rattle.bp_base.specs.declared.ty.Space.TheVariants.{Types}
use Rattle.hs_trees.specs.declared.types.TypeTree.{TypeTree, TypeTree'}
use Rattle.hs_trees.specs.declared.types.BTypeTree.{BTypeTree}
use Rattle.hs_trees.specs.declared.types.ATypeTree.{ATypeTree}
use Rattle.hs_trees.specs.declared.types.ATypeTree.TheVariants.{Con, Unit as UnitType, ListCon, ArrowCon, TupleCon, Var}
use Rattle.hs_trees.specs.declared.types.ATypeTree.TheVariants.{Parts', List' as ListType'}
use Rattle.hs_trees.specs.declared.types.ATypeTree.TheBlock.{Row_of-TypeTree, end_of-TypeTree, more_of-TypeTree}
use Rattle.hs_trees.specs.declared.types.ATypeTree.TheBlock.{Row_of-ATypeTree, end_of-ATypeTree, more_of-ATypeTree}
use Rattle.hs_trees.specs.declared.types.ATypeTree.TheBlock.{Row_of-BTypeTree, end_of-BTypeTree, more_of-BTypeTree}
use Rattle.hs_core.specs.declared.tree.Written.{Written}
use Rattle.hs_core.specs.declared.tree.Written.TheVariants.{WVar, WCon, WApp}
use Rattle.hs_scopes.specs.Types.{applied_to, arrow_to, bracketed_types, parts_count}
use Rattle.scope_table.specs.declared.table.ScopeTable.{ScopeTable}
use Rattle.name_resolve.specs.Modules.{NameFault}
use Rattle.type_resolve.specs.Names.{meaning_found, next, variable_found}

abbrev pub both_found : {A B C : Type 0} → (A → B → C) → Result A NameFault → Result B NameFault → Result C NameFault
both_found f a b = next a (λ x. next b (λ y. Ok (f x y)))

abbrev pub special_type : Special → Written
special_type s = WCon (special_name Types s)

-- a list in the order of the source: what is found of each, or the first fault
abbrev pub together : {B : Type 0} → List B → Result (List B) NameFault → Result (List B) NameFault
together bs found = next found (λ more. Ok (bs ++ more))

abbrev pub all_found : {A B : Type 0} → (A → Result B NameFault) → List A → Result (List B) NameFault
all_found f [] = Ok []
all_found f (a ∷ rest) = next (f a) (λ b. together (b ∷ []) (all_found f rest))

-- arguments behind a type, one after another
abbrev pub args_found : {A : Type 0} → (A → Result Written NameFault) → Written → List A → Result Written NameFault
args_found f u [] = Ok u
args_found f u (a ∷ rest) = next (f a) (λ v. args_found f (WApp u v) rest)

-- what stands between brackets: one type alone, or a tuple
abbrev pub tuple_found : {A : Type 0} → (A → Result Written NameFault) → Written → List A → Result Written NameFault
tuple_found f u [] = Ok u
tuple_found f u (a ∷ rest) =
    args_found f (WApp (special_type (sp.Tuple (suc (suc (length rest))))) u) (a ∷ rest)

-- a type to the left of others, which group to the right
abbrev pub arrows_to : List Written → Written → Written
arrows_to [] u = u
arrows_to (t ∷ ts) u = arrow_to t (arrows_to ts u)

abbrev pub arrow_chain : Written → List Written → Written
arrow_chain t [] = t
arrow_chain t (u ∷ us) = arrow_to t (arrow_chain u us)

abbrev mutual
  pub type_found : ScopeTable → Option (List Text) → TypeTree → Result Written NameFault
  type_found t h (TypeTree' a s r z bs) = arrows_found t h
      (both_found applied_to (atype_found t h a) (atypes_found t h r)) bs

  pub arrows_found : {m : _} → ScopeTable → Option (List Text) → Result Written NameFault → Row_of-BTypeTree m
      → Result Written NameFault
  arrows_found t h u end_of-BTypeTree = u
  arrows_found t h u (more_of-BTypeTree a s r bs) = both_found arrow_to u
      (arrows_found t h (both_found applied_to (atype_found t h a) (atypes_found t h r)) bs)

  pub atype_found : ScopeTable → Option (List Text) → ATypeTree → Result Written NameFault
  atype_found t h (Con x) = next (meaning_found t Types x) (λ n. Ok (WCon n))
  atype_found t h UnitType = Ok (special_type sp.Unit)
  atype_found t h ListCon = Ok (special_type sp.List)
  atype_found t h ArrowCon = Ok (special_type sp.Arrow)
  atype_found t h (TupleCon commas) = Ok (special_type (sp.Tuple (suc commas)))
  atype_found t h (Var a) = next (variable_found h a) (λ x. Ok (WVar x))
  atype_found t h (Parts' s (more_of-TypeTree x end_of-TypeTree) z xs) =
      both_found (λ u us. bracketed_types u us (parts_count us)) (type_found t h x) (types_found t h xs)
  atype_found t h (ListType' s (more_of-TypeTree x end_of-TypeTree)) =
      next (type_found t h x) (λ u. Ok (WApp (special_type sp.List) u))

  pub types_found : {m : _} → ScopeTable → Option (List Text) → Row_of-TypeTree m → Result (List Written) NameFault
  types_found t h end_of-TypeTree = Ok []
  types_found t h (more_of-TypeTree x xs) = next (type_found t h x) (λ u. together (u ∷ []) (types_found t h xs))

  pub atypes_found : {m : _} → ScopeTable → Option (List Text) → Row_of-ATypeTree m → Result (List Written) NameFault
  atypes_found t h end_of-ATypeTree = Ok []
  atypes_found t h (more_of-ATypeTree x xs) = next (atype_found t h x) (λ u. together (u ∷ []) (atypes_found t h xs))

-- arguments stand behind the first
abbrev pub btype_found : ScopeTable → Option (List Text) → BTypeTree → Result Written NameFault
btype_found t h x = next (atype_found t h x.first) (λ u. args_found (atype_found t h) u x.rest)
