-- Written types with their names known (Haskell 2010 Report, section 4.1.2).
use Rattle.std.specs.Prelude.{ℕ, suc, List, [], ◌∷◌, Option, Some}
use Rattle.bp_base.specs.Specials.{special_name}
use Rattle.bp_base.specs.declared.special.Special.TheVariants as sp
use Rattle.bp_base.specs.declared.ty.Space.TheVariants.{Types}
use Rattle.bp_base.specs.declared.ty.OrigName.{OrigName}
use Rattle.hs_trees.specs.declared.types.TypeTree.{TypeTree, TypeTree'}
use Rattle.hs_trees.specs.declared.types.ATypeTree.{ATypeTree}
use Rattle.hs_trees.specs.declared.types.ATypeTree.TheVariants.{Con, Unit as UnitType, ListCon, ArrowCon, TupleCon, Var}
use Rattle.hs_trees.specs.declared.types.ATypeTree.TheVariants.{Parts', List' as ListType'}
use Rattle.hs_trees.specs.declared.types.ATypeTree.TheBlock.{Row_of-TypeTree, end_of-TypeTree, more_of-TypeTree}
use Rattle.hs_trees.specs.declared.types.ATypeTree.TheBlock.{Row_of-ATypeTree, end_of-ATypeTree, more_of-ATypeTree}
use Rattle.hs_trees.specs.declared.types.ATypeTree.TheBlock.{Row_of-BTypeTree, end_of-BTypeTree, more_of-BTypeTree}
use Rattle.hs_core.specs.declared.tree.Written.{Written}
use Rattle.hs_core.specs.declared.tree.Written.TheVariants.{WVar, WCon, WApp}
use Rattle.hs_scopes.specs.declared.scope.ScopeItem.{ScopeItem}
use Rattle.hs_scopes.specs.Words.{word_of}
use Rattle.hs_scopes.specs.Meanings.{meaning}
use Rattle.hs_scopes.specs.Some.{if_some, if_both}

abbrev pub written_con : OrigName → Written
written_con n = WCon n

abbrev pub arrow_to : Written → Written → Written
arrow_to t u = WApp (WApp (WCon (special_name Types sp.Arrow)) t) u

abbrev pub applied_to : Written → List Written → Written
applied_to f [] = f
applied_to f (t ∷ ts) = applied_to (WApp f t) ts

-- brackets about one type vanish; more are a tuple
abbrev pub bracketed_types : Written → List Written → ℕ → Written
bracketed_types t [] n = t
bracketed_types t (u ∷ us) n = applied_to (WCon (special_name Types (sp.Tuple n))) (t ∷ u ∷ us)

abbrev pub parts_count : {A : Type 0} → List A → ℕ
parts_count [] = 1
parts_count (x ∷ xs) = suc (parts_count xs)

abbrev mutual
  pub resolved_type : List ScopeItem → TypeTree → Option Written
  resolved_type is (TypeTree' a s r z bs) = arrows is
      (if_both applied_to (resolved_atype is a) (resolved_atypes is r)) bs

  -- `b -> b -> b` groups to the right
  pub arrows : {m : _} → List ScopeItem → Option Written → Row_of-BTypeTree m → Option Written
  arrows is t end_of-BTypeTree = t
  arrows is t (more_of-BTypeTree a s r bs) = if_both arrow_to t
      (arrows is (if_both applied_to (resolved_atype is a) (resolved_atypes is r)) bs)

  pub resolved_atype : List ScopeItem → ATypeTree → Option Written
  resolved_atype is (Con name) = if_some written_con (meaning is Types (word_of name))
  resolved_atype is UnitType = Some (WCon (special_name Types sp.Unit))
  resolved_atype is ListCon = Some (WCon (special_name Types sp.List))
  resolved_atype is ArrowCon = Some (WCon (special_name Types sp.Arrow))
  resolved_atype is (TupleCon commas) = Some (WCon (special_name Types (sp.Tuple (suc commas))))
  resolved_atype is (Var a) = Some (WVar a)
  resolved_atype is (Parts' s (more_of-TypeTree t end_of-TypeTree) z ts) =
      if_both (λ u us. bracketed_types u us (parts_count us)) (resolved_type is t) (resolved_types is ts)
  resolved_atype is (ListType' s (more_of-TypeTree t end_of-TypeTree)) =
      if_some (λ u. WApp (WCon (special_name Types sp.List)) u) (resolved_type is t)

  pub resolved_types : {m : _} → List ScopeItem → Row_of-TypeTree m → Option (List Written)
  resolved_types is end_of-TypeTree = Some []
  resolved_types is (more_of-TypeTree t ts) = if_both (λ u us. u ∷ us) (resolved_type is t) (resolved_types is ts)

  pub resolved_atypes : {m : _} → List ScopeItem → Row_of-ATypeTree m → Option (List Written)
  resolved_atypes is end_of-ATypeTree = Some []
  resolved_atypes is (more_of-ATypeTree t ts) = if_both (λ u us. u ∷ us) (resolved_atype is t) (resolved_atypes is ts)
