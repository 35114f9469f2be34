-- Patterns with their names known (Haskell 2010 Report, section 3.17), and what they bind.
use Rattle.std.specs.Prelude.{ℕ, suc, true, false, List, [], ◌∷◌, ◌++◌, slice_get, Option, Some, None}
use Rattle.bp_base.specs.Texts.{Text}
use Rattle.bp_base.specs.Specials.{special_name}
use Rattle.bp_base.specs.declared.special.Special.TheVariants as s
use Rattle.bp_base.specs.declared.ty.Space.TheVariants.{Values}
use Rattle.bp_base.specs.declared.ty.OrigName.{OrigName}
use Rattle.bp_base.specs.declared.entity.Fixity.{Fixity}
use Rattle.bp_base.specs.declared.entity.Assoc.TheVariants as a
use Rattle.hs_trees.specs.declared.patterns.LiteralTree.{LiteralTree}
use Rattle.hs_trees.specs.declared.patterns.LiteralTree.TheVariants as l
use Rattle.hs_trees.specs.declared.patterns.GConTree.{GConTree}
use Rattle.hs_trees.specs.declared.patterns.GConTree.TheVariants as g
use Rattle.hs_trees.specs.declared.patterns.QConOpTree.{QConOpTree}
use Rattle.hs_trees.specs.declared.patterns.QConOpTree.TheVariants as o
use Rattle.hs_trees.specs.declared.patterns.APatTree.{APatTree}
use Rattle.hs_trees.specs.declared.patterns.APatTree.TheVariants.{Var, As', Wild, Con, Literal, Parts'}
use Rattle.hs_trees.specs.declared.patterns.APatTree.TheVariants.{List' as ListPat', Lazy'}
use Rattle.hs_trees.specs.declared.patterns.LPatTree.{LPatTree}
use Rattle.hs_trees.specs.declared.patterns.LPatTree.TheVariants.{Negative, Apply', APat}
use Rattle.hs_trees.specs.declared.patterns.PatTree.{PatTree, PatTree'}
use Rattle.hs_trees.specs.declared.patterns.APatTree.TheBlock.{Row_of-APatTree, end_of-APatTree, more_of-APatTree}
use Rattle.hs_trees.specs.declared.patterns.APatTree.TheBlock.{Row_of-PatTree, end_of-PatTree, more_of-PatTree}
use Rattle.hs_trees.specs.declared.patterns.APatTree.TheBlock.{Row_of-OpLPat, end_of-OpLPat, more_of-OpLPat}
use Rattle.hs_core.specs.declared.tree.Pat.{Pat}
use Rattle.hs_core.specs.declared.tree.Pat.TheVariants.{PVar, PWild, PInt, PChr, PStr, PCon, PTuple, PList, PAs, PLazy}
use Rattle.hs_scopes.specs.declared.scope.ScopeItem.{ScopeItem}
use Rattle.hs_scopes.specs.Words.{word_of, var_name}
use Rattle.hs_scopes.specs.Meanings.{meaning, item_of, fixity_of_item}
use Rattle.hs_scopes.specs.Chains.{Piece, Tree, reading}
use Rattle.hs_scopes.specs.Some.{if_some, if_both, if_then}

-- what literals stand for
pub record Literals : Type 0 where
  pub integer : Text → ℕ
  pub character : Text → ℕ
  pub string : Text → List ℕ

-- ---- constructors

abbrev pub con_meant : List ScopeItem → GConTree → Option OrigName
con_meant is g.Unit = Some (special_name Values s.Unit)
con_meant is g.List = Some (special_name Values s.List)
con_meant is (g.Tuple commas) = Some (special_name Values (s.Tuple (suc commas)))
con_meant is (g.Con name) = meaning is Values (word_of name)
con_meant is (g.Sym name) = meaning is Values (word_of name)
con_meant is g.Colon = Some (special_name Values s.Cons)

abbrev pub conop_meant : List ScopeItem → QConOpTree → Option OrigName
conop_meant is (o.Sym name) = meaning is Values (word_of name)
conop_meant is o.Colon = Some (special_name Values s.Cons)
conop_meant is (o.Quoted name) = meaning is Values (word_of name)

-- `infixr 5 :`
abbrev pub cons_fixity : Fixity
cons_fixity = record { assoc = a.Right; level = 5 }

abbrev pub conop_fixity : List ScopeItem → QConOpTree → Fixity
conop_fixity is (o.Sym name) = fixity_of_item (item_of is Values (word_of name))
conop_fixity is o.Colon = cons_fixity
conop_fixity is (o.Quoted name) = fixity_of_item (item_of is Values (word_of name))

-- ---- what a chain of patterns makes

abbrev pub infix_pat : Pat → Pat → OrigName → Pat
infix_pat p q n = PCon n (p ∷ q ∷ [])

abbrev pub built_pat : List Pat → List OrigName → Tree → Option Pat
built_pat ps ns (Tree.operand i) = slice_get ps i
built_pat ps ns (Tree.negate t) = None
built_pat ps ns (Tree.apply o l r) = if_then (slice_get ns o.index)
    (λ n. if_both (λ p q. infix_pat p q n) (built_pat ps ns l) (built_pat ps ns r))

-- operators with the operands behind them; the first operator has this number, and the operand behind it the next
abbrev pub pat_links : {m : _} → List ScopeItem → ℕ → Row_of-OpLPat m → List Piece
pat_links is i end_of-OpLPat = []
pat_links is i (more_of-OpLPat op p r) = Piece.Operator' (record { index = i; fixity = conop_fixity is op })
    ∷ Piece.Operand (suc i) ∷ pat_links is (suc i) r

abbrev pub pat_ops : {m : _} → List ScopeItem → Row_of-OpLPat m → Option (List OrigName)
pat_ops is end_of-OpLPat = Some []
pat_ops is (more_of-OpLPat op p r) = if_both (λ n ns. n ∷ ns) (conop_meant is op) (pat_ops is r)

abbrev pub literal_pat : Literals → LiteralTree → Pat
literal_pat ls (l.Integer text) = PInt false (ls.integer text)
literal_pat ls (l.Char text) = PChr (ls.character text)
literal_pat ls (l.Text text) = PStr (ls.string text)

abbrev pub bracketed_pats : Pat → List Pat → Pat
bracketed_pats p [] = p
bracketed_pats p (q ∷ qs) = PTuple (p ∷ q ∷ qs)

abbrev mutual
  pub resolved_pat : Literals → List ScopeItem → PatTree → Option Pat
  resolved_pat ls is (PatTree' first s r) =
      if_then (reading (Piece.Operand 0 ∷ pat_links is 0 r)) (λ t.
      if_then (if_both (λ p ps. p ∷ ps) (resolved_lpat ls is first) (resolved_links ls is r)) (λ ps.
      if_then (pat_ops is r) (λ ns. built_pat ps ns t)))

  pub resolved_links : {m : _} → Literals → List ScopeItem → Row_of-OpLPat m → Option (List Pat)
  resolved_links ls is end_of-OpLPat = Some []
  resolved_links ls is (more_of-OpLPat op p r) = if_both (λ q qs. q ∷ qs) (resolved_lpat ls is p)
      (resolved_links ls is r)

  pub resolved_lpat : Literals → List ScopeItem → LPatTree → Option Pat
  resolved_lpat ls is (Negative text) = Some (PInt true (ls.integer text))
  resolved_lpat ls is (Apply' con first s r) = if_both (λ n ps. PCon n ps) (con_meant is con)
      (if_both (λ p ps. p ∷ ps) (resolved_apat ls is first) (resolved_apats ls is r))
  resolved_lpat ls is (APat p) = resolved_apat ls is p

  pub resolved_apat : Literals → List ScopeItem → APatTree → Option Pat
  resolved_apat ls is (Var x) = Some (PVar (var_name x))
  resolved_apat ls is (As' x s (more_of-APatTree p end_of-APatTree)) =
      if_some (λ q. PAs (var_name x) q) (resolved_apat ls is p)
  resolved_apat ls is Wild = Some PWild
  resolved_apat ls is (Con con) = if_some (λ n. PCon n []) (con_meant is con)
  resolved_apat ls is (Literal x) = Some (literal_pat ls x)
  resolved_apat ls is (Parts' s (more_of-PatTree p end_of-PatTree) z ps) =
      if_both bracketed_pats (resolved_pat ls is p) (resolved_pats ls is ps)
  resolved_apat ls is (ListPat' s (more_of-PatTree p end_of-PatTree) z ps) =
      if_both (λ q qs. PList (q ∷ qs)) (resolved_pat ls is p) (resolved_pats ls is ps)
  resolved_apat ls is (Lazy' s (more_of-APatTree p end_of-APatTree)) = if_some (λ q. PLazy q) (resolved_apat ls is p)

  pub resolved_pats : {m : _} → Literals → List ScopeItem → Row_of-PatTree m → Option (List Pat)
  resolved_pats ls is end_of-PatTree = Some []
  resolved_pats ls is (more_of-PatTree p ps) = if_both (λ q qs. q ∷ qs) (resolved_pat ls is p) (resolved_pats ls is ps)

  pub resolved_apats : {m : _} → Literals → List ScopeItem → Row_of-APatTree m → Option (List Pat)
  resolved_apats ls is end_of-APatTree = Some []
  resolved_apats ls is (more_of-APatTree p ps) = if_both (λ q qs. q ∷ qs) (resolved_apat ls is p)
      (resolved_apats ls is ps)

-- ---- the variables of a pattern as it is written, in order

abbrev mutual
  pub pat_vars : PatTree → List Text
  pat_vars (PatTree' first s r) = lpat_vars first ++ link_vars r

  pub link_vars : {m : _} → Row_of-OpLPat m → List Text
  link_vars end_of-OpLPat = []
  link_vars (more_of-OpLPat op p r) = lpat_vars p ++ link_vars r

  pub lpat_vars : LPatTree → List Text
  lpat_vars (Negative text) = []
  lpat_vars (Apply' con first s r) = apat_vars first ++ apats_vars r
  lpat_vars (APat p) = apat_vars p

  pub apat_vars : APatTree → List Text
  apat_vars (Var x) = var_name x ∷ []
  apat_vars (As' x s (more_of-APatTree p end_of-APatTree)) = var_name x ∷ apat_vars p
  apat_vars Wild = []
  apat_vars (Con con) = []
  apat_vars (Literal x) = []
  apat_vars (Parts' s (more_of-PatTree p end_of-PatTree) z ps) = pat_vars p ++ pats_vars ps
  apat_vars (ListPat' s (more_of-PatTree p end_of-PatTree) z ps) = pat_vars p ++ pats_vars ps
  apat_vars (Lazy' s (more_of-APatTree p end_of-APatTree)) = apat_vars p

  pub pats_vars : {m : _} → Row_of-PatTree m → List Text
  pats_vars end_of-PatTree = []
  pats_vars (more_of-PatTree p ps) = pat_vars p ++ pats_vars ps

  pub apats_vars : {m : _} → Row_of-APatTree m → List Text
  apats_vars end_of-APatTree = []
  apats_vars (more_of-APatTree p ps) = apat_vars p ++ apats_vars ps
