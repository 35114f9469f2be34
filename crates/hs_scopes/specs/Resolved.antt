-- From surface trees of expressions and declarations to their resolved trees (Haskell 2010 Report, chapters 3 and 4,
-- and section 5.5). There is none where a name means nothing, or a chain or a section has no reading.
use Rattle.std.specs.Prelude.{ℕ, suc, ◌-◌, Bool, true, false, List, [], ◌∷◌, ◌++◌, flat_map, map, slice_get, codes}
use Rattle.std.specs.Prelude.{Option, Some, None, if◌then◌else◌}
use Rattle.std.specs.Str.{bytes_eq}
use Rattle.bp_base.specs.Texts.{Text}
use Rattle.bp_base.specs.Entities.{default_fixity}
use Rattle.bp_base.specs.Specials.{base_prelude}
use Rattle.bp_base.specs.declared.ty.Space.TheVariants.{Values}
use Rattle.bp_base.specs.declared.ty.OrigName.{OrigName}
use Rattle.bp_base.specs.declared.entity.Fixity.{Fixity}
use Rattle.bp_base.specs.declared.entity.Assoc.{Assoc}
use Rattle.bp_base.specs.declared.entity.Assoc.TheVariants as a
use Rattle.hs_trees.specs.declared.patterns.LiteralTree.{LiteralTree}
use Rattle.hs_trees.specs.declared.patterns.LiteralTree.TheVariants as l
use Rattle.hs_trees.specs.declared.patterns.APatTree.{APatTree}
use Rattle.hs_modules.specs.declared.declarations.Fixity.{Fixity as FixityWord}
use Rattle.hs_modules.specs.declared.declarations.Fixity.TheVariants as fw
use Rattle.hs_modules.specs.declared.names.QVarTree.{QVarTree}
use Rattle.hs_modules.specs.declared.names.QVarTree.TheVariants as q
use Rattle.hs_modules.specs.declared.names.QOpTree.{QOpTree}
use Rattle.hs_modules.specs.declared.names.QOpTree.TheVariants as p
use Rattle.hs_modules.specs.declared.expressions.FunLhsTree.{FunLhsTree}
use Rattle.hs_modules.specs.declared.expressions.FunLhsTree.TheVariants as f
use Rattle.hs_modules.specs.declared.expressions.FunLhsTree.TheBlock.{end_of-FunLhsTree, more_of-FunLhsTree}
use Rattle.hs_modules.specs.declared.expressions.AExpTree.{AExpTree}
use Rattle.hs_modules.specs.declared.expressions.AExpTree.TheVariants.{Var, Con, Literal, Parts', List' as ListExp'}
use Rattle.hs_modules.specs.declared.expressions.AExpTree.TheVariants.{LeftSection', RightSection'}
use Rattle.hs_modules.specs.declared.expressions.AltBody.{AltBody}
use Rattle.hs_modules.specs.declared.expressions.AltBody.TheVariants.{Arrow, GuardedArrows'}
use Rattle.hs_modules.specs.declared.expressions.AltSlot.TheVariants.{NoAlt, Alt'}
use Rattle.hs_modules.specs.declared.expressions.DeclSlot.TheVariants.{NoDecl, Decl as Declared}
use Rattle.hs_modules.specs.declared.expressions.DeclTree.{DeclTree}
use Rattle.hs_modules.specs.declared.expressions.DeclTree.TheVariants.{Signature, Fixity as FixityDecl, Function'}
use Rattle.hs_modules.specs.declared.expressions.DeclTree.TheVariants.{Pattern'}
use Rattle.hs_modules.specs.declared.expressions.ExpTree.{ExpTree}
use Rattle.hs_modules.specs.declared.expressions.ExpTree.TheVariants.{Infix, Annotated}
use Rattle.hs_modules.specs.declared.expressions.GuardTree.{GuardTree}
use Rattle.hs_modules.specs.declared.expressions.GuardTree.TheVariants as gt
use Rattle.hs_modules.specs.declared.expressions.Locals.{Locals}
use Rattle.hs_modules.specs.declared.expressions.Locals.TheVariants.{Absent, Where'}
use Rattle.hs_modules.specs.declared.expressions.OperandTree.{OperandTree}
use Rattle.hs_modules.specs.declared.expressions.OperandTree.TheVariants.{Lambda', Let', If', Case', Apply'}
use Rattle.hs_modules.specs.declared.expressions.RhsBody.{RhsBody}
use Rattle.hs_modules.specs.declared.expressions.RhsBody.TheVariants.{Equals, GuardedEquals'}
use Rattle.hs_modules.specs.declared.expressions.InfixTree.{InfixTree, InfixTree'}
use Rattle.hs_modules.specs.declared.expressions.AExpTree.TheBlock.{Row_of-ExpTree, end_of-ExpTree, more_of-ExpTree}
use Rattle.hs_modules.specs.declared.expressions.AExpTree.TheBlock.{end_of-InfixTree, more_of-InfixTree}
use Rattle.hs_modules.specs.declared.expressions.AExpTree.TheBlock.{Row_of-GuardTree, end_of-GuardTree}
use Rattle.hs_modules.specs.declared.expressions.AExpTree.TheBlock.{more_of-GuardTree, Row_of-GdaTree, end_of-GdaTree}
use Rattle.hs_modules.specs.declared.expressions.AExpTree.TheBlock.{more_of-GdaTree, Row_of-DeclSlot, end_of-DeclSlot}
use Rattle.hs_modules.specs.declared.expressions.AExpTree.TheBlock.{more_of-DeclSlot, Row_of-AltSlot, end_of-AltSlot}
use Rattle.hs_modules.specs.declared.expressions.AExpTree.TheBlock.{more_of-AltSlot, Row_of-AExpTree, end_of-AExpTree}
use Rattle.hs_modules.specs.declared.expressions.AExpTree.TheBlock.{more_of-AExpTree, Row_of-GdTree, end_of-GdTree}
use Rattle.hs_modules.specs.declared.expressions.AExpTree.TheBlock.{more_of-GdTree, Row_of-OpOperand, end_of-OpOperand}
use Rattle.hs_modules.specs.declared.expressions.AExpTree.TheBlock.{more_of-OpOperand}
use Rattle.hs_core.specs.declared.tree.Written.{Written}
use Rattle.hs_core.specs.declared.tree.Pat.{Pat}
use Rattle.hs_core.specs.declared.tree.Pat.TheVariants.{PVar}
use Rattle.hs_core.specs.declared.tree.Exp.{Exp}
use Rattle.hs_core.specs.declared.tree.Exp.TheVariants as e
use Rattle.hs_core.specs.declared.tree.Decl.{Decl}
use Rattle.hs_core.specs.declared.tree.Decl.TheVariants as d
use Rattle.hs_core.specs.declared.tree.Decl.TheViews.{roll-Rhs, roll-Alt}
use Rattle.hs_core.specs.declared.tree.Guard.{Guard}
use Rattle.hs_core.specs.declared.tree.Guard.TheVariants.{Test, Bind}
use Rattle.hs_core.specs.declared.tree.Choice.{Choice}
use Rattle.hs_core.specs.declared.tree.Rhs.{Rhs}
use Rattle.hs_core.specs.declared.tree.Alt.{Alt}
use Rattle.hs_scopes.specs.declared.scope.ScopeItem.{ScopeItem}
use Rattle.hs_scopes.specs.Words.{plain, word_of, var_name, varop_name, op_name}
use Rattle.hs_scopes.specs.Meanings.{meaning, item_of, fixity_of_item}
use Rattle.hs_scopes.specs.Chains.{Piece, Tree, reading, left_section, right_section}
use Rattle.hs_scopes.specs.Types.{resolved_type}
use Rattle.hs_scopes.specs.Patterns.{Literals, con_meant, conop_meant, conop_fixity, resolved_pat, resolved_lpat}
use Rattle.hs_scopes.specs.Patterns.{resolved_apat, pat_vars, lpat_vars, apat_vars}
use Rattle.hs_scopes.specs.Some.{if_some, if_both, if_then, if_all}

-- a local, and the fixity that its group declares for it
pub record Binder : Type 0 where
  pub name : Text
  pub fixity : Fixity

-- what a tree sees: what literals stand for, what is in scope, and the locals around, the nearest first
pub record Env : Type 0 where
  pub literals : Literals
  pub items : List ScopeItem
  pub locals : List Binder

abbrev pub binder_of : List Binder → Text → Option Binder
binder_of [] x = None
binder_of (b ∷ bs) x = if bytes_eq b.name x then Some b else binder_of bs x

-- ---- names: a local hides an unqualified name

abbrev pub value_by : Option Binder → Text → Option OrigName → Option Exp
value_by (Some b) x n = Some (e.Local x)
value_by None x n = if_some (λ m. e.Global m) n

abbrev pub plain_value : Env → Text → Option Exp
plain_value env x = value_by (binder_of env.locals x) x (meaning env.items Values (plain x))

abbrev pub qualified_value : Env → Text → Option Exp
qualified_value env x = if_some (λ m. e.Global m) (meaning env.items Values (word_of x))

abbrev pub value_meant : Env → QVarTree → Option Exp
value_meant env (q.Id x) = plain_value env x
value_meant env (q.Sym x) = plain_value env x
value_meant env (q.QualifiedId x) = qualified_value env x
value_meant env (q.QualifiedSym x) = qualified_value env x

abbrev pub op_meant : Env → QOpTree → Option Exp
op_meant env (p.Sym x) = plain_value env x
op_meant env (p.Quoted x) = plain_value env x
op_meant env (p.QualifiedSym x) = qualified_value env x
op_meant env (p.QualifiedQuoted x) = qualified_value env x
op_meant env (p.Con x) = if_some (λ m. e.Global m) (conop_meant env.items x)

abbrev pub fixity_by : Option Binder → Fixity → Fixity
fixity_by (Some b) f = b.fixity
fixity_by None f = f

abbrev pub plain_fixity : Env → Text → Fixity
plain_fixity env x = fixity_by (binder_of env.locals x) (fixity_of_item (item_of env.items Values (plain x)))

abbrev pub qualified_fixity : Env → Text → Fixity
qualified_fixity env x = fixity_of_item (item_of env.items Values (word_of x))

abbrev pub op_fixity : Env → QOpTree → Fixity
op_fixity env (p.Sym x) = plain_fixity env x
op_fixity env (p.Quoted x) = plain_fixity env x
op_fixity env (p.QualifiedSym x) = qualified_fixity env x
op_fixity env (p.QualifiedQuoted x) = qualified_fixity env x
op_fixity env (p.Con x) = conop_fixity env.items x

-- ---- chains

-- `-e` is `negate e` of `base`, whatever is in scope
abbrev pub negation : Exp
negation = e.Global (record { at = base_prelude; space = Values; occ = codes "negate" })

-- what a reading makes of its operands and operators
abbrev pub built : List Exp → List Exp → Tree → Option Exp
built es os (Tree.operand i) = slice_get es i
built es os (Tree.negate t) = if_some (λ x. e.Apply negation (x ∷ [])) (built es os t)
built es os (Tree.apply o l r) = if_then (slice_get os o.index)
    (λ op. if_both (λ x y. e.Apply op (x ∷ y ∷ [])) (built es os l) (built es os r))

abbrev pub signed : Bool → ℕ → List Piece
signed true i = Piece.Minus ∷ Piece.Operand i ∷ []
signed false i = Piece.Operand i ∷ []

-- operators with the operands behind them; the first operator has this number, and the operand behind it the next
abbrev pub links : {m : _} → Env → ℕ → Row_of-OpOperand m → List Piece
links env i end_of-OpOperand = []
links env i (more_of-OpOperand op negated x r) = Piece.Operator' (record { index = i; fixity = op_fixity env op }) ∷
    (signed negated (suc i) ++ links env (suc i) r)

abbrev pub ops : {m : _} → Env → Row_of-OpOperand m → Option (List Exp)
ops env end_of-OpOperand = Some []
ops env (more_of-OpOperand op negated x r) = if_both (λ o os. o ∷ os) (op_meant env op) (ops env r)

-- a chain as pieces, with its operands and operators
pub record Chain : Type 0 where
  pub pieces : List Piece
  pub operands : Option (List Exp)
  pub operators : Option (List Exp)

abbrev pub built_by : Chain → Option Tree → Option Exp
built_by c t = if_then t (λ x. if_then c.operands (λ es. if_then c.operators (λ os. built es os x)))

abbrev pub read_chain : Chain → Option Exp
read_chain c = built_by c (reading c.pieces)

abbrev pub read_left : Chain → Fixity → Option Exp
read_left c g = built_by c (left_section c.pieces g)

abbrev pub read_right : Fixity → Chain → Option Exp
read_right g c = built_by c (right_section g c.pieces)

-- ---- local groups

abbrev pub assoc_of : FixityWord → Assoc
assoc_of fw.Left = a.Left
assoc_of fw.Right = a.Right
assoc_of fw.Neither = a.Neither

-- the digit, which is 9 where none is written
abbrev pub level_of : Option Text → ℕ
level_of None = 9
level_of (Some []) = 9
level_of (Some (b ∷ bs)) = b - 48

-- a name with the fixity that a declaration gives it
abbrev pub fixities_of : DeclTree → List Binder
fixities_of (Signature x xs t) = []
fixities_of (FixityDecl w digit o os) = map (λ x. record {
  name = op_name x;
  fixity =
      record { assoc = assoc_of w; level = level_of digit };
}) (o ∷ os)
fixities_of (Function' lhs b ls) = []
fixities_of (Pattern' x b ls) = []

abbrev pub lhs_name : FunLhsTree → Text
lhs_name (f.Prefix x first rest) = var_name x
lhs_name (f.Infix left op right) = varop_name op
lhs_name (f.Parens' s (more_of-FunLhsTree x end_of-FunLhsTree) first rest) = lhs_name x

abbrev pub lhs_vars : FunLhsTree → List Text
lhs_vars (f.Prefix x first rest) = flat_map apat_vars (first ∷ rest)
lhs_vars (f.Infix left op right) = lpat_vars left ++ lpat_vars right
lhs_vars (f.Parens' s (more_of-FunLhsTree x end_of-FunLhsTree) first rest) =
    lhs_vars x ++ flat_map apat_vars (first ∷ rest)

abbrev pub names_bound : DeclTree → List Text
names_bound (Signature x xs t) = []
names_bound (FixityDecl w digit o os) = []
names_bound (Function' lhs b ls) = lhs_name lhs ∷ []
names_bound (Pattern' x b ls) = pat_vars x

abbrev pub row_fixities : {m : _} → Row_of-DeclSlot m → List Binder
row_fixities end_of-DeclSlot = []
row_fixities (more_of-DeclSlot NoDecl r) = row_fixities r
row_fixities (more_of-DeclSlot (Declared d) r) = fixities_of d ++ row_fixities r

abbrev pub row_bound : {m : _} → Row_of-DeclSlot m → List Text
row_bound end_of-DeclSlot = []
row_bound (more_of-DeclSlot NoDecl r) = row_bound r
row_bound (more_of-DeclSlot (Declared d) r) = names_bound d ++ row_bound r

-- a name with its declared fixity, or `infixl 9`
abbrev pub bound_with : List Binder → Text → Binder
bound_with fs x = record { name = x; fixity = fixity_by (binder_of fs x) default_fixity }

-- a group with its block's first place and the others
abbrev pub group_binders : {m : _} → {k : _} → Row_of-DeclSlot m → Row_of-DeclSlot k → List Binder
group_binders first rest = map (bound_with (row_fixities first ++ row_fixities rest))
    (row_bound first ++ row_bound rest)

abbrev pub inside : Env → List Binder → Env
inside env bs = record { literals = env.literals; items = env.items; locals = bs ++ env.locals }

-- variables of patterns have the default fixity
abbrev pub under : Env → List Text → Env
under env xs = inside env (map (bound_with []) xs)

-- ---- patterns of clauses

abbrev pub apats_resolved : Env → List APatTree → Option (List Pat)
apats_resolved env ps = if_all (resolved_apat env.literals env.items) ps

abbrev pub lhs_pats : Env → FunLhsTree → Option (List Pat)
lhs_pats env (f.Prefix x first rest) = apats_resolved env (first ∷ rest)
lhs_pats env (f.Infix left op right) = if_both (λ u v. u ∷ v ∷ []) (resolved_lpat env.literals env.items left)
    (resolved_lpat env.literals env.items right)
lhs_pats env (f.Parens' s (more_of-FunLhsTree x end_of-FunLhsTree) first rest) =
    if_both (λ us vs. us ++ vs) (lhs_pats env x) (apats_resolved env (first ∷ rest))

-- A binding whose pattern is a variable alone, once brackets are gone, is a clause without patterns.
abbrev pub bound_by : Pat → Rhs → Decl
bound_by (PVar x) r = d.Clause x [] r
bound_by other r = d.PatBind other r

abbrev pub literal_exp : Literals → LiteralTree → Exp
literal_exp ls (l.Integer text) = e.Int (ls.integer text)
literal_exp ls (l.Char text) = e.Chr (ls.character text)
literal_exp ls (l.Text text) = e.Str (ls.string text)

abbrev pub applied : Exp → List Exp → Exp
applied x [] = x
applied x (y ∷ ys) = e.Apply x (y ∷ ys)

abbrev pub bracketed_exps : Exp → List Exp → Exp
bracketed_exps x [] = x
bracketed_exps x (y ∷ ys) = e.Tuple (x ∷ y ∷ ys)

abbrev pub rhs_of : List Choice → List Decl → Rhs
rhs_of cs ds = roll-Rhs (record { choices = cs; local = ds })

abbrev pub alt_of : Pat → Rhs → Alt
alt_of x r = roll-Alt (record { pat = x; rhs = r })

abbrev pub choice_of : List Guard → Exp → Choice
choice_of gs x = record { guards = gs; exp = x }

abbrev pub signatures_of : List Text → Written → List Decl
signatures_of xs t = map (λ x. d.TypeSig x t) xs

-- the variables that guards bind, the nearest first
abbrev pub guard_vars : GuardTree → List Text
guard_vars (gt.Bind x c) = pat_vars x
guard_vars (gt.Test c) = []

abbrev pub behind : {m : _} → Env → Row_of-GuardTree m → Env
behind env end_of-GuardTree = env
behind env (more_of-GuardTree g r) = behind (under env (guard_vars g)) r

-- what a `where` binds around it
abbrev pub where_binders : Locals → List Binder
where_binders Absent = []
where_binders (Where' s first z rest) = group_binders first rest

abbrev mutual
  pub resolved_exp : Env → ExpTree → Option Exp
  resolved_exp env (Infix c) = read_chain (chain_of env c)
  resolved_exp env (Annotated c t) = if_both (λ x u. e.Annot x u) (read_chain (chain_of env c))
      (resolved_type env.items t)

  pub chain_of : Env → InfixTree → Chain
  chain_of env (InfixTree' negated first s r) = record {
    pieces = signed negated 0 ++ links env 0 r;
    operands = if_both (λ x xs. x ∷ xs) (resolved_operand env first) (link_operands env r);
    operators = ops env r;
  }

  pub link_operands : {m : _} → Env → Row_of-OpOperand m → Option (List Exp)
  link_operands env end_of-OpOperand = Some []
  link_operands env (more_of-OpOperand op negated x r) =
      if_both (λ y ys. y ∷ ys) (resolved_operand env x) (link_operands env r)

  pub resolved_operand : Env → OperandTree → Option Exp
  resolved_operand env (Lambda' first rest s (more_of-ExpTree b end_of-ExpTree)) =
      if_both (λ ps x. e.Lambda ps x) (apats_resolved env (first ∷ rest))
      (resolved_exp (under env (flat_map apat_vars (first ∷ rest))) b)
  resolved_operand env (Let' s first z rest y (more_of-ExpTree b end_of-ExpTree)) =
      let all = inside env (group_binders first rest) in
      if_both (λ ds x. e.Let ds x) (if_both (λ c ds. c ++ ds) (resolved_slots all first) (resolved_slots all rest))
      (resolved_exp all b)
  resolved_operand env (If' s (more_of-ExpTree a end_of-ExpTree) z (more_of-ExpTree b end_of-ExpTree) y
      (more_of-ExpTree c end_of-ExpTree)) =
      if_then (resolved_exp env a) (λ t. if_both (λ u v. e.If t u v) (resolved_exp env b) (resolved_exp env c))
  resolved_operand env (Case' s (more_of-ExpTree x end_of-ExpTree) z first y rest) =
      if_both (λ c as'. e.Case c as') (resolved_exp env x)
      (if_both (λ bs cs. bs ++ cs) (resolved_alts env first) (resolved_alts env rest))
  resolved_operand env (Apply' x s r) = if_both applied (resolved_aexp env x) (resolved_aexps env r)

  pub resolved_aexp : Env → AExpTree → Option Exp
  resolved_aexp env (Var x) = value_meant env x
  resolved_aexp env (Con x) = if_some (λ n. e.Global n) (con_meant env.items x)
  resolved_aexp env (Literal x) = Some (literal_exp env.literals x)
  resolved_aexp env (Parts' s (more_of-ExpTree x end_of-ExpTree) z xs) =
      if_both bracketed_exps (resolved_exp env x) (resolved_exps env xs)
  resolved_aexp env (ListExp' s (more_of-ExpTree x end_of-ExpTree) z xs) =
      if_both (λ y ys. e.List (y ∷ ys)) (resolved_exp env x) (resolved_exps env xs)
  resolved_aexp env (LeftSection' s (more_of-InfixTree c end_of-InfixTree) op) =
      if_both (λ o x. e.Apply o (x ∷ [])) (op_meant env op) (read_left (chain_of env c) (op_fixity env op))
  resolved_aexp env (RightSection' op s (more_of-InfixTree c end_of-InfixTree)) =
      if_both (λ o x. e.RightSection o x) (op_meant env op) (read_right (op_fixity env op) (chain_of env c))

  pub resolved_exps : {m : _} → Env → Row_of-ExpTree m → Option (List Exp)
  resolved_exps env end_of-ExpTree = Some []
  resolved_exps env (more_of-ExpTree x r) = if_both (λ y ys. y ∷ ys) (resolved_exp env x) (resolved_exps env r)

  pub resolved_aexps : {m : _} → Env → Row_of-AExpTree m → Option (List Exp)
  resolved_aexps env end_of-AExpTree = Some []
  resolved_aexps env (more_of-AExpTree x r) = if_both (λ y ys. y ∷ ys) (resolved_aexp env x) (resolved_aexps env r)

  pub resolved_alts : {m : _} → Env → Row_of-AltSlot m → Option (List Alt)
  resolved_alts env end_of-AltSlot = Some []
  resolved_alts env (more_of-AltSlot NoAlt r) = resolved_alts env r
  resolved_alts env (more_of-AltSlot (Alt' x b ls) r) =
      let all = inside (under env (pat_vars x)) (where_binders ls) in
      if_both (λ y ys. y ∷ ys)
      (if_both alt_of (resolved_pat env.literals env.items x)
      (if_both rhs_of (resolved_arrows all b) (resolved_locals all ls)))
      (resolved_alts env r)

  pub resolved_arrows : Env → AltBody → Option (List Choice)
  resolved_arrows env (Arrow x) = if_some (λ y. choice_of [] y ∷ []) (resolved_exp env x)
  resolved_arrows env (GuardedArrows' g s gs x z r) =
      let first = under env (guard_vars g) in
      if_both (λ c cs. c ∷ cs) (if_both choice_of (if_both (λ h hs. h ∷ hs) (resolved_guard env g)
      (resolved_guards first gs)) (resolved_exp (behind first gs) x))
      (resolved_gdas env r)

  pub resolved_gdas : {m : _} → Env → Row_of-GdaTree m → Option (List Choice)
  resolved_gdas env end_of-GdaTree = Some []
  resolved_gdas env (more_of-GdaTree g s gs x r) =
      let first = under env (guard_vars g) in
      if_both (λ c cs. c ∷ cs) (if_both choice_of (if_both (λ h hs. h ∷ hs) (resolved_guard env g)
      (resolved_guards first gs)) (resolved_exp (behind first gs) x))
      (resolved_gdas env r)

  pub resolved_guard : Env → GuardTree → Option Guard
  resolved_guard env (gt.Test c) = if_some (λ x. Test x) (read_chain (chain_of env c))
  resolved_guard env (gt.Bind x c) = if_both (λ q y. Bind q y) (resolved_pat env.literals env.items x)
      (read_chain (chain_of env c))

  -- a guard binds in the guards behind it
  pub resolved_guards : {m : _} → Env → Row_of-GuardTree m → Option (List Guard)
  resolved_guards env end_of-GuardTree = Some []
  resolved_guards env (more_of-GuardTree g r) = if_both (λ h hs. h ∷ hs) (resolved_guard env g)
      (resolved_guards (under env (guard_vars g)) r)

  pub resolved_body : Env → RhsBody → Option (List Choice)
  resolved_body env (Equals x) = if_some (λ y. choice_of [] y ∷ []) (resolved_exp env x)
  resolved_body env (GuardedEquals' g s gs x z r) =
      let first = under env (guard_vars g) in
      if_both (λ c cs. c ∷ cs) (if_both choice_of (if_both (λ h hs. h ∷ hs) (resolved_guard env g)
      (resolved_guards first gs)) (resolved_exp (behind first gs) x))
      (resolved_gds env r)

  pub resolved_gds : {m : _} → Env → Row_of-GdTree m → Option (List Choice)
  resolved_gds env end_of-GdTree = Some []
  resolved_gds env (more_of-GdTree g s gs x r) =
      let first = under env (guard_vars g) in
      if_both (λ c cs. c ∷ cs) (if_both choice_of (if_both (λ h hs. h ∷ hs) (resolved_guard env g)
      (resolved_guards first gs)) (resolved_exp (behind first gs) x))
      (resolved_gds env r)

  -- the declarations of a `where`, under what it binds
  pub resolved_locals : Env → Locals → Option (List Decl)
  resolved_locals env Absent = Some []
  resolved_locals env (Where' s first z rest) = if_both (λ c ds. c ++ ds) (resolved_slots env first)
      (resolved_slots env rest)

  pub resolved_slots : {m : _} → Env → Row_of-DeclSlot m → Option (List Decl)
  resolved_slots env end_of-DeclSlot = Some []
  resolved_slots env (more_of-DeclSlot NoDecl r) = resolved_slots env r
  resolved_slots env (more_of-DeclSlot (Declared x) r) =
      if_both (λ c ds. c ++ ds) (resolved_decl env x) (resolved_slots env r)

  -- `x, y :: t` is one type signature for each name; local fixity declarations vanish
  pub resolved_decl : Env → DeclTree → Option (List Decl)
  resolved_decl env (Signature x xs t) = if_some (signatures_of (map var_name (x ∷ xs))) (resolved_type env.items t)
  resolved_decl env (FixityDecl w digit o os) = Some []
  resolved_decl env (Function' lhs b ls) =
      let all = inside (under env (lhs_vars lhs)) (where_binders ls) in
      if_both (λ ps r. d.Clause (lhs_name lhs) ps r ∷ []) (lhs_pats env lhs)
      (if_both rhs_of (resolved_body all b) (resolved_locals all ls))
  resolved_decl env (Pattern' x b ls) =
      let all = inside env (where_binders ls) in
      if_both (λ q r. bound_by q r ∷ []) (resolved_pat env.literals env.items x)
      (if_both rhs_of (resolved_body all b) (resolved_locals all ls))
