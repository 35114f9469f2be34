-- Small sources, and what the definitions say of them.
use Rattle.std.specs.Prelude.{◌≡◌, ℕ, ◌-◌, Bool, true, false, List, [], ◌∷◌, codes, Some, None}
use Rattle.bp_base.specs.Texts.{Text}
use Rattle.bp_base.specs.Specials.{base_prelude}
use Rattle.bp_base.specs.Entities.{default_fixity}
use Rattle.bp_base.specs.declared.ident.Ident.{Ident}
use Rattle.bp_base.specs.declared.ident.Ident.TheVariants.{Module}
use Rattle.bp_base.specs.declared.ident.Ident.TheViews.{roll-Unit}
use Rattle.bp_base.specs.declared.ty.Space.TheVariants.{Values}
use Rattle.bp_base.specs.declared.ty.Ty.TheVariants.{Var}
use Rattle.bp_base.specs.declared.entity.Assoc.{Assoc}
use Rattle.bp_base.specs.declared.entity.Assoc.TheVariants as a
use Rattle.bp_base.specs.declared.entity.Entity.{Entity}
use Rattle.bp_base.specs.declared.entity.Entity.TheVariants.{Value}
use Rattle.hs_trees.specs.declared.patterns.LiteralTree.TheVariants as l
use Rattle.hs_trees.specs.declared.patterns.VarTree.TheVariants as v
use Rattle.hs_trees.specs.declared.patterns.APatTree.{APatTree-F, roll-APatTree}
use Rattle.hs_trees.specs.declared.patterns.LPatTree.{LPatTree, LPatTree-F, roll-LPatTree}
use Rattle.hs_trees.specs.declared.patterns.PatTree.{roll-PatTree}
use Rattle.hs_modules.specs.declared.declarations.Fixity.TheVariants as fw
use Rattle.hs_modules.specs.declared.names.QVarTree.TheVariants as q
use Rattle.hs_modules.specs.declared.names.QOpTree.TheVariants as p
use Rattle.hs_modules.specs.declared.names.OpTree.TheVariants as o
use Rattle.hs_modules.specs.declared.names.VarOpTree.TheVariants as vo
use Rattle.hs_modules.specs.declared.expressions.FunLhsTree.{roll-FunLhsTree, FunLhsTree-F}
use Rattle.hs_modules.specs.declared.expressions.AExpTree.{AExpTree, AExpTree-F, roll-AExpTree}
use Rattle.hs_modules.specs.declared.expressions.DeclBlock.{roll-DeclBlock}
use Rattle.hs_modules.specs.declared.expressions.DeclSlot.{DeclSlot-F, roll-DeclSlot}
use Rattle.hs_modules.specs.declared.expressions.DeclTree.{DeclTree-F, roll-DeclTree}
use Rattle.hs_modules.specs.declared.expressions.ExpTree.{ExpTree, ExpTree-F, roll-ExpTree}
use Rattle.hs_modules.specs.declared.expressions.InfixTree.{InfixTree, roll-InfixTree}
use Rattle.hs_modules.specs.declared.expressions.LambdaTree.{roll-LambdaTree}
use Rattle.hs_modules.specs.declared.expressions.Locals.{Locals, Locals-F, roll-Locals}
use Rattle.hs_modules.specs.declared.expressions.OpOperand.{OpOperand, roll-OpOperand}
use Rattle.hs_modules.specs.declared.expressions.OperandTree.{OperandTree, OperandTree-F, roll-OperandTree}
use Rattle.hs_modules.specs.declared.expressions.RhsBody.{RhsBody-F, roll-RhsBody}
use Rattle.hs_modules.specs.declared.expressions.RhsTree.{RhsTree, roll-RhsTree}
use Rattle.hs_modules.specs.declared.expressions.SignedOperand.{SignedOperand, roll-SignedOperand}
use Rattle.hs_core.specs.declared.tree.Pat.TheVariants.{PVar}
use Rattle.hs_core.specs.declared.tree.Exp.{Exp}
use Rattle.hs_core.specs.declared.tree.Exp.TheVariants as e
use Rattle.hs_core.specs.declared.tree.Decl.{Decl}
use Rattle.hs_core.specs.declared.tree.Decl.TheVariants as d
use Rattle.hs_core.specs.declared.tree.Decl.TheViews.{roll-Rhs}
use Rattle.hs_core.specs.declared.tree.Rhs.{Rhs}
use Rattle.hs_scopes.specs.declared.scope.ScopeItem.{ScopeItem}
use Rattle.hs_scopes.specs.Meanings.{name_meant}
use Rattle.hs_scopes.specs.Patterns.{Literals}
use Rattle.hs_scopes.specs.Resolved.{Env, resolved_exp, resolved_decl, negation}
use Rattle.hs_scopes.specs.declared.scope.MeaningFault.TheVariants.{NotInScope, AmbiguousName}

-- ---- names and entities

abbrev pub base_value : Text → Assoc → ℕ → Entity
base_value x assoc level = Value (record { at = base_prelude; space = Values; occ = x })
    (record { vars = 0; body = Var 0 }) (record { assoc = assoc; level = level })

abbrev pub base_global : Text → Exp
base_global x = e.Global (record { at = base_prelude; space = Values; occ = x })

abbrev pub plainly : Text → Entity → ScopeItem
plainly x y = record { qualifier = []; occ = x; entity = y; con = [] }

-- `infixl 6 +`, `infixl 6 -`, `infixl 7 *`, `infix 4 ==`, `infixr 5 ++`
abbrev pub operators : List ScopeItem
operators = plainly (codes "+") (base_value (codes "+") a.Left 6) ∷ plainly (codes "-")
    (base_value (codes "-") a.Left 6) ∷ plainly (codes "*") (base_value (codes "*") a.Left 7)
    ∷ plainly (codes "==") (base_value (codes "==") a.Neither 4) ∷ plainly (codes "++")
    (base_value (codes "++") a.Right 5) ∷ plainly (codes "$") (base_value (codes "$") a.Right 0) ∷ []

abbrev pub digit : Text → ℕ
digit [] = 0
digit (b ∷ bs) = b - 48

abbrev pub literals : Literals
literals = record { integer = digit; character = digit; string = λ text. text }

abbrev pub env : Env
env = record { literals = literals; items = operators; locals = [] }

-- ---- surface trees

abbrev pub number : Text → OperandTree
number n = roll-OperandTree (OperandTree-F.Apply (roll-AExpTree (AExpTree-F.Literal (l.Integer n))) [])

abbrev pub variable : Text → OperandTree
variable x = roll-OperandTree (OperandTree-F.Apply (roll-AExpTree (AExpTree-F.Var (q.Id x))) [])

abbrev pub with_sign : Bool → OperandTree → SignedOperand
with_sign negated x = roll-SignedOperand (record { negated = negated; operand = x })

abbrev pub behind_op : Text → OperandTree → OpOperand
behind_op op x = roll-OpOperand (record { op = p.Sym op; operand = with_sign false x })

abbrev pub chain : SignedOperand → List OpOperand → InfixTree
chain first rest = roll-InfixTree (record { first = first; rest = rest })

abbrev pub exp : InfixTree → ExpTree
exp c = roll-ExpTree (ExpTree-F.Infix c)

abbrev pub atom : AExpTree → ExpTree
atom x = exp (chain (with_sign false (roll-OperandTree (OperandTree-F.Apply x []))) [])

abbrev pub apply_op : Text → Exp → Exp → Exp
apply_op op x y = e.Apply (base_global op) (x ∷ y ∷ [])

-- `1 - 2 - 3` is `(1 - 2) - 3`
abbrev pub left_chain : InfixTree
left_chain = chain (with_sign false (number (codes "1")))
    (behind_op (codes "-") (number (codes "2")) ∷ behind_op (codes "-") (number (codes "3")) ∷ [])

abbrev pub MinusGroupsLeft : Type 0
MinusGroupsLeft = resolved_exp env (exp left_chain) ≡ Some
    (apply_op (codes "-") (apply_op (codes "-") (e.Int 1) (e.Int 2)) (e.Int 3))

-- `- 1 + 2` is `(- 1) + 2`
abbrev pub SignBindsAsPlus : Type 0
SignBindsAsPlus =
    resolved_exp env (exp (chain (with_sign true (number (codes "1")))
    (behind_op (codes "+") (number (codes "2")) ∷ [])))
    ≡ Some (apply_op (codes "+") (e.Apply negation (e.Int 1 ∷ [])) (e.Int 2))

-- `1 == 2 == 3` has no reading
abbrev pub EqualityDoesNotGroup : Type 0
EqualityDoesNotGroup =
    resolved_exp env (exp (chain (with_sign false (number (codes "1")))
    (behind_op (codes "==") (number (codes "2")) ∷ behind_op (codes "==") (number (codes "3")) ∷ []))) ≡ None

-- `(+ 1 * 2)` is a section, and `(* 1 + 2)` is none
abbrev pub section : Text → Text → ExpTree
section outer inner =
    atom (roll-AExpTree (AExpTree-F.RightSection (p.Sym outer)
    (chain (with_sign false (number (codes "1"))) (behind_op inner (number (codes "2")) ∷ []))))

abbrev pub SectionsResolve : Type 0
SectionsResolve = (resolved_exp env (section (codes "+") (codes "*")) ≡ Some
    (e.RightSection (base_global (codes "+")) (apply_op (codes "*") (e.Int 1) (e.Int 2))))
    × (resolved_exp env (section (codes "*") (codes "+")) ≡ None)

-- `1 ++ 2 ++ 3` groups to the right; `1 ++ 2 $ 3 ++ 1` has the looser operator outermost
abbrev pub RightGroups : Type 0
RightGroups =
    (resolved_exp env (exp (chain (with_sign false (number (codes "1")))
    (behind_op (codes "++") (number (codes "2")) ∷ behind_op (codes "++") (number (codes "3")) ∷ [])))
    ≡ Some (apply_op (codes "++") (e.Int 1) (apply_op (codes "++") (e.Int 2) (e.Int 3))))
    × (resolved_exp env (exp (chain (with_sign false (number (codes "1")))
    (behind_op (codes "++") (number (codes "2")) ∷ behind_op (codes "$") (number (codes "3")) ∷ behind_op
    (codes "++") (number (codes "1")) ∷ [])))
    ≡ Some (apply_op (codes "$") (apply_op (codes "++") (e.Int 1) (e.Int 2))
    (apply_op (codes "++") (e.Int 3) (e.Int 1))))

-- `\negate -> negate`: a local hides
abbrev pub LocalsHide : Type 0
LocalsHide = resolved_exp (record {
  literals = literals;
  items =
      plainly (codes "negate") (base_value (codes "negate") a.Left 9) ∷ [];
  locals = [];
})
    (exp (chain (with_sign false (roll-OperandTree (OperandTree-F.Lambda (roll-LambdaTree (record {
      first = roll-APatTree (APatTree-F.Var (v.Id (codes "negate")));
      rest = [];
      body = exp (chain (with_sign false (variable (codes "negate"))) []);
    }))))) []))
    ≡ Some (e.Lambda (PVar (codes "negate") ∷ []) (e.Local (codes "negate")))

-- `f = 1 + 2 + 3 where {infixr 5 +; a + b = a}`: the group's operator with its own fixity
abbrev pub body : InfixTree → Locals → RhsTree
body c ls = roll-RhsTree (record { body = roll-RhsBody (RhsBody-F.Equals (exp c)); locals = ls })

abbrev pub absent : Locals
absent = roll-Locals Locals-F.Absent

abbrev pub argument : Text → LPatTree
argument x = roll-LPatTree (LPatTree-F.APat (roll-APatTree (APatTree-F.Var (v.Id x))))

abbrev pub own_plus : Locals
own_plus = roll-Locals (Locals-F.Where (roll-DeclBlock (record {
  first = roll-DeclSlot (DeclSlot-F.Decl (roll-DeclTree
      (DeclTree-F.Fixity fw.Right (Some (codes "5")) (o.Var (vo.Sym (codes "+"))) [])));
  rest = roll-DeclSlot (DeclSlot-F.Decl (roll-DeclTree
      (DeclTree-F.Function (roll-FunLhsTree (FunLhsTree-F.Infix (argument (codes "a")) (vo.Sym (codes "+"))
      (argument (codes "b"))))
      (body (chain (with_sign false (variable (codes "a"))) []) absent)))) ∷ [];
})))

abbrev pub local_plus : Exp → Exp → Exp
local_plus x y = e.Apply (e.Local (codes "+")) (x ∷ y ∷ [])

abbrev pub simply : Exp → List Decl → Rhs
simply x ds = roll-Rhs (record { choices = record { guards = []; exp = x } ∷ []; local = ds })

abbrev pub LocalFixities : Type 0
LocalFixities =
    resolved_decl env (roll-DeclTree (DeclTree-F.Pattern
    (roll-PatTree (record { first = argument (codes "f"); rest = [] }))
    (body (chain (with_sign false (number (codes "1")))
    (behind_op (codes "+") (number (codes "2")) ∷ behind_op (codes "+") (number (codes "3")) ∷ [])) own_plus)))
    ≡ Some (d.Clause (codes "f") [] (simply (local_plus (e.Int 1) (local_plus (e.Int 2) (e.Int 3)))
    (d.Clause (codes "+") (PVar (codes "a") ∷ PVar (codes "b") ∷ []) (simply (e.Local (codes "a")) []) ∷ [])) ∷ [])

-- ---- names

abbrev pub module_named : Text → Ident
module_named m = Module (roll-Unit (record { component = codes "one"; fills = [] })) m

abbrev pub value_at : Text → Text → Entity
value_at m x = Value (record { at = module_named m; space = Values; occ = x })
    (record { vars = 0; body = Var 0 }) default_fixity

abbrev pub item : Text → Text → Text → ScopeItem
item qualifier m x = record { qualifier = qualifier; occ = x; entity = value_at m x; con = [] }

-- one entity by two imports is meant; two entities are ambiguous; a qualified name alone is not in scope plainly
abbrev pub NamesMean : Type 0
NamesMean = (name_meant (item [] (codes "A") (codes "f") ∷ item [] (codes "A") (codes "f") ∷ []) Values
    (codes "f")).passes (record { at = module_named (codes "A"); space = Values; occ = codes "f" })
    × (name_meant (item [] (codes "A") (codes "f") ∷ item [] (codes "B") (codes "f") ∷ []) Values
    (codes "f")).fails AmbiguousName
    × (name_meant (item (codes "A") (codes "A") (codes "f") ∷ []) Values (codes "f")).fails NotInScope
    × (name_meant (item (codes "A") (codes "A") (codes "f") ∷ []) Values (codes "A.f")).passes
    (record { at = module_named (codes "A"); space = Values; occ = codes "f" })
