-- What is asked of a declaration beside its chains: its references, in the order of the source and each with the
-- locals around it, and the groups of names that it binds (Haskell 2010 Report, sections 3.17, 4.4.1, 4.4.2, 4.4.3
-- and 5.5).
use Rattle.std.specs.Prelude.{ℕ, Bool, true, false, not, ◌&&◌, nat_eq, ◌+◌, List, [], ◌∷◌, ◌++◌, flat_map, map, length}
use Rattle.std.specs.Prelude.{Option, Some, None, if◌then◌else◌}
use Rattle.std.specs.List.{list_any}
use Rattle.std.specs.Str.{bytes_eq}
use Rattle.bp_base.specs.Texts.{Text}
use Rattle.bp_base.specs.declared.ty.Space.{Space}
use Rattle.bp_base.specs.declared.ty.Space.TheVariants.{Types, Values}
use Rattle.hs_trees.specs.declared.types.TypeTree.{TypeTree'}
use Rattle.hs_trees.specs.declared.types.ATypeTree.{ATypeTree}
use Rattle.hs_trees.specs.declared.types.ATypeTree.TheVariants as ty
use Rattle.hs_trees.specs.declared.types.ATypeTree.TheBlock.{Row_of-TypeTree, end_of-TypeTree, more_of-TypeTree}
use Rattle.hs_trees.specs.declared.types.ATypeTree.TheBlock.{Row_of-ATypeTree, end_of-ATypeTree, more_of-ATypeTree}
use Rattle.hs_trees.specs.declared.types.ATypeTree.TheBlock.{Row_of-BTypeTree, end_of-BTypeTree, more_of-BTypeTree}
use Rattle.hs_trees.specs.declared.patterns.GConTree.{GConTree}
use Rattle.hs_trees.specs.declared.patterns.GConTree.TheVariants as g
use Rattle.hs_trees.specs.declared.patterns.QConOpTree.{QConOpTree}
use Rattle.hs_trees.specs.declared.patterns.QConOpTree.TheVariants as o
use Rattle.hs_trees.specs.declared.patterns.APatTree.TheVariants as ap
use Rattle.hs_trees.specs.declared.patterns.LPatTree.TheVariants as lp
use Rattle.hs_trees.specs.declared.patterns.PatTree.{PatTree'}
use Rattle.hs_trees.specs.declared.patterns.APatTree.TheBlock.{Row_of-APatTree, end_of-APatTree, more_of-APatTree}
use Rattle.hs_trees.specs.declared.patterns.APatTree.TheBlock.{Row_of-PatTree, end_of-PatTree, more_of-PatTree}
use Rattle.hs_trees.specs.declared.patterns.APatTree.TheBlock.{Row_of-OpLPat, end_of-OpLPat, more_of-OpLPat}
use Rattle.hs_trees.specs.declared.types.TypeTree.{TypeTree}
use Rattle.hs_trees.specs.declared.patterns.APatTree.{APatTree}
use Rattle.hs_trees.specs.declared.patterns.LPatTree.{LPatTree}
use Rattle.hs_trees.specs.declared.patterns.PatTree.{PatTree}
use Rattle.hs_modules.specs.declared.names.QVarTree.{QVarTree}
use Rattle.hs_modules.specs.declared.names.QVarTree.TheVariants as q
use Rattle.hs_modules.specs.declared.names.QOpTree.{QOpTree}
use Rattle.hs_modules.specs.declared.names.QOpTree.TheVariants as p
use Rattle.hs_modules.specs.declared.expressions.FunLhsTree.{FunLhsTree}
use Rattle.hs_modules.specs.declared.expressions.FunLhsTree.TheVariants as f
use Rattle.hs_modules.specs.declared.expressions.FunLhsTree.TheBlock.{end_of-FunLhsTree, more_of-FunLhsTree}
use Rattle.hs_modules.specs.declared.expressions.AExpTree.{AExpTree}
use Rattle.hs_modules.specs.declared.expressions.AExpTree.TheVariants.{Var, Con, Literal, Parts', List' as ListExp'}
use Rattle.hs_modules.specs.declared.expressions.AExpTree.TheVariants.{LeftSection', RightSection'}
use Rattle.hs_modules.specs.declared.expressions.AltBody.{AltBody}
use Rattle.hs_modules.specs.declared.expressions.AltBody.TheVariants.{Arrow, GuardedArrows'}
use Rattle.hs_modules.specs.declared.expressions.AltSlot.TheVariants.{NoAlt, Alt'}
use Rattle.hs_modules.specs.declared.expressions.DeclSlot.TheVariants.{NoDecl, Decl as Declared}
use Rattle.hs_modules.specs.declared.expressions.DeclTree.{DeclTree}
use Rattle.hs_modules.specs.declared.expressions.DeclTree.TheVariants.{Signature, Fixity as FixityDecl, Function'}
use Rattle.hs_modules.specs.declared.expressions.DeclTree.TheVariants.{Pattern'}
use Rattle.hs_modules.specs.declared.expressions.ExpTree.{ExpTree}
use Rattle.hs_modules.specs.declared.expressions.ExpTree.TheVariants.{Infix, Annotated}
use Rattle.hs_modules.specs.declared.expressions.GuardTree.{GuardTree}
use Rattle.hs_modules.specs.declared.expressions.GuardTree.TheVariants as gt
use Rattle.hs_modules.specs.declared.expressions.Locals.{Locals}
use Rattle.hs_modules.specs.declared.expressions.Locals.TheVariants.{Absent, Where'}
use Rattle.hs_modules.specs.declared.expressions.OperandTree.{OperandTree}
use Rattle.hs_modules.specs.declared.expressions.OperandTree.TheVariants.{Lambda', Let', If', Case', Apply'}
use Rattle.hs_modules.specs.declared.expressions.RhsBody.{RhsBody}
use Rattle.hs_modules.specs.declared.expressions.RhsBody.TheVariants.{Equals, GuardedEquals'}
use Rattle.hs_modules.specs.declared.expressions.InfixTree.{InfixTree, InfixTree'}
use Rattle.hs_modules.specs.declared.expressions.AExpTree.TheBlock.{Row_of-ExpTree, end_of-ExpTree, more_of-ExpTree}
use Rattle.hs_modules.specs.declared.expressions.AExpTree.TheBlock.{end_of-InfixTree, more_of-InfixTree}
use Rattle.hs_modules.specs.declared.expressions.AExpTree.TheBlock.{Row_of-GuardTree, end_of-GuardTree}
use Rattle.hs_modules.specs.declared.expressions.AExpTree.TheBlock.{more_of-GuardTree, Row_of-GdaTree, end_of-GdaTree}
use Rattle.hs_modules.specs.declared.expressions.AExpTree.TheBlock.{more_of-GdaTree, Row_of-DeclSlot, end_of-DeclSlot}
use Rattle.hs_modules.specs.declared.expressions.AExpTree.TheBlock.{more_of-DeclSlot, Row_of-AltSlot, end_of-AltSlot}
use Rattle.hs_modules.specs.declared.expressions.AExpTree.TheBlock.{more_of-AltSlot, Row_of-AExpTree, end_of-AExpTree}
use Rattle.hs_modules.specs.declared.expressions.AExpTree.TheBlock.{more_of-AExpTree, Row_of-GdTree, end_of-GdTree}
use Rattle.hs_modules.specs.declared.expressions.AExpTree.TheBlock.{more_of-GdTree, Row_of-OpOperand, end_of-OpOperand}
use Rattle.hs_modules.specs.declared.expressions.AExpTree.TheBlock.{more_of-OpOperand}
use Rattle.hs_scopes.specs.Words.{var_name, op_name}
use Rattle.hs_scopes.specs.Patterns.{pat_vars, apat_vars}
use Rattle.hs_scopes.specs.Resolved.{lhs_name, lhs_vars, guard_vars, row_bound}

-- ---- what a group declares, in the order of the source

pub data Item : Type 0 where
  -- a clause of a function, with its number of arguments
  clause : (name : Text) (arguments : ℕ) → Item
  -- any other thing of this name; a variable bound without arguments is one
  thing : (space : Space) (name : Text) → Item
  signature : (name : Text) → Item
  fixity : (name : Text) → Item

abbrev pub item_name : Item → Text
item_name (Item.clause x n) = x
item_name (Item.thing space x) = x
item_name (Item.signature x) = x
item_name (Item.fixity x) = x

abbrev pub same_space : Space → Space → Bool
same_space Types Types = true
same_space Types Values = false
same_space Values Types = false
same_space Values Values = true

abbrev pub declares : Space → Text → Item → Bool
declares space x (Item.clause y n) = same_space space Values && bytes_eq x y
declares space x (Item.thing s y) = same_space space s && bytes_eq x y
declares space x (Item.signature y) = false
declares space x (Item.fixity y) = false

abbrev pub signs : Text → Item → Bool
signs x (Item.signature y) = bytes_eq x y
signs x (Item.clause y n) = false
signs x (Item.thing s y) = false
signs x (Item.fixity y) = false

abbrev pub fixes : Text → Item → Bool
fixes x (Item.fixity y) = bytes_eq x y
fixes x (Item.clause y n) = false
fixes x (Item.thing s y) = false
fixes x (Item.signature y) = false

-- a clause goes on with the clauses of its name that stand right before it, where it has as many arguments as they
abbrev pub goes_on : Text → ℕ → List Item → Bool
goes_on x n [] = false
goes_on x n (Item.clause y m ∷ before) = bytes_eq x y && nat_eq n m
goes_on x n (Item.thing s y ∷ before) = false
goes_on x n (Item.signature y ∷ before) = false
goes_on x n (Item.fixity y ∷ before) = false

-- an item is there twice, where these stand before it, the nearest first
abbrev pub is_twice : List Item → Item → Bool
is_twice before (Item.clause x n) = list_any (declares Values x) before && not (goes_on x n before)
is_twice before (Item.thing space x) = list_any (declares space x) before
is_twice before (Item.signature x) = list_any (signs x) before
is_twice before (Item.fixity x) = list_any (fixes x) before

-- the first second place
abbrev pub first_twice : List Item → List Item → Option Text
first_twice before [] = None
first_twice before (i ∷ is) = if is_twice before i then Some (item_name i) else first_twice (i ∷ before) is

-- the first fixity declaration of a name that the group does not bind
abbrev pub first_loose : (Text → Bool) → List Item → Option Text
first_loose bound [] = None
first_loose bound (Item.fixity x ∷ is) = if bound x then first_loose bound is else Some x
first_loose bound (Item.clause x n ∷ is) = first_loose bound is
first_loose bound (Item.thing s x ∷ is) = first_loose bound is
first_loose bound (Item.signature x ∷ is) = first_loose bound is

-- ---- references

pub data Reference : Type 0 where
  -- an unqualified variable, with the locals around it
  plain : (name : Text) (bound : List Text) → Reference
  -- a qualified variable, a constructor or a type
  global : (space : Space) (name : Text) → Reference
  -- a type variable, with those of the head
  variable : (name : Text) (head : List Text) → Reference
  -- the name of a type signature, with the names that its group binds
  signed : (name : Text) (bound : List Text) → Reference

pub data Part : Type 0 where
  refers : Reference → Part
  group : List Item → Part

abbrev pub refer : Space → Text → List Part
refer space x = Part.refers (Reference.global space x) ∷ []

abbrev pub gcon_parts : GConTree → List Part
gcon_parts g.Unit = []
gcon_parts g.List = []
gcon_parts (g.Tuple n) = []
gcon_parts (g.Con x) = refer Values x
gcon_parts (g.Sym x) = refer Values x
gcon_parts g.Colon = []

abbrev pub conop_parts : QConOpTree → List Part
conop_parts (o.Sym x) = refer Values x
conop_parts o.Colon = []
conop_parts (o.Quoted x) = refer Values x

abbrev pub qvar_parts : List Text → QVarTree → List Part
qvar_parts bound (q.Id x) = Part.refers (Reference.plain x bound) ∷ []
qvar_parts bound (q.Sym x) = Part.refers (Reference.plain x bound) ∷ []
qvar_parts bound (q.QualifiedId x) = refer Values x
qvar_parts bound (q.QualifiedSym x) = refer Values x

abbrev pub qop_parts : List Text → QOpTree → List Part
qop_parts bound (p.Sym x) = Part.refers (Reference.plain x bound) ∷ []
qop_parts bound (p.Quoted x) = Part.refers (Reference.plain x bound) ∷ []
qop_parts bound (p.QualifiedSym x) = refer Values x
qop_parts bound (p.QualifiedQuoted x) = refer Values x
qop_parts bound (p.Con x) = conop_parts x

-- variables that stand together are a group
abbrev pub variables : List Text → Part
variables xs = Part.group (map (Item.thing Values) xs)

-- ---- types: the variables of a head, where there is one, are those that may stand

abbrev pub variable_parts : Option (List Text) → Text → List Part
variable_parts None x = []
variable_parts (Some head) x = Part.refers (Reference.variable x head) ∷ []

abbrev mutual
  pub type_parts : Option (List Text) → TypeTree → List Part
  type_parts head (TypeTree' a s r z bs) = atype_parts head a ++ (atypes_parts head r ++ btypes_parts head bs)

  pub btypes_parts : {m : _} → Option (List Text) → Row_of-BTypeTree m → List Part
  btypes_parts head end_of-BTypeTree = []
  btypes_parts head (more_of-BTypeTree a s r bs) = atype_parts head a ++ (atypes_parts head r ++ btypes_parts head bs)

  pub atype_parts : Option (List Text) → ATypeTree → List Part
  atype_parts head (ty.Con x) = refer Types x
  atype_parts head ty.Unit = []
  atype_parts head ty.ListCon = []
  atype_parts head ty.ArrowCon = []
  atype_parts head (ty.TupleCon n) = []
  atype_parts head (ty.Var x) = variable_parts head x
  atype_parts head (ty.Parts' s (more_of-TypeTree t end_of-TypeTree) z ts) = type_parts head t ++ types_parts head ts
  atype_parts head (ty.List' s (more_of-TypeTree t end_of-TypeTree)) = type_parts head t

  pub types_parts : {m : _} → Option (List Text) → Row_of-TypeTree m → List Part
  types_parts head end_of-TypeTree = []
  types_parts head (more_of-TypeTree t ts) = type_parts head t ++ types_parts head ts

  pub atypes_parts : {m : _} → Option (List Text) → Row_of-ATypeTree m → List Part
  atypes_parts head end_of-ATypeTree = []
  atypes_parts head (more_of-ATypeTree t ts) = atype_parts head t ++ atypes_parts head ts

-- ---- patterns

abbrev mutual
  pub pat_parts : PatTree → List Part
  pat_parts (PatTree' first s r) = lpat_parts first ++ pat_link_parts r

  pub pat_link_parts : {m : _} → Row_of-OpLPat m → List Part
  pat_link_parts end_of-OpLPat = []
  pat_link_parts (more_of-OpLPat op x r) = conop_parts op ++ (lpat_parts x ++ pat_link_parts r)

  pub lpat_parts : LPatTree → List Part
  lpat_parts (lp.Negative text) = []
  lpat_parts (lp.Apply' con first s r) = gcon_parts con ++ (apat_parts first ++ apats_parts r)
  lpat_parts (lp.APat x) = apat_parts x

  pub apat_parts : APatTree → List Part
  apat_parts (ap.Var x) = []
  apat_parts (ap.As' x s (more_of-APatTree y end_of-APatTree)) = apat_parts y
  apat_parts ap.Wild = []
  apat_parts (ap.Con con) = gcon_parts con
  apat_parts (ap.Literal x) = []
  apat_parts (ap.Parts' s (more_of-PatTree x end_of-PatTree) z xs) = pat_parts x ++ pats_parts xs
  apat_parts (ap.List' s (more_of-PatTree x end_of-PatTree) z xs) = pat_parts x ++ pats_parts xs
  apat_parts (ap.Lazy' s (more_of-APatTree x end_of-APatTree)) = apat_parts x

  pub pats_parts : {m : _} → Row_of-PatTree m → List Part
  pats_parts end_of-PatTree = []
  pats_parts (more_of-PatTree x xs) = pat_parts x ++ pats_parts xs

  pub apats_parts : {m : _} → Row_of-APatTree m → List Part
  apats_parts end_of-APatTree = []
  apats_parts (more_of-APatTree x xs) = apat_parts x ++ apats_parts xs

abbrev pub lhs_parts : FunLhsTree → List Part
lhs_parts (f.Prefix x first rest) = flat_map apat_parts (first ∷ rest)
lhs_parts (f.Infix left op right) = lpat_parts left ++ lpat_parts right
lhs_parts (f.Parens' s (more_of-FunLhsTree x end_of-FunLhsTree) first rest) =
    lhs_parts x ++ flat_map apat_parts (first ∷ rest)

abbrev pub lhs_count : FunLhsTree → ℕ
lhs_count (f.Prefix x first rest) = length (first ∷ rest)
lhs_count (f.Infix left op right) = 2
lhs_count (f.Parens' s (more_of-FunLhsTree x end_of-FunLhsTree) first rest) = length (first ∷ rest) + lhs_count x

-- ---- the items of a group

abbrev pub pattern_items : PatTree → List Item
pattern_items x = map (Item.thing Values) (pat_vars x)

abbrev pub decl_items : DeclTree → List Item
decl_items (Signature x xs t) = map (λ y. Item.signature (var_name y)) (x ∷ xs)
decl_items (FixityDecl w digit op os) = map (λ y. Item.fixity (op_name y)) (op ∷ os)
decl_items (Function' lhs b ls) = Item.clause (lhs_name lhs) (lhs_count lhs) ∷ []
decl_items (Pattern' x b ls) = pattern_items x

abbrev pub row_items : {m : _} → Row_of-DeclSlot m → List Item
row_items end_of-DeclSlot = []
row_items (more_of-DeclSlot NoDecl r) = row_items r
row_items (more_of-DeclSlot (Declared x) r) = decl_items x ++ row_items r

abbrev pub where_bound : Locals → List Text
where_bound Absent = []
where_bound (Where' s first z rest) = row_bound first ++ row_bound rest

abbrev pub guards_bound : {m : _} → Row_of-GuardTree m → List Text → List Text
guards_bound end_of-GuardTree bound = bound
guards_bound (more_of-GuardTree x r) bound = guards_bound r (guard_vars x ++ bound)

-- ---- expressions and declarations

abbrev mutual
  pub exp_parts : List Text → ExpTree → List Part
  exp_parts bound (Infix c) = infix_parts bound c
  exp_parts bound (Annotated c t) = infix_parts bound c ++ type_parts None t

  pub infix_parts : List Text → InfixTree → List Part
  infix_parts bound (InfixTree' negated first s r) = operand_parts bound first ++ link_parts bound r

  pub link_parts : {m : _} → List Text → Row_of-OpOperand m → List Part
  link_parts bound end_of-OpOperand = []
  link_parts bound (more_of-OpOperand op negated x r) =
      qop_parts bound op ++ (operand_parts bound x ++ link_parts bound r)

  pub operand_parts : List Text → OperandTree → List Part
  operand_parts bound (Lambda' first rest s (more_of-ExpTree b end_of-ExpTree)) =
      variables (flat_map apat_vars (first ∷ rest)) ∷
      (flat_map apat_parts (first ∷ rest) ++ exp_parts (flat_map apat_vars (first ∷ rest) ++ bound) b)
  operand_parts bound (Let' s first z rest y (more_of-ExpTree b end_of-ExpTree)) =
      let own = row_bound first ++ row_bound rest in
      Part.group (row_items first ++ row_items rest) ∷
      (slot_parts own (own ++ bound) first ++ (slot_parts own (own ++ bound) rest ++ exp_parts (own ++ bound) b))
  operand_parts bound (If' s (more_of-ExpTree x end_of-ExpTree) z (more_of-ExpTree y end_of-ExpTree) w
      (more_of-ExpTree v end_of-ExpTree)) =
      exp_parts bound x ++ (exp_parts bound y ++ exp_parts bound v)
  operand_parts bound (Case' s (more_of-ExpTree x end_of-ExpTree) z first y rest) =
      exp_parts bound x ++ (alt_parts bound first ++ alt_parts bound rest)
  operand_parts bound (Apply' x s r) = aexp_parts bound x ++ aexps_parts bound r

  pub aexp_parts : List Text → AExpTree → List Part
  aexp_parts bound (Var x) = qvar_parts bound x
  aexp_parts bound (Con x) = gcon_parts x
  aexp_parts bound (Literal x) = []
  aexp_parts bound (Parts' s (more_of-ExpTree x end_of-ExpTree) z xs) = exp_parts bound x ++ exps_parts bound xs
  aexp_parts bound (ListExp' s (more_of-ExpTree x end_of-ExpTree) z xs) = exp_parts bound x ++ exps_parts bound xs
  aexp_parts bound (LeftSection' s (more_of-InfixTree c end_of-InfixTree) op) =
      infix_parts bound c ++ qop_parts bound op
  aexp_parts bound (RightSection' op s (more_of-InfixTree c end_of-InfixTree)) =
      qop_parts bound op ++ infix_parts bound c

  pub exps_parts : {m : _} → List Text → Row_of-ExpTree m → List Part
  exps_parts bound end_of-ExpTree = []
  exps_parts bound (more_of-ExpTree x r) = exp_parts bound x ++ exps_parts bound r

  pub aexps_parts : {m : _} → List Text → Row_of-AExpTree m → List Part
  aexps_parts bound end_of-AExpTree = []
  aexps_parts bound (more_of-AExpTree x r) = aexp_parts bound x ++ aexps_parts bound r

  pub alt_parts : {m : _} → List Text → Row_of-AltSlot m → List Part
  alt_parts bound end_of-AltSlot = []
  alt_parts bound (more_of-AltSlot NoAlt r) = alt_parts bound r
  alt_parts bound (more_of-AltSlot (Alt' x b ls) r) =
      let all = where_bound ls ++ (pat_vars x ++ bound) in
      variables (pat_vars x) ∷ (pat_parts x ++ (arrow_parts all b ++ (local_parts all ls ++ alt_parts bound r)))

  pub arrow_parts : List Text → AltBody → List Part
  arrow_parts bound (Arrow x) = exp_parts bound x
  arrow_parts bound (GuardedArrows' h s gs x z r) =
      guard_parts bound h ++ (guards_parts (guard_vars h ++ bound) gs ++
      (exp_parts (guards_bound gs (guard_vars h ++ bound)) x ++ gda_parts bound r))

  pub gda_parts : {m : _} → List Text → Row_of-GdaTree m → List Part
  gda_parts bound end_of-GdaTree = []
  gda_parts bound (more_of-GdaTree h s gs x r) =
      guard_parts bound h ++ (guards_parts (guard_vars h ++ bound) gs ++
      (exp_parts (guards_bound gs (guard_vars h ++ bound)) x ++ gda_parts bound r))

  pub guard_parts : List Text → GuardTree → List Part
  guard_parts bound (gt.Test c) = infix_parts bound c
  guard_parts bound (gt.Bind x c) = variables (pat_vars x) ∷ (pat_parts x ++ infix_parts bound c)

  pub guards_parts : {m : _} → List Text → Row_of-GuardTree m → List Part
  guards_parts bound end_of-GuardTree = []
  guards_parts bound (more_of-GuardTree h r) = guard_parts bound h ++ guards_parts (guard_vars h ++ bound) r

  pub body_parts : List Text → RhsBody → List Part
  body_parts bound (Equals x) = exp_parts bound x
  body_parts bound (GuardedEquals' h s gs x z r) =
      guard_parts bound h ++ (guards_parts (guard_vars h ++ bound) gs ++
      (exp_parts (guards_bound gs (guard_vars h ++ bound)) x ++ gd_parts bound r))

  pub gd_parts : {m : _} → List Text → Row_of-GdTree m → List Part
  gd_parts bound end_of-GdTree = []
  gd_parts bound (more_of-GdTree h s gs x r) =
      guard_parts bound h ++ (guards_parts (guard_vars h ++ bound) gs ++
      (exp_parts (guards_bound gs (guard_vars h ++ bound)) x ++ gd_parts bound r))

  pub local_parts : List Text → Locals → List Part
  local_parts bound Absent = []
  local_parts bound (Where' s first z rest) =
      let own = row_bound first ++ row_bound rest in
      Part.group (row_items first ++ row_items rest) ∷ (slot_parts own bound first ++ slot_parts own bound rest)

  pub slot_parts : {m : _} → List Text → List Text → Row_of-DeclSlot m → List Part
  slot_parts own bound end_of-DeclSlot = []
  slot_parts own bound (more_of-DeclSlot NoDecl r) = slot_parts own bound r
  slot_parts own bound (more_of-DeclSlot (Declared x) r) = decl_parts own bound x ++ slot_parts own bound r

  -- `own` are the names that the declaration's own group binds
  pub decl_parts : List Text → List Text → DeclTree → List Part
  decl_parts own bound (Signature x xs t) = map (λ y. Part.refers (Reference.signed (var_name y) own)) (x ∷ xs)
      ++ type_parts None t
  decl_parts own bound (FixityDecl w digit op os) = []
  decl_parts own bound (Function' lhs b ls) =
      let all = where_bound ls ++ (lhs_vars lhs ++ bound) in
      variables (lhs_vars lhs) ∷ (lhs_parts lhs ++ (body_parts all b ++ local_parts all ls))
  decl_parts own bound (Pattern' x b ls) =
      let all = where_bound ls ++ bound in
      pat_parts x ++ (body_parts all b ++ local_parts all ls)
