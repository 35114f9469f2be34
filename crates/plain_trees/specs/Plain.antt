-- Modules of the plain form: no imports, and values each with a type signature of `Int` and arrows and one clause behind
-- it, whose right side is a name or number applied to such.
use Rattle.std.specs.Prelude.{ℕ, Bool, true, false, not, ◌&&◌, List, [], ◌∷◌, ◌++◌, map, Option, Some, None}
use Rattle.std.specs.Prelude.{if◌then◌else◌}
use Rattle.std.specs.List.{list_all, fold}
use Rattle.std.specs.Str.{bytes_eq}
use Rattle.std.specs.Ordering.{nat_cmp}
use Rattle.std.specs.Cmp.Lexicographic.{slice_cmp}
use Rattle.std.specs.BTreeSet.{BTreeSet, contains}
use Rattle.std.specs.Prelude.{◌≡◌}
use Rattle.bp_base.specs.Texts.{Text}
use Rattle.bp_base.specs.Lists.{is_among}
use Rattle.bp_base.specs.declared.entity.Export.{Export}
use Rattle.hs_core.specs.Base.{base}
use Rattle.hs_trees.specs.declared.patterns.VarTree.{VarTree}
use Rattle.hs_trees.specs.declared.patterns.VarTree.TheVariants as v
use Rattle.hs_trees.specs.declared.patterns.APatTree.{APatTree, APatTree-F, out-APatTree}
use Rattle.hs_trees.specs.declared.patterns.LPatTree.{LPatTree, LPatTree-F, out-LPatTree}
use Rattle.hs_trees.specs.declared.patterns.PatTree.{PatTree, out-PatTree}
use Rattle.hs_trees.specs.declared.patterns.OpLPat.{OpLPat}
use Rattle.hs_modules.specs.declared.expressions.DeclTree.{DeclTree, DeclTree-F, out-DeclTree}
use Rattle.hs_modules.specs.declared.expressions.FunLhsTree.{FunLhsTree, FunLhsTree-F, out-FunLhsTree}
use Rattle.hs_modules.specs.declared.expressions.RhsTree.{RhsTree, out-RhsTree}
use Rattle.hs_modules.specs.declared.expressions.RhsBody.{RhsBody, RhsBody-F, out-RhsBody}
use Rattle.hs_modules.specs.declared.expressions.Locals.{Locals, Locals-F, out-Locals}
use Rattle.hs_modules.specs.declared.expressions.AExpTree.{AExpTree}
use Rattle.hs_modules.specs.declared.expressions.AltBody.{AltBody}
use Rattle.hs_modules.specs.declared.expressions.AltSlot.{AltSlot}
use Rattle.hs_modules.specs.declared.expressions.DeclSlot.{DeclSlot}
use Rattle.hs_modules.specs.declared.expressions.ExpTree.{ExpTree}
use Rattle.hs_modules.specs.declared.expressions.GuardTree.{GuardTree}
use Rattle.hs_modules.specs.declared.expressions.OperandTree.{OperandTree}
use Rattle.hs_modules.specs.declared.expressions.AltBlock.{AltBlock}
use Rattle.hs_modules.specs.declared.expressions.AltTree.{AltTree}
use Rattle.hs_modules.specs.declared.expressions.CaseTree.{CaseTree}
use Rattle.hs_modules.specs.declared.expressions.DeclBlock.{DeclBlock}
use Rattle.hs_modules.specs.declared.expressions.GdTree.{GdTree}
use Rattle.hs_modules.specs.declared.expressions.GdaTree.{GdaTree}
use Rattle.hs_modules.specs.declared.expressions.IfTree.{IfTree}
use Rattle.hs_modules.specs.declared.expressions.InfixTree.{InfixTree}
use Rattle.hs_modules.specs.declared.expressions.LambdaTree.{LambdaTree}
use Rattle.hs_modules.specs.declared.expressions.LetTree.{LetTree}
use Rattle.hs_modules.specs.declared.expressions.OpOperand.{OpOperand}
use Rattle.hs_modules.specs.declared.expressions.SignedOperand.{SignedOperand}
use Rattle.hs_modules.specs.declared.declarations.TopDeclTree.TheVariants as d
use Rattle.hs_modules.specs.declared.declarations.TopSlot.{TopSlot}
use Rattle.hs_modules.specs.declared.declarations.TopSlot.TheVariants as s
use Rattle.hs_modules.specs.declared.module.Module.{Module}
use Rattle.hs_modules.specs.declared.module.Module.TheVariants as m
use Rattle.hs_plain.specs.Plain.{names_of}
use Rattle.hs_plain.specs.declared.plain.Atom.{Atom}
use Rattle.hs_plain.specs.declared.plain.Atom.TheVariants.{Number, Argument, Declared}
use Rattle.hs_plain.specs.declared.plain.Binding.{Binding}
use Rattle.hs_plain.specs.declared.plain.PlainModule.{PlainModule}
use Rattle.plain_trees.specs.Types.{arrows_of, is_nothing}
use Rattle.plain_trees.specs.Words.{Words, words_of_exp}
use Rattle.plain_trees.specs.declared.values.Typing.{Typing}
use Rattle.plain_trees.specs.declared.values.Progress.{Progress}

-- one layer of a declaration
abbrev DeclLayer : Type 0
DeclLayer = DeclTree-F AExpTree AltBody AltSlot DeclSlot DeclTree ExpTree GuardTree Locals OperandTree RhsBody AltBlock
    AltTree CaseTree DeclBlock GdTree GdaTree IfTree InfixTree LambdaTree LetTree OpOperand RhsTree SignedOperand

-- one layer of a right side's body
abbrev BodyLayer : Type 0
BodyLayer = RhsBody-F AExpTree AltBody AltSlot DeclSlot DeclTree ExpTree GuardTree Locals OperandTree RhsBody AltBlock
    AltTree CaseTree DeclBlock GdTree GdaTree IfTree InfixTree LambdaTree LetTree OpOperand RhsTree SignedOperand

-- one layer of the local declarations of a right side
abbrev LocalsLayer : Type 0
LocalsLayer = Locals-F AExpTree AltBody AltSlot DeclSlot DeclTree ExpTree GuardTree Locals OperandTree RhsBody AltBlock
    AltTree CaseTree DeclBlock GdTree GdaTree IfTree InfixTree LambdaTree LetTree OpOperand RhsTree SignedOperand

-- no text stands twice
abbrev pub are_distinct : List Text → Bool
are_distinct [] = true
are_distinct (x ∷ xs) = not (is_among x xs) && are_distinct xs

-- the set holds these names
abbrev pub HasNames : BTreeSet Text → List Text → Type 0
HasNames set names = (name : Text) → contains (slice_cmp nat_cmp) set name ≡ is_among name names

-- the name that a variable is, unless it is a symbol
abbrev pub id_of : VarTree → Option Text
id_of (v.Id name) = Some name
id_of (v.Sym name) = None

-- the name that a pattern is
abbrev pub apat_name : APatTree → Option Text
apat_name p = by (out-APatTree p) where
  by : APatTree-F APatTree LPatTree OpLPat PatTree → Option Text
  by (APatTree-F.Var name) = id_of name
  by _ = None

abbrev pub lpat_name : LPatTree → Option Text
lpat_name p = by (out-LPatTree p) where
  by : LPatTree-F APatTree LPatTree OpLPat PatTree → Option Text
  by (LPatTree-F.APat apat) = apat_name apat
  by _ = None

abbrev pub pat_name : PatTree → Option Text
pat_name p = if is_nothing (out-PatTree p).rest then lpat_name (out-PatTree p).first else None

-- names, and the one that a pattern is
abbrev pub with_name : Option (List Text) → Option Text → Option (List Text)
with_name None name = None
with_name (Some names) None = None
with_name (Some names) (Some name) = Some (names ++ name ∷ [])

-- the names that patterns are
abbrev pub names_of_pats : List APatTree → Option (List Text)
names_of_pats pats = fold (λ names pat. with_name names (apat_name pat)) (Some []) pats

-- a type signature of one name, `x :: Int -> Int`
abbrev pub typing_of : Option Text → Option ℕ → Option Typing
typing_of None arrows = None
typing_of (Some occ) None = None
typing_of (Some occ) (Some arrows) = Some (record { occ = occ; arrows = arrows })

abbrev pub decl_typing : DeclTree → Option Typing
decl_typing d = by (out-DeclTree d) where
  by : DeclLayer → Option Typing
  by (DeclTree-F.Signature first rest ty) = if is_nothing rest then typing_of (id_of first) (arrows_of ty) else None
  by _ = None

-- the atoms of a right side `= exp` without `where`
abbrev pub body_words : List Text → RhsBody → Words
body_words args b = by (out-RhsBody b) where
  by : BodyLayer → Words
  by (RhsBody-F.Equals exp) = words_of_exp args exp
  by (RhsBody-F.GuardedEquals first rest) = None

abbrev pub has_no_locals : Locals → Bool
has_no_locals l = by (out-Locals l) where
  by : LocalsLayer → Bool
  by Locals-F.Absent = true
  by (Locals-F.Where block) = false

abbrev pub rhs_words : List Text → RhsTree → Words
rhs_words args r = if has_no_locals (out-RhsTree r).locals then body_words args (out-RhsTree r).body else None

-- the value with this signature, these arguments and these atoms
abbrev pub value_of : Typing → List Text → Words → Option Binding
value_of t args None = None
value_of t args (Some atoms) = Some (record { occ = t.occ; arrows = t.arrows; args = args; atoms = atoms })

-- a clause of this name behind its signature; no argument stands twice
abbrev pub defined : Typing → Text → List Text → RhsTree → Option Binding
defined t occ args rhs =
    if bytes_eq t.occ occ && are_distinct args then value_of t args (rhs_words args rhs) else None

abbrev pub defined_if : Typing → Option Text → Option (List Text) → RhsTree → Option Binding
defined_if t None args rhs = None
defined_if t (Some occ) None rhs = None
defined_if t (Some occ) (Some args) rhs = defined t occ args rhs

abbrev pub function_value : Typing → FunLhsTree → RhsTree → Option Binding
function_value t left rhs = by (out-FunLhsTree left) where
  by : FunLhsTree-F FunLhsTree → Option Binding
  by (FunLhsTree-F.Prefix var first rest) = defined_if t (id_of var) (names_of_pats (first ∷ rest)) rhs
  by _ = None

-- the value that a declaration makes of a signature
abbrev pub decl_value : Typing → DeclTree → Option Binding
decl_value t d = by (out-DeclTree d) where
  by : DeclLayer → Option Binding
  by (DeclTree-F.Function left rhs) = function_value t left rhs
  by (DeclTree-F.Pattern pat rhs) = defined_if t (pat_name pat) (Some []) rhs
  by _ = None

-- a place of a module's block
abbrev pub place_typing : TopSlot → Option Typing
place_typing (s.Decl (d.Decl decl)) = decl_typing decl
place_typing _ = None

abbrev pub place_value : Typing → TopSlot → Option Binding
place_value t (s.Decl (d.Decl decl)) = decl_value t decl
place_value t _ = None

abbrev pub is_empty_place : TopSlot → Bool
is_empty_place s.Empty = true
is_empty_place _ = false

-- what places made so far: a signature waits for its clause, or none does
abbrev pub with_typing : List Binding → Option Typing → Option Progress
with_typing done None = None
with_typing done (Some t) = Some (record { waiting = Some t; done = done })

abbrev pub with_value : List Binding → Option Binding → Option Progress
with_value done None = None
with_value done (Some b) = Some (record { waiting = None; done = done ++ b ∷ [] })

abbrev pub goes_on : Option Typing → List Binding → TopSlot → Option Progress
goes_on None done place = with_typing done (place_typing place)
goes_on (Some t) done place = with_value done (place_value t place)

-- one more place; nothing stands at an empty one
abbrev pub with_place : Option Progress → TopSlot → Option Progress
with_place None place = None
with_place (Some p) place = if is_empty_place place then Some p else goes_on p.waiting p.done place

-- no signature waits at the end
abbrev pub finished : Option Progress → Option (List Binding)
finished None = None
finished (Some p) = all p.waiting where
  all : Option Typing → Option (List Binding)
  all None = Some p.done
  all (Some t) = None

-- the values of places
abbrev pub values : List TopSlot → Option (List Binding)
values places = finished (fold with_place (Some (record { waiting = None; done = [] })) places)

-- what the module `Prelude` shows: such a name of the module's own would have two meanings in a right side
abbrev pub shown : List Text
shown = map (λ (x : Export). x.occ) base.exports

-- an atom that is a declared name is one of these, and means nothing else
abbrev pub is_known : List Text → Atom → Bool
is_known declared (Number value) = true
is_known declared (Argument occ) = true
is_known declared (Declared occ) = is_among occ declared && not (is_among occ shown)

-- each declared name of the right sides is one of these
abbrev pub all_known : List Text → List Binding → Bool
all_known declared bindings = list_all (λ (b : Binding). list_all (is_known declared) b.atoms) bindings

-- no name is declared twice, and each name of a right side is an argument or declared
abbrev pub is_closed : List Binding → Bool
is_closed bindings = are_distinct (names_of bindings) && all_known (names_of bindings) bindings

abbrev pub closed : Text → Option (List Binding) → Option PlainModule
closed name None = None
closed name (Some bindings) = if is_closed bindings then Some (record { name = name; bindings = bindings }) else None

-- the plain module that a tree is
unfoldable pub plain_of : Module → Option PlainModule
plain_of (m.Named name block) = closed name (values (block.first ∷ block.rest))
plain_of _ = None
