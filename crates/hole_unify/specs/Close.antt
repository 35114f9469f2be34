-- What follows where two classes become one, and what closing keeps.
use Rattle.std.specs.Prelude.{◌≡◌, ℕ, ◌<◌, ◌&&◌, List, [], ◌∷◌, ◌++◌, map, Option, Some, None, if◌then◌else◌, nat_eq}
use Rattle.std.specs.Prelude.{nat_lt}
use Rattle.std.specs.Str.{bytes_eq}
use Rattle.bp_base.specs.declared.ident.Ident.{Ident}
use Rattle.bp_base.specs.declared.ident.Ident.TheVariants.{Hole, Module, Module'}
use Rattle.bp_base.specs.declared.ident.Unit.{Unit as OfUnit, out-Unit}
use Rattle.bp_base.specs.declared.ident.Fill.{Fill}
use Rattle.bp_base.specs.declared.ident.Ident.TheBlock.{end_of-Unit, more_of-Unit}
use Rattle.bp_base.specs.Texts.{Text}
use Rattle.bp_base.specs.Lists.{Among}
use Rattle.unit_identity.specs.Fill.{found}
use Rattle.ident_table.specs.Numbers.{ident_of}
use Rattle.ident_table.specs.declared.node.NumberFill.{NumberFill}
use Rattle.ident_table.specs.declared.node.IdentNode.{IdentNode}
use Rattle.ident_table.specs.declared.node.IdentNode.TheVariants as node
use Rattle.hole_unify.specs.Table.{Node}
use Rattle.hole_unify.specs.declared.pair.NumberPair.{NumberPair}
use Rattle.hole_unify.specs.Numbers.{number_at}
use Rattle.hole_unify.specs.declared.equation.Equation.{Equation}
use Rattle.hole_unify.specs.declared.equation.Head.{Head}
use Rattle.hole_unify.specs.Classes.{head_of, HasHeads}
use Rattle.hole_unify.specs.Tables.{In, IsJoined}
use Rattle.hole_unify.specs.Table.{class_at, is_module, moved}

-- two terms whose classes are to be one
pub record Pair : Type 0 where
  pub one : Ident
  pub other : Ident

-- what a pair of numbers of a table stands for
abbrev pub pair_of : List Ident → NumberPair → Pair
pair_of table p = record { one = ident_of table p.one; other = ident_of table p.other }

abbrev pub pairs_of : List Ident → List NumberPair → List Pair
pairs_of table ps = map (pair_of table) ps

abbrev pub ArePairsBelow : ℕ → List NumberPair → Type 0
ArePairsBelow n ps = (p : NumberPair) → Among p ps → (p.one < n) × (p.other < n)

abbrev pub fill_pair : Option Ident → Option Ident → List Pair
fill_pair None right = []
fill_pair (Some i) None = []
fill_pair (Some i) (Some j) = record { one = i; other = j } ∷ []

-- the fills of two units hole by hole, where `rest` is what is left of the first one's
abbrev pub fills_pairs : List Fill → List Fill → List Fill → List Pair
fills_pairs ours theirs [] = []
fills_pairs ours theirs (f ∷ rest) = fill_pair (found f.hole ours) (found f.hole theirs) ++ fills_pairs ours theirs rest

abbrev pub units_pairs : OfUnit → Text → OfUnit → Text → List Pair
units_pairs u m v n = if bytes_eq (out-Unit u).component (out-Unit v).component && bytes_eq m n then fills_pairs
    (out-Unit u).fills (out-Unit v).fills (out-Unit u).fills else []

abbrev pub units_heads : OfUnit → Text → OfUnit → Text → Option (Head × Head)
units_heads u m v n = if bytes_eq (out-Unit u).component (out-Unit v).component && bytes_eq m n then None else Some
    (head_of u m, head_of v n)

-- the pairs that are to be one where two terms are of one class
abbrev pub terms_pairs : Ident → Ident → List Pair
terms_pairs (Hole m) b = []
terms_pairs (Module' s r m) (Hole n) = []
terms_pairs (Module' s (more_of-Unit u end_of-Unit) m) (Module' t (more_of-Unit v end_of-Unit) n) = units_pairs u m v n

-- the heads of two terms, where they are two
abbrev pub terms_heads : Ident → Ident → Option (Head × Head)
terms_heads (Hole m) b = None
terms_heads (Module' s r m) (Hole n) = None
terms_heads (Module' s (more_of-Unit u end_of-Unit) m) (Module' t (more_of-Unit v end_of-Unit) n) = units_heads u m v n

abbrev pub fill_numbers : Option ℕ → Option ℕ → List NumberPair
fill_numbers None right = []
fill_numbers (Some i) None = []
fill_numbers (Some i) (Some j) = record { one = i; other = j } ∷ []

-- the fills of two modules hole by hole, where `rest` is what is left of the first one's
abbrev pub fills_numbers : List NumberFill → List NumberFill → List NumberFill → List NumberPair
fills_numbers ours theirs [] = []
fills_numbers ours theirs (f ∷ rest) = fill_numbers (number_at f.hole ours) (number_at f.hole theirs)
    ++ fills_numbers ours theirs rest

-- the numbers that are to be of one class where two identities of a table are
abbrev pub nodes_numbers : IdentNode → IdentNode → List NumberPair
nodes_numbers (node.Hole m) b = []
nodes_numbers (node.Module c fs m) (node.Hole n) = []
nodes_numbers (node.Module c fs m) (node.Module d gs n) =
    if bytes_eq c d && bytes_eq m n then fills_numbers fs gs fs else []

-- the heads of two identities of a table, where they are two
abbrev pub nodes_heads : IdentNode → IdentNode → Option (Head × Head)
nodes_heads (node.Hole m) b = None
nodes_heads (node.Module c fs m) (node.Hole n) = None
nodes_heads (node.Module c fs m) (node.Module d gs n) =
    if bytes_eq c d && bytes_eq m n then None else Some
    (record { component = c; «module» = m }, record { component = d; «module» = n })

-- the first module of a class
abbrev pub module_at : ℕ → List Node → Option Ident
module_at k [] = None
module_at k (x ∷ xs) = if nat_eq x.class k && is_module x.ident then Some x.ident else module_at k xs

abbrev pub modules_pairs : Option Ident → Option Ident → List Pair
modules_pairs None right = []
modules_pairs (Some a) None = []
modules_pairs (Some a) (Some b) = terms_pairs a b

abbrev pub modules_heads : Option Ident → Option Ident → Option (Head × Head)
modules_heads None right = None
modules_heads (Some a) None = None
modules_heads (Some a) (Some b) = terms_heads a b

-- two classes become one, which has the smaller number: the pairs that wait then, two different heads, and the table
abbrev pub classes_pairs : Option ℕ → Option ℕ → List Node → List Pair
classes_pairs None right nodes = []
classes_pairs (Some k) None nodes = []
classes_pairs (Some k) (Some l) nodes = if nat_lt k l then modules_pairs (module_at k nodes) (module_at l nodes) else
    (if nat_lt l k then modules_pairs (module_at l nodes) (module_at k nodes) else [])

abbrev pub classes_heads : Option ℕ → Option ℕ → List Node → Option (Head × Head)
classes_heads None right nodes = None
classes_heads (Some k) None nodes = None
classes_heads (Some k) (Some l) nodes = if nat_lt k l then modules_heads (module_at k nodes) (module_at l nodes) else
    (if nat_lt l k then modules_heads (module_at l nodes) (module_at k nodes) else None)

abbrev pub classes_moved : Option ℕ → Option ℕ → List Node → List Node
classes_moved None right nodes = nodes
classes_moved (Some k) None nodes = nodes
classes_moved (Some k) (Some l) nodes = if nat_lt k l then moved l k nodes else
    (if nat_lt l k then moved k l nodes else nodes)

-- the sides of each equation, those of the first one last
abbrev pub stated_pairs : List Equation → List Pair
stated_pairs [] = []
stated_pairs (e ∷ es) = stated_pairs es ++ record { one = e.left; other = e.right } ∷ []

-- modules of one class have one head, and their fills at one hole are of one class
pub record IsEven (nodes : List Node) : Type 0 where
  pub heads : (u v : OfUnit) (m n : Text) (k : ℕ) → In nodes (Module u m) k → In nodes (Module v n) k
      → ((out-Unit u).component ≡ (out-Unit v).component) × (m ≡ n)
  pub fills : (u v : OfUnit) (m n h : Text) (k p q : ℕ) (i j : Ident) → In nodes (Module u m) k
      → In nodes (Module v n) k
      → found h (out-Unit u).fills ≡ Some i → found h (out-Unit v).fills ≡ Some j → class_at i nodes ≡ Some p
      → class_at j nodes ≡ Some q → p ≡ q

-- a closed table of the equations
pub record IsSettled (es : List Equation) (nodes : List Node) : Type 0 where
  pub joined : IsJoined es nodes
  pub closed : IsEven nodes

-- closing ends at a closed table, or at two different heads of one class
abbrev pub ClosesTo : List Equation → List Node → Option (Head × Head) → Type 0
ClosesTo es nodes None = IsSettled es nodes
ClosesTo es nodes (Some heads) = HasHeads es heads.0 heads.1
