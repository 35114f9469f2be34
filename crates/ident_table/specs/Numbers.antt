-- What numbers of a table stand for.
use Rattle.std.specs.Prelude.{◌≡◌, ℕ, ◌<◌, List, [], ◌∷◌, ◌++◌, map, get_or, slice_get, Some}
use Rattle.bp_base.specs.declared.ident.Ident.{Ident}
use Rattle.bp_base.specs.declared.ident.Ident.TheVariants.{Hole, Module}
use Rattle.bp_base.specs.declared.ident.Ident.TheViews.{roll-Unit}
use Rattle.bp_base.specs.declared.ident.Unit.{Unit as OfUnit, out-Unit}
use Rattle.bp_base.specs.declared.ident.Fill.{Fill}
use Rattle.bp_base.specs.Lists.{Among}
use Rattle.bp_base.specs.Texts.{Text}
use Rattle.ident_table.specs.declared.node.NumberFill.{NumberFill}
use Rattle.ident_table.specs.declared.node.IdentNode.{IdentNode}
use Rattle.ident_table.specs.declared.node.IdentNode.TheVariants as node

-- the identity of a number, and a hole without a name where there is none
abbrev pub ident_of : List Ident → ℕ → Ident
ident_of table n = get_or table n (Hole [])

abbrev pub fill_of : List Ident → NumberFill → Fill
fill_of table f = record { hole = f.hole; ident = ident_of table f.ident }

abbrev pub fills_of : List Ident → List NumberFill → List Fill
fills_of table fs = map (fill_of table) fs

abbrev pub module_of : List Ident → Text → List NumberFill → Text → Ident
module_of table c fs m = Module (roll-Unit (record { component = c; fills = fills_of table fs })) m

-- the identity that a node is
abbrev pub node_of : List Ident → IdentNode → Ident
node_of table (node.Hole n) = Hole n
node_of table (node.Module c fs m) = module_of table c fs m

-- the identities of nodes, each of which refers to those before it
abbrev pub idents_of : List Ident → List IdentNode → List Ident
idents_of done [] = done
idents_of done (x ∷ xs) = idents_of (done ++ node_of done x ∷ []) xs

-- the fills are at numbers below this one
abbrev pub AreFillsBelow : ℕ → List NumberFill → Type 0
AreFillsBelow n fs = (f : NumberFill) → Among f fs → f.ident < n

abbrev pub IsNodeBelow : ℕ → IdentNode → Type 0
IsNodeBelow n (node.Hole name) = Unit {0}
IsNodeBelow n (node.Module c fs m) = AreFillsBelow n fs

-- each identity stands once, after those that it is made of
pub record IsIdentTable (table : List Ident) : Type 0 where
  pub once : (i j : ℕ) (t : Ident) → slice_get table i ≡ Some t → slice_get table j ≡ Some t → i ≡ j
  pub below : (k : ℕ) (u : OfUnit) (m : Text) → slice_get table k ≡ Some (Module u m) → (f : Fill)
      → Among f (out-Unit u).fills → (j : ℕ) × (j < k) × (slice_get table j ≡ Some f.ident)

-- more stands at the end
abbrev pub Grows : List Ident → List Ident → Type 0
Grows old new = (more : List Ident) × (new ≡ old ++ more)
