-- The table of terms, and joining of classes.
use Rattle.std.specs.Prelude.{ℕ, zero, suc, Bool, true, false, ◌&&◌, List, [], ◌∷◌, ◌++◌, map, Option, Some, None}
use Rattle.std.specs.Prelude.{if◌then◌else◌, nat_eq}
use Rattle.std.specs.Str.{bytes_eq}
use Rattle.bp_base.specs.declared.ident.Ident.{Ident}
use Rattle.bp_base.specs.declared.ident.Ident.TheVariants.{Hole, Module'}
use Rattle.bp_base.specs.declared.ident.Unit.{Unit as OfUnit, Unit'}
use Rattle.bp_base.specs.declared.ident.Ident.TheBlock.{end_of-Unit, more_of-Unit, Row_of-Fill, end_of-Fill}
use Rattle.bp_base.specs.declared.ident.Ident.TheBlock.{more_of-Fill}
use Rattle.bp_base.specs.Lists.{Among}
use Rattle.ident_table.specs.Parts.{terms_of}
use Rattle.hole_unify.specs.declared.equation.Equation.{Equation}

-- a term with the number of its class
pub record Node : Type 0 where
  pub ident : Ident
  pub class : ℕ

-- whether two terms are equal
abbrev mutual
  pub is_same : Ident → Ident → Bool
  is_same (Hole n) (Hole m) = bytes_eq n m
  is_same (Hole n) (Module' s r m) = false
  is_same (Module' s r m) (Hole n) = false
  is_same (Module' s (more_of-Unit u end_of-Unit) m) (Module' t (more_of-Unit v end_of-Unit) n) =
      bytes_eq m n && is_same_unit u v

  pub is_same_unit : OfUnit → OfUnit → Bool
  is_same_unit (Unit' c s r) (Unit' d t q) = bytes_eq c d && is_same_row r q

  pub is_same_row : {m n : _} → Row_of-Fill m → Row_of-Fill n → Bool
  is_same_row end_of-Fill end_of-Fill = true
  is_same_row end_of-Fill (more_of-Fill h i r) = false
  is_same_row (more_of-Fill h i r) end_of-Fill = false
  is_same_row (more_of-Fill h i r) (more_of-Fill k j q) = (bytes_eq h k && is_same i j) && is_same_row r q

abbrev pub is_module : Ident → Bool
is_module (Hole n) = false
is_module (Module' s r m) = true

-- the terms of the equations, and those below them
abbrev pub terms_in : List Equation → List Ident
terms_in [] = []
terms_in (e ∷ es) = terms_of e.left ++ (terms_of e.right ++ terms_in es)

-- the class of a term in the table
abbrev pub class_at : Ident → List Node → Option ℕ
class_at t [] = None
class_at t (x ∷ xs) = if is_same x.ident t then Some x.class else class_at t xs

-- one class is made of two
abbrev pub renumbered : ℕ → ℕ → ℕ → ℕ
renumbered from to class = if nat_eq class from then to else class

abbrev pub renumbered_node : ℕ → ℕ → Node → Node
renumbered_node from to x = record { ident = x.ident; class = renumbered from to x.class }

abbrev pub moved : ℕ → ℕ → List Node → List Node
moved from to nodes = map (renumbered_node from to) nodes

-- the identities of a table with their classes
abbrev pub nodes_of : List Ident → List ℕ → List Node
nodes_of [] ks = []
nodes_of (t ∷ ts) [] = []
nodes_of (t ∷ ts) (k ∷ ks) = record { ident = t; class = k } ∷ nodes_of ts ks

-- each identity of a table in a class of its own
abbrev pub upto : ℕ → List ℕ
upto zero = []
upto (suc n) = upto n ++ n ∷ []

-- the table has the terms of the equations and no others
pub record HasTerms (es : List Equation) (table : List Ident) : Type 0 where
  pub listed : (t : Ident) → Among t (terms_in es) → Among t table
  pub only : (t : Ident) → Among t table → Among t (terms_in es)
