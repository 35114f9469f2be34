-- Written types in the flat text (Haskell 2010 Report, section 4.1.2).
use Rattle.std.specs.Prelude.{ℕ, ◌-◌, Bool, true, false, ◌&&◌, ◌==◌, List, [], ◌∷◌, ◌++◌, length, codes}
use Rattle.std.specs.Prelude.{if◌then◌else◌}
use Rattle.std.specs.List.{flat_map}
use Rattle.std.specs.Str.{bytes_eq}
use Rattle.hs_tokens.specs.declared.terminal.Terminal.TheVariants as t
use Rattle.hs_core.specs.declared.tree.Written.{Written}
use Rattle.hs_core.specs.declared.tree.Written.TheVariants.{WVar, WCon, WApp'}
use Rattle.hs_core.specs.declared.tree.Written.TheBlock.{end_of-Written, more_of-Written}
use Rattle.flat_text.specs.declared.types.Applied.{Applied}
use Rattle.flat_text.specs.declared.types.Applied.TheVariants as a
use Rattle.flat_text.specs.declared.types.Head.{Head}
use Rattle.flat_text.specs.declared.types.Head.TheVariants as h
use Rattle.flat_text.specs.declared.name.Place.{Place}
use Rattle.flat_text.specs.declared.name.Place.TheVariants as p
use Rattle.flat_text.specs.Marks.{Mark, Marks, space, bracketed, bracketed_if, listed}
use Rattle.flat_text.specs.Names.{global_marks}

-- whether brackets stand around an application, and around what is less than one
abbrev pub at_atom : Place → Bool
at_atom p.Atom = true
at_atom _ = false

abbrev pub below_whole : Place → Bool
below_whole p.Whole = false
below_whole _ = true

-- what a type is an application of, by its name
abbrev pub is_tuple_name : List ℕ → Bool
is_tuple_name (b ∷ c ∷ rest) = b == 40 && c == 44
is_tuple_name _ = false

abbrev pub head_of : List ℕ → Head
head_of occ =
    if bytes_eq occ (codes "[]") then h.List else (if bytes_eq occ (codes "->") then h.Arrow
    else (if is_tuple_name occ then h.Tuple (length occ - 2) else h.Other))

-- how an application is written, by its head and by how many arguments it has before the last one
abbrev pub applied_form : Head → ℕ → Applied
applied_form h.List n = if n == 0 then a.List else a.Other
applied_form h.Arrow n = if n == 1 then a.Arrow else a.Other
applied_form (h.Tuple commas) n = if n == commas then a.Tuple else a.Other
applied_form h.Other n = a.Other

-- how a part of a type is written at each place
abbrev pub Placed : Type 0
Placed = Place → Marks

abbrev pub list_marks : Placed → Marks
list_marks last = listed (last p.Whole)

abbrev pub arrow_marks : List Placed → Placed → Marks
arrow_marks args last =
    flat_map (λ (arg : Placed). arg p.Operand ++ space ∷ Mark.word t.Arrow ∷ space ∷ []) args ++ last p.Whole

abbrev pub tuple_marks : List Placed → Placed → Marks
tuple_marks args last =
    bracketed (flat_map (λ (arg : Placed). arg p.Whole ++ Mark.word t.Comma ∷ space ∷ []) args ++ last p.Whole)

abbrev pub application_marks : Marks → List Placed → Placed → Marks
application_marks name args last =
    name ++ (flat_map (λ (arg : Placed). space ∷ arg p.Atom) args ++ space ∷ last p.Atom)

abbrev pub applied_marks : Applied → Marks → List Placed → Placed → Placed
applied_marks a.List name args last place = list_marks last
applied_marks a.Arrow name args last place = bracketed_if (below_whole place) (arrow_marks args last)
applied_marks a.Tuple name args last place = tuple_marks args last
applied_marks a.Other name args last place = bracketed_if (at_atom place) (application_marks name args last)

-- a type as an application of a head, which has a name, to arguments, and how it is written
pub record TypeText : Type 0 where
  pub head : Head
  pub name : Marks
  pub args : List Placed
  pub text : Placed

abbrev pub without_args : Head → Marks → TypeText
without_args head name = record { head = head; name = name; args = []; text = λ place. name }

abbrev pub one_more_arg : TypeText → Placed → TypeText
one_more_arg fun last = record {
  head = fun.head;
  name = fun.name;
  args = fun.args ++ last ∷ [];
  text = λ place. applied_marks (applied_form fun.head (length fun.args)) fun.name fun.args last place;
}

abbrev pub type_text : Written → TypeText
type_text (WVar name) = without_args h.Other (Mark.word (t.Var name) ∷ [])
type_text (WCon name) = without_args (head_of name.occ) (global_marks name)
type_text (WApp' s (more_of-Written f end_of-Written) z (more_of-Written x end_of-Written)) =
    one_more_arg (type_text f) (type_text x).text

-- a type at a place
unfoldable pub type_marks : Written → Place → Marks
type_marks ty place = (type_text ty).text place
