-- Names in the flat text.
use Rattle.std.specs.Prelude.{ℕ, ◌-◌, Bool, true, false, ◌||◌, ◌==◌, List, [], ◌∷◌, ◌++◌, length, codes, replicate}
use Rattle.std.specs.Prelude.{if◌then◌else◌}
use Rattle.std.specs.Str.{bytes_eq}
use Rattle.bp_base.specs.declared.ident.Ident.{Ident}
use Rattle.bp_base.specs.declared.ident.Ident.TheVariants.{Hole, Module'}
use Rattle.bp_base.specs.declared.ident.Ident.TheBlock.{end_of-Unit, more_of-Unit}
use Rattle.bp_base.specs.declared.ident.Unit.{out-Unit}
use Rattle.bp_base.specs.declared.ty.OrigName.{OrigName}
use Rattle.hs_tokens.specs.declared.terminal.Terminal.{Terminal}
use Rattle.hs_tokens.specs.declared.terminal.Terminal.TheVariants as t
use Rattle.hs_lex.specs.Classes.{from_to}
use Rattle.flat_text.specs.declared.name.NameForm.{NameForm}
use Rattle.flat_text.specs.declared.name.NameForm.TheVariants as f
use Rattle.flat_text.specs.Marks.{Mark, Marks, bracketed}

-- what a name is, by its first byte
abbrev pub first_form : ℕ → NameForm
first_form b =
    if from_to 65 90 b then f.Con else (if from_to 97 122 b || b == 95 then f.Var
    else (if b == 58 then f.ConSym else (if b == 40 then f.Tuple else f.VarSym)))

abbrev pub plain_form : List ℕ → NameForm
plain_form [] = f.Var
plain_form (b ∷ bs) = first_form b

-- what a name is: one of those with a syntax of their own, or what begins so
abbrev pub form_of : List ℕ → NameForm
form_of text =
    if bytes_eq text (codes "[]") then f.List else (if bytes_eq text (codes "->") then f.Arrow
    else (if bytes_eq text (codes ":") then f.Colon else plain_form text))

-- what a flat name is: that of what stands behind its module's name, each part of which begins with a capital; whether
-- such a part has begun
abbrev pub flat_form : Bool → List ℕ → NameForm
flat_form inside [] = f.Con
flat_form true (b ∷ bs) = if b == 46 then flat_form false bs else flat_form true bs
flat_form false (b ∷ bs) = if from_to 65 90 b then flat_form true bs else first_form b

-- The flat name of a module is `U0.M`, where its unit is the component `U0`; that of `base`'s is `Prelude` alone.
abbrev pub unit_place : List ℕ → List ℕ → List ℕ
unit_place component name = if bytes_eq component (codes "base") then name else component ++ (codes "." ++ name)

abbrev pub place_of : Ident → List ℕ
place_of (Hole h) = h
place_of (Module' s (more_of-Unit u end_of-Unit) m) = unit_place (out-Unit u).component m

-- the flat name of what a module declares
abbrev pub flat_name : OrigName → List ℕ
flat_name n = place_of n.at ++ (codes "." ++ n.occ)

-- a variable's name alone, where a name stands: a symbol has brackets
abbrev pub bare_by : NameForm → List ℕ → Marks
bare_by f.VarSym name = bracketed (Mark.word (t.VarSym name) ∷ [])
bare_by f.ConSym name = bracketed (Mark.word (t.VarSym name) ∷ [])
bare_by _ name = Mark.word (t.Var name) ∷ []

unfoldable pub bare_marks : List ℕ → Marks
bare_marks name = bare_by (form_of name) name

-- the same of a constructor or a type
abbrev pub con_by : NameForm → List ℕ → Marks
con_by f.VarSym name = bracketed (Mark.word (t.ConSym name) ∷ [])
con_by f.ConSym name = bracketed (Mark.word (t.ConSym name) ∷ [])
con_by _ name = Mark.word (t.Con name) ∷ []

unfoldable pub con_marks : List ℕ → Marks
con_marks name = con_by (form_of name) name

-- a name alone, where an operator stands: a word has backquotes
abbrev pub quoted : Terminal → Marks
quoted name = Mark.word t.Backquote ∷ Mark.word name ∷ Mark.word t.Backquote ∷ []

abbrev pub bare_op_by : NameForm → List ℕ → Marks
bare_op_by f.Con name = quoted (t.Con name)
bare_op_by f.VarSym name = Mark.word (t.VarSym name) ∷ []
bare_op_by f.ConSym name = Mark.word (t.ConSym name) ∷ []
bare_op_by _ name = quoted (t.Var name)

unfoldable pub bare_op : List ℕ → Marks
bare_op name = bare_op_by (form_of name) name

-- a flat name, where a name stands: a symbol has brackets
abbrev pub flat_by : NameForm → List ℕ → Marks
flat_by f.Con name = Mark.word (t.Con name) ∷ []
flat_by f.VarSym name = bracketed (Mark.word (t.QVarSym name) ∷ [])
flat_by f.ConSym name = bracketed (Mark.word (t.ConSym name) ∷ [])
flat_by _ name = Mark.word (t.QVar name) ∷ []

unfoldable pub flat_marks : List ℕ → Marks
flat_marks name = flat_by (flat_form false name) name

-- what a module declares, where a name stands: one with a syntax of its own is written so, another by its flat name
abbrev pub global_by : NameForm → List ℕ → List ℕ → Marks
global_by f.Colon occ flat = bracketed (Mark.word t.Colon ∷ [])
global_by f.Arrow occ flat = bracketed (Mark.word t.Arrow ∷ [])
global_by f.List occ flat = Mark.word t.LeftBracket ∷ Mark.word t.RightBracket ∷ []
global_by f.Tuple occ flat = bracketed (replicate (length occ - 2) (Mark.word t.Comma))
global_by form occ flat = flat_by form flat

unfoldable pub global_marks : OrigName → Marks
global_marks n = global_by (form_of n.occ) n.occ (flat_name n)

-- the same where an operator stands
abbrev pub global_op_by : NameForm → List ℕ → Marks
global_op_by f.Con flat = quoted (t.Con flat)
global_op_by f.VarSym flat = Mark.word (t.QVarSym flat) ∷ []
global_op_by f.ConSym flat = Mark.word (t.ConSym flat) ∷ []
global_op_by f.Colon flat = Mark.word t.Colon ∷ []
global_op_by _ flat = quoted (t.QVar flat)

unfoldable pub global_op : OrigName → Marks
global_op n = global_op_by (form_of n.occ) (flat_name n)
