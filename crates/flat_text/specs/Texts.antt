-- The bytes of marks, form by form.
use Rattle.std.specs.Prelude.{ℕ, ◌-◌, Bool, true, false, not, ◌&&◌, List, [], ◌∷◌, ◌++◌, length, codes, replicate}
use Rattle.std.specs.Fmt.{decimal}
use Rattle.hs_lex.specs.Classes.{from_to}
use Rattle.flat_lex.specs.Literals.{char_bytes, gap_by, string_bytes}
use Rattle.bp_base.specs.declared.ty.OrigName.{OrigName}
use Rattle.flat_text.specs.declared.name.NameForm.{NameForm}
use Rattle.flat_text.specs.declared.name.NameForm.TheVariants as f
use Rattle.flat_text.specs.Names.{form_of, flat_form, flat_name}

abbrev pub is_symbol : NameForm → Bool
is_symbol f.VarSym = true
is_symbol f.ConSym = true
is_symbol _ = false

-- a bracket, where brackets are wanted; a backquote, where one is wanted
abbrev pub open_text : Bool → List ℕ
open_text true = codes "("
open_text false = []

abbrev pub close_text : Bool → List ℕ
close_text true = codes ")"
close_text false = []

abbrev pub tick_text : Bool → List ℕ
tick_text true = codes "`"
tick_text false = []

-- a name of a form, where a name stands and where an operator stands
abbrev pub enclosed : Bool → List ℕ → List ℕ
enclosed brackets name = open_text brackets ++ (name ++ close_text brackets)

abbrev pub ticked : Bool → List ℕ → List ℕ
ticked ticks name = tick_text ticks ++ (name ++ tick_text ticks)

unfoldable pub bare_text : List ℕ → List ℕ
bare_text name = enclosed (is_symbol (form_of name)) name

unfoldable pub bare_op_text : List ℕ → List ℕ
bare_op_text name = ticked (not (is_symbol (form_of name))) name

unfoldable pub flat_text : List ℕ → List ℕ
flat_text name = enclosed (is_symbol (flat_form false name)) name

abbrev pub tuple_text : List ℕ → List ℕ
tuple_text occ = codes "(" ++ (replicate (length occ - 2) 44 ++ codes ")")

-- a name by its form, what it is called where it is declared, and its flat name
abbrev pub global_text_by : NameForm → List ℕ → List ℕ → List ℕ
global_text_by f.Colon occ flat = codes "(:)"
global_text_by f.Arrow occ flat = codes "(->)"
global_text_by f.List occ flat = codes "[]"
global_text_by f.Tuple occ flat = tuple_text occ
global_text_by form occ flat = enclosed (is_symbol form) flat

unfoldable pub global_text : OrigName → List ℕ
global_text name = global_text_by (form_of name.occ) name.occ (flat_name name)

abbrev pub global_op_text_by : NameForm → List ℕ → List ℕ
global_op_text_by f.Colon flat = codes ":"
global_op_text_by form flat = ticked (not (is_symbol form)) flat

unfoldable pub global_op_text : OrigName → List ℕ
global_op_text name = global_op_text_by (form_of name.occ) (flat_name name)

-- parts, the first with one text before it, each further one with another
abbrev pub led_text : List ℕ → List ℕ → List (List ℕ) → List ℕ
led_text lead by [] = []
led_text lead by (part ∷ parts) = lead ++ (part ++ led_text by by parts)

-- `5` and `(-5)`
abbrev pub number_text : Bool → ℕ → List ℕ
number_text false value = decimal value
number_text true value = codes "(-" ++ (decimal value ++ codes ")")

-- a character that stands for itself, or behind a backslash alone
abbrev pub is_shown : ℕ → Bool
is_shown code = from_to 32 126 code

abbrev pub char_text : ℕ → List ℕ
char_text code = codes "'" ++ (char_bytes 39 code ++ codes "'")

abbrev pub string_text : List ℕ → List ℕ
string_text text = codes "\"" ++ (string_bytes text ++ codes "\"")

-- what keeps a digit apart from a number before it, and characters behind such a number or behind another
abbrev pub digit_gap : Bool → ℕ → List ℕ
digit_gap behind_number code = gap_by (behind_number && from_to 48 57 code)

abbrev pub codes_behind : Bool → List ℕ → List ℕ
codes_behind behind_number [] = []
codes_behind behind_number (code ∷ rest) = digit_gap behind_number code ++ (char_bytes 34 code
    ++ codes_behind (not (is_shown code)) rest)
