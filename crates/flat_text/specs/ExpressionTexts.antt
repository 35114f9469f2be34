-- The bytes of expressions and declarations.
use Rattle.std.specs.Prelude.{ℕ, Bool, true, false, List, [], map, codes}
use Rattle.std.specs.List.{flat_map}
use Rattle.bp_base.specs.declared.entity.Assoc.{Assoc}
use Rattle.hs_core.specs.declared.tree.ConDecl.{ConDecl}
use Rattle.hs_core.specs.declared.tree.FieldDecl.{FieldDecl}
use Rattle.hs_core.specs.declared.tree.Decl.{Decl}
use Rattle.hs_core.specs.declared.tree.Exp.{Exp}
use Rattle.hs_core.specs.declared.tree.Choice.{Choice}
use Rattle.hs_core.specs.declared.tree.Guard.{Guard}
use Rattle.hs_core.specs.declared.tree.Alt.{Alt}
use Rattle.flat_text.specs.declared.expression.Sign.{Sign}
use Rattle.flat_text.specs.declared.expression.Sign.TheVariants as n
use Rattle.flat_text.specs.declared.name.Place.{Place}
use Rattle.flat_text.specs.Marks.{written, word_text}
use Rattle.flat_text.specs.ExpressionMarks.{exp_marks, decl_marks, guard_marks, alt_marks, guarded_marks, field_marks}
use Rattle.flat_text.specs.ExpressionMarks.{con_decl_marks, data_word, fixity_word}
use Rattle.flat_text.specs.Texts.{led_text, bare_text}

-- an expression at a place
unfoldable pub exp_text : Place → Exp → List ℕ
exp_text place exp = written (exp_marks exp place)

abbrev pub decl_text : Decl → List ℕ
decl_text decl = written (decl_marks decl)

abbrev pub alt_text : Alt → List ℕ
alt_text alt = written (alt_marks alt)

abbrev pub guard_text : Guard → List ℕ
guard_text guard = written (guard_marks guard)

abbrev pub choice_text : Sign → Choice → List ℕ
choice_text sign choice = written (guarded_marks sign choice)

-- parts, the first with one text before it, each further one with another
unfoldable pub exps_text : Place → List ℕ → List ℕ → List Exp → List ℕ
exps_text place lead by exps = led_text lead by (map (exp_text place) exps)

unfoldable pub decls_text : List ℕ → List ℕ → List Decl → List ℕ
decls_text lead by decls = led_text lead by (map decl_text decls)

unfoldable pub alts_text : List Alt → List ℕ
alts_text alts = led_text [] (codes "; ") (map alt_text alts)

unfoldable pub guards_text : List Guard → List ℕ
guards_text guards = led_text (codes " | ") (codes ", ") (map guard_text guards)

-- choices, one behind the other
unfoldable pub choices_text : Sign → List Choice → List ℕ
choices_text sign choices = flat_map (choice_text sign) choices

unfoldable pub names_text : List ℕ → List ℕ → List (List ℕ) → List ℕ
names_text lead by names = led_text lead by (map bare_text names)

unfoldable pub fields_text : List FieldDecl → List ℕ
fields_text fields = led_text (codes " ") (codes " ") (map (λ (field : FieldDecl). written (field_marks field)) fields)

unfoldable pub cons_text : List ConDecl → List ℕ
cons_text cons = led_text (codes " = ") (codes " | ") (map (λ (con : ConDecl). written (con_decl_marks con)) cons)

-- a brace, where one is wanted; `!`; the words of declarations; a sign with spaces
abbrev pub brace_text : Bool → List ℕ
brace_text true = codes "}"
brace_text false = []

abbrev pub strict_text : Bool → List ℕ
strict_text true = codes "!"
strict_text false = []

abbrev pub sign_text : Sign → List ℕ
sign_text n.Equals = codes " = "
sign_text n.Arrow = codes " -> "

abbrev pub data_text : Bool → List ℕ
data_text is_new = word_text (data_word is_new)

abbrev pub fixity_text : Assoc → List ℕ
fixity_text assoc = word_text (fixity_word assoc)
