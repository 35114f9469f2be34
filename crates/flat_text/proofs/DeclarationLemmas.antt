-- The bytes of declarations without expressions.
use Rattle.std.proofs.Common.{◌≡◌, ℕ, Bool, true, false, List, [], ◌∷◌, ◌++◌, refl, ap, ◌∙◌}
use Rattle.std.specs.Prelude.{map, codes}
use Rattle.std.specs.Fmt.{decimal}
use Rattle.bp_base.specs.declared.entity.Assoc.{Assoc}
use Rattle.bp_base.specs.declared.entity.Assoc.TheVariants as s
use Rattle.bp_base.specs.declared.entity.Fixity.{Fixity}
use Rattle.hs_tokens.specs.declared.terminal.Terminal.TheVariants as t
use Rattle.hs_tokens.specs.declared.word.Word.TheVariants as w
use Rattle.hs_core.specs.declared.tree.Written.{Written}
use Rattle.hs_core.specs.declared.tree.ConDecl.{ConDecl}
use Rattle.hs_core.specs.declared.tree.FieldDecl.{FieldDecl}
use Rattle.flat_text.specs.declared.name.Place.TheVariants as p
use Rattle.flat_text.specs.Marks.{Mark, Marks, space, keyword, written, led, spaced}
use Rattle.flat_text.specs.Names.{bare_marks, con_marks, bare_op}
use Rattle.flat_text.specs.Texts.{bare_text, bare_op_text, led_text}
use Rattle.flat_text.specs.TypeMarks.{type_marks}
use Rattle.flat_text.specs.PatternMarks.{integer_mark}
use Rattle.flat_text.specs.ExpressionMarks.{signed, field_marks, con_decl_marks, data_word, data_marks, synonym_marks}
use Rattle.flat_text.specs.ExpressionMarks.{type_sig_marks, fixity_word, fixity_marks}
use Rattle.flat_text.specs.ExpressionTexts.{names_text, fields_text, cons_text, strict_text, data_text, fixity_text}
use Rattle.flat_text.proofs.TextLemmas.{written_append, written_parts, written_bare, written_con, written_bare_op}
use Rattle.flat_text.proofs.TextLemmas.{space_is}

-- a sign with spaces
pub equals_is : written (signed t.Equals) ≡ codes " = "
unfolding written
equals_is = refl

pub bar_is : written (signed t.Bar) ≡ codes " | "
unfolding written
bar_is = refl

pub double_colon_is : written (signed t.DoubleColon) ≡ codes " :: "
unfolding written
double_colon_is = refl

-- names with something before each
bare_each : (g : List ℕ → Marks) → ((name : List ℕ) → written (g name) ≡ bare_text name) → (names : List (List ℕ))
    → (lead by : List ℕ) → led_text lead by (map (λ name. written (g name)) names) ≡ led_text lead by
    (map bare_text names)
bare_each g is [] lead by = refl
bare_each g is (name ∷ names) lead by = λ i. lead ++ (is name i ++ bare_each g is names by by i)

pub led_names : (g : List ℕ → Marks) → ((name : List ℕ) → written (g name) ≡ bare_text name) → (lead by : Marks)
    → (lead' by' : List ℕ) → written lead ≡ lead' → written by ≡ by' → (names : List (List ℕ))
    → written (led lead by (map g names)) ≡ names_text lead' by' names
unfolding names_text
led_names g is lead by lead' by' e f names =
    written_parts lead by lead' by' e f g names ∙ bare_each g is names lead' by'

abbrev bang : Marks
bang = Mark.word (t.VarSym (codes "!")) ∷ []

bang_is : written bang ≡ codes "!"
unfolding written
bang_is = refl

pub text_field : (field : FieldDecl)
    → written (field_marks field) ≡ strict_text field.strict ++ written (type_marks field.ty p.Atom)
text_field field = by field.strict field.ty
  where
    by : (strict : Bool) (ty : Written) → written (field_marks (record { strict = strict; ty = ty }))
        ≡ strict_text strict ++ written (type_marks ty p.Atom)
    by true ty = written_append bang (type_marks ty p.Atom) ∙ ap (λ v. v ++ written (type_marks ty p.Atom)) bang_is
    by false ty = refl

pub text_con : (con : ConDecl) → written (con_decl_marks con) ≡ bare_text con.occ ++ fields_text con.fields
unfolding fields_text
text_con con =
    written_append (con_marks con.occ) (spaced (map field_marks con.fields))
    ∙ (λ i. written_con con.occ i
    ++ written_parts (space ∷ []) (space ∷ []) (codes " ") (codes " ") space_is space_is field_marks con.fields i)

led_cons : (cons : List ConDecl) → written (led (signed t.Equals) (signed t.Bar) (map con_decl_marks cons)) ≡ cons_text
    cons
unfolding cons_text
led_cons cons = written_parts (signed t.Equals) (signed t.Bar) (codes " = ") (codes " | ") equals_is bar_is
    con_decl_marks cons

spaced_names : (names : List (List ℕ)) → written (spaced (map bare_marks names)) ≡ names_text (codes " ") (codes " ")
    names
spaced_names names = led_names bare_marks written_bare (space ∷ []) (space ∷ []) (codes " ") (codes " ") space_is
    space_is names

-- behind a word and a space
pub behind_word : (word' : _) (ms : Marks) → written (keyword word' ∷ space ∷ ms)
    ≡ written (keyword word' ∷ []) ++ (codes " " ++ written ms)
behind_word word' ms = written_append (keyword word' ∷ []) (space ∷ ms) ∙ ap (λ v. written (keyword word' ∷ []) ++ v)
    (behind_space ms)
  where
    behind_space : (ms : Marks) → written (space ∷ ms) ≡ codes " " ++ written ms
    behind_space ms = written_append (space ∷ []) ms ∙ ap (λ v. v ++ written ms) space_is

data_word_is : (is_new : Bool) → written (keyword (data_word is_new) ∷ []) ≡ data_text is_new
unfolding written
data_word_is true = refl
data_word_is false = refl

pub text_data : (occ : List ℕ)
    (is_new : Bool) (params : List (List ℕ)) (cons : List ConDecl)
    → written (data_marks occ is_new params cons)
    ≡ data_text is_new ++ (codes " " ++ (bare_text occ ++ (names_text (codes " ") (codes " ") params
    ++ cons_text cons)))
text_data occ is_new params cons =
    behind_word (data_word is_new) _
    ∙ (λ i. data_word_is is_new i ++ (codes " " ++ written_append (con_marks occ)
    (spaced (map bare_marks params) ++ led (signed t.Equals) (signed t.Bar) (map con_decl_marks cons)) i))
    ∙ (λ i. data_text is_new ++ (codes " " ++ (written_con occ i
    ++ written_append (spaced (map bare_marks params)) (led (signed t.Equals) (signed t.Bar)
    (map con_decl_marks cons)) i)))
    ∙ (λ i. data_text is_new ++ (codes " " ++ (bare_text occ ++ (spaced_names params i ++ led_cons cons i))))

type_word_is : written (keyword w.Type ∷ []) ≡ codes "type"
unfolding written
type_word_is = refl

pub text_synonym : (occ : List ℕ) (params : List (List ℕ)) (body : Written) → written (synonym_marks occ params body)
    ≡ codes "type " ++ (bare_text occ ++ (names_text (codes " ") (codes " ") params
    ++ (codes " = " ++ written (type_marks body p.Whole))))
text_synonym occ params body =
    behind_word w.Type _
    ∙ (λ i. type_word_is i ++ (codes " " ++ written_append (con_marks occ)
    (spaced (map bare_marks params) ++ (signed t.Equals ++ type_marks body p.Whole)) i))
    ∙ (λ i. codes "type " ++ (written_con occ i
    ++ written_append (spaced (map bare_marks params)) (signed t.Equals ++ type_marks body p.Whole) i))
    ∙ (λ i. codes "type " ++ (bare_text occ ++ (spaced_names params i
    ++ written_append (signed t.Equals) (type_marks body p.Whole) i)))
    ∙ (λ i. codes "type " ++ (bare_text occ ++ (names_text (codes " ") (codes " ") params
    ++ (equals_is i ++ written (type_marks body p.Whole)))))

pub text_type_sig : (occ : List ℕ) (ty : Written)
    → written (type_sig_marks occ ty) ≡ bare_text occ ++ (codes " :: " ++ written (type_marks ty p.Whole))
text_type_sig occ ty =
    written_append (bare_marks occ) (signed t.DoubleColon ++ type_marks ty p.Whole)
    ∙ (λ i. written_bare occ i ++ written_append (signed t.DoubleColon) (type_marks ty p.Whole) i)
    ∙ (λ i. bare_text occ ++ (double_colon_is i ++ written (type_marks ty p.Whole)))

fixity_word_is : (assoc : Assoc) → written (keyword (fixity_word assoc) ∷ []) ≡ fixity_text assoc
unfolding written
fixity_word_is s.Left = refl
fixity_word_is s.Right = refl
fixity_word_is s.Neither = refl

level_is : (level : ℕ) (ms : Marks) → written (integer_mark level ∷ space ∷ ms) ≡ decimal level
    ++ (codes " " ++ written ms)
unfolding written
level_is level ms = refl

pub text_fixity : (occ : List ℕ) (fixity : Fixity) → written (fixity_marks occ fixity)
    ≡ fixity_text fixity.assoc ++ (codes " " ++ (decimal fixity.level ++ (codes " " ++ bare_op_text occ)))
text_fixity occ fixity =
    behind_word (fixity_word fixity.assoc) (integer_mark fixity.level ∷ space ∷ bare_op occ)
    ∙ (λ i. fixity_word_is fixity.assoc i ++ (codes " " ++ level_is fixity.level (bare_op occ) i))
    ∙ ap (λ v. fixity_text fixity.assoc ++ (codes " " ++ (decimal fixity.level ++ (codes " " ++ v))))
    (written_bare_op occ)

pub ruleset declaration_texts = (text_field, text_con, text_data, text_synonym, text_type_sig, text_fixity)
