-- The bytes of marks, form by form.
use Rattle.std.proofs.Common.{◌≡◌, ℕ, zero, suc, Bool, true, false, List, [], ◌∷◌, ◌++◌, length, refl, sym, ap, ◌∙◌}
use Rattle.std.proofs.Common.{append_assoc}
use Rattle.std.specs.Prelude.{map, codes, replicate, ◌-◌, not}
use Rattle.std.proofs.lemmas.List.{append-nil}
use Rattle.bp_base.specs.declared.ty.OrigName.{OrigName}
use Rattle.hs_tokens.specs.declared.terminal.Terminal.TheVariants as t
use Rattle.flat_lex.specs.Pieces.{text_of}
use Rattle.flat_text.specs.declared.name.NameForm.{NameForm}
use Rattle.flat_text.specs.declared.name.NameForm.TheVariants as f
use Rattle.flat_text.specs.Marks.{Mark, Marks, piece_of, pieces_of, written, space, bracketed, bracketed_if, listed}
use Rattle.flat_text.specs.Marks.{led}
use Rattle.flat_text.specs.Names.{form_of, flat_form, flat_name, bare_by, bare_marks, con_by, con_marks, bare_op_by}
use Rattle.flat_text.specs.Names.{bare_op, flat_by}
use Rattle.flat_text.specs.Names.{flat_marks, global_by, global_marks, global_op_by, global_op}
use Rattle.flat_text.specs.Texts.{is_symbol, open_text, close_text, enclosed, bare_text, bare_op_text, flat_text}
use Rattle.flat_text.specs.Texts.{global_text_by, global_text, global_op_text_by, global_op_text, ticked}
use Rattle.flat_text.specs.Texts.{led_text}

-- bytes that were pushed one after another
pub pushed_two : (o p q a b : List ℕ) → p ≡ o ++ a → q ≡ p ++ b → q ≡ o ++ (a ++ b)
pushed_two o p q a b e f = f ∙ ap (λ w. w ++ b) e ∙ append_assoc o a b

pub pushed_three : (o p q r a b c : List ℕ) → p ≡ o ++ a → q ≡ p ++ b → r ≡ q ++ c → r ≡ o ++ (a ++ (b ++ c))
pushed_three o p q r a b c e f g = pushed_two o p r a (b ++ c) e (pushed_two p q r b c f g)

pub pushed_four : (o p q r s a b c d : List ℕ) → p ≡ o ++ a → q ≡ p ++ b → r ≡ q ++ c → s ≡ r ++ d
    → s ≡ o ++ (a ++ (b ++ (c ++ d)))
pushed_four o p q r s a b c d e f g h = pushed_two o p s a (b ++ (c ++ d)) e (pushed_three p q r s b c d f g h)

pub pushed_five : (o p q r s u a b c d e : List ℕ) → p ≡ o ++ a → q ≡ p ++ b → r ≡ q ++ c → s ≡ r ++ d → u ≡ s ++ e
    → u ≡ o ++ (a ++ (b ++ (c ++ (d ++ e))))
pushed_five o p q r s u a b c d e f g h i j = pushed_two o p u a (b ++ (c ++ (d ++ e))) f
    (pushed_four p q r s u b c d e g h i j)

-- the bytes of joined marks
pub written_append : (xs ys : Marks) → written (xs ++ ys) ≡ written xs ++ written ys
unfolding written
written_append [] ys = refl
written_append (m ∷ xs) ys =
    ap (λ rest. (piece_of m).text ++ rest) (written_append xs ys)
    ∙ sym (append_assoc (piece_of m).text (text_of (pieces_of xs)) (text_of (pieces_of ys)))

pub written_bracketed : (ms : Marks) → written (bracketed ms) ≡ codes "(" ++ (written ms ++ codes ")")
unfolding written
written_bracketed ms = ap (λ rest. 40 ∷ rest) (written_append ms (Mark.word t.RightParen ∷ []))

pub written_listed : (ms : Marks) → written (listed ms) ≡ codes "[" ++ (written ms ++ codes "]")
unfolding written
written_listed ms = ap (λ rest. 91 ∷ rest) (written_append ms (Mark.word t.RightBracket ∷ []))

pub written_if : (b : Bool) (ms : Marks) → written (bracketed_if b ms) ≡ open_text b ++ (written ms ++ close_text b)
written_if true ms = written_bracketed ms
written_if false ms = sym (append-nil (written ms))

-- the bytes of parts
pub written_led : (lead by : Marks) (parts : List Marks)
    → written (led lead by parts) ≡ led_text (written lead) (written by) (map written parts)
unfolding written
written_led lead by [] = refl
written_led lead by (part ∷ parts) =
    written_append lead (part ++ led by by parts)
    ∙ ap (λ rest. written lead ++ rest)
    (written_append part (led by by parts) ∙ ap (λ rest. written part ++ rest) (written_led by by parts))

-- the bytes of parts that are made of a list
parts_by : {A : Type 0} (lead by : List ℕ) (g : A → Marks) (l : List A)
    → led_text lead by (map written (map g l)) ≡ led_text lead by (map (λ x. written (g x)) l)
parts_by lead by g [] = refl
parts_by lead by g (x ∷ l) = ap (λ rest. lead ++ (written (g x) ++ rest)) (parts_by by by g l)

pub written_parts : {A : Type 0} (lead by : Marks) (lead' by' : List ℕ) → written lead ≡ lead' → written by ≡ by'
    → (g : A → Marks) (l : List A) → written (led lead by (map g l)) ≡ led_text lead' by' (map (λ x. written (g x)) l)
written_parts lead by lead' by' e f g l =
    written_led lead by (map g l) ∙ parts_by (written lead) (written by) g l
    ∙ (λ i. led_text (e i) (f i) (map (λ x. written (g x)) l))

-- the bytes that stand between parts
pub nothing_is : written [] ≡ []
unfolding written
nothing_is = refl

pub space_is : written (space ∷ []) ≡ codes " "
unfolding written
space_is = refl

pub comma_is : written (Mark.word t.Comma ∷ space ∷ []) ≡ codes ", "
unfolding written
comma_is = refl

pub semicolon_is : written (Mark.word t.Semicolon ∷ space ∷ []) ≡ codes "; "
unfolding written
semicolon_is = refl

-- names
bare_by_text : (form : NameForm) (name : List ℕ) → written (bare_by form name) ≡ enclosed (is_symbol form) name
unfolding written
bare_by_text f.Con name = refl
bare_by_text f.VarSym name = refl
bare_by_text f.ConSym name = refl
bare_by_text f.Var name = refl
bare_by_text f.Colon name = refl
bare_by_text f.Arrow name = refl
bare_by_text f.List name = refl
bare_by_text f.Tuple name = refl

pub written_bare : (name : List ℕ) → written (bare_marks name) ≡ bare_text name
unfolding bare_marks bare_text
written_bare name = bare_by_text (form_of name) name

con_by_text : (form : NameForm) (name : List ℕ) → written (con_by form name) ≡ enclosed (is_symbol form) name
unfolding written
con_by_text f.Con name = refl
con_by_text f.VarSym name = refl
con_by_text f.ConSym name = refl
con_by_text f.Var name = refl
con_by_text f.Colon name = refl
con_by_text f.Arrow name = refl
con_by_text f.List name = refl
con_by_text f.Tuple name = refl

pub written_con : (name : List ℕ) → written (con_marks name) ≡ bare_text name
unfolding con_marks bare_text
written_con name = con_by_text (form_of name) name

bare_op_by_text : (form : NameForm) (name : List ℕ) → written (bare_op_by form name) ≡ ticked (not (is_symbol form))
    name
unfolding written
bare_op_by_text f.Con name = refl
bare_op_by_text f.VarSym name = refl
bare_op_by_text f.ConSym name = refl
bare_op_by_text f.Var name = refl
bare_op_by_text f.Colon name = refl
bare_op_by_text f.Arrow name = refl
bare_op_by_text f.List name = refl
bare_op_by_text f.Tuple name = refl

pub written_bare_op : (name : List ℕ) → written (bare_op name) ≡ bare_op_text name
unfolding bare_op bare_op_text
written_bare_op name = bare_op_by_text (form_of name) name

flat_by_text : (form : NameForm) (name : List ℕ) → written (flat_by form name) ≡ enclosed (is_symbol form) name
unfolding written
flat_by_text f.Con name = refl
flat_by_text f.VarSym name = refl
flat_by_text f.ConSym name = refl
flat_by_text f.Var name = refl
flat_by_text f.Colon name = refl
flat_by_text f.Arrow name = refl
flat_by_text f.List name = refl
flat_by_text f.Tuple name = refl

pub written_flat : (name : List ℕ) → written (flat_marks name) ≡ flat_text name
unfolding flat_marks flat_text
written_flat name = flat_by_text (flat_form false name) name

commas : (n : ℕ) → written (replicate n (Mark.word t.Comma)) ≡ replicate n 44
unfolding written
commas zero = refl
commas (suc n) = ap (λ rest. 44 ∷ rest) (commas n)

global_by_text : (form : NameForm) (occ flat : List ℕ) → written (global_by form occ flat) ≡ global_text_by form occ
    flat
unfolding written
global_by_text f.Con occ flat = flat_by_text f.Con flat
global_by_text f.VarSym occ flat = flat_by_text f.VarSym flat
global_by_text f.ConSym occ flat = flat_by_text f.ConSym flat
global_by_text f.Var occ flat = flat_by_text f.Var flat
global_by_text f.Colon occ flat = refl
global_by_text f.Arrow occ flat = refl
global_by_text f.List occ flat = refl
global_by_text f.Tuple occ flat =
    written_bracketed (replicate (length occ - 2) (Mark.word t.Comma))
    ∙ ap (λ rest. codes "(" ++ (rest ++ codes ")")) (commas (length occ - 2))

pub written_global : (n : OrigName) → written (global_marks n) ≡ global_text n
unfolding global_marks global_text
written_global n = global_by_text (form_of n.occ) n.occ (flat_name n)

global_op_by_text : (form : NameForm) (flat : List ℕ) → written (global_op_by form flat) ≡ global_op_text_by form flat
unfolding written
global_op_by_text f.Con flat = refl
global_op_by_text f.VarSym flat = refl
global_op_by_text f.ConSym flat = refl
global_op_by_text f.Var flat = refl
global_op_by_text f.Colon flat = refl
global_op_by_text f.Arrow flat = refl
global_op_by_text f.List flat = refl
global_op_by_text f.Tuple flat = refl

pub written_global_op : (n : OrigName) → written (global_op n) ≡ global_op_text n
unfolding global_op global_op_text
written_global_op n = global_op_by_text (form_of n.occ) (flat_name n)
