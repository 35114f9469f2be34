-- The equations of written types, at the types as `src/` sees them.
use Rattle.std.proofs.Common.{◌≡◌, ℕ, ◌+◌, List, [], ◌∷◌, ◌++◌, length, refl, sym, ap, ◌∙◌}
use Rattle.std.proofs.Common.{append_assoc}
use Rattle.std.specs.Prelude.{codes}
use Rattle.std.specs.List.{flat_map}
use Rattle.std.proofs.lemmas.List.{append-nil, length-append}
use Rattle.bp_base.specs.Texts.{Text}
use Rattle.bp_base.specs.declared.ty.OrigName.{OrigName}
use Rattle.hs_tokens.specs.declared.terminal.Terminal.TheVariants as t
use Rattle.hs_core.specs.declared.tree.Written.{Written}
use Rattle.hs_core.specs.declared.tree.Written.TheVariants.{WVar, WCon, WApp}
use Rattle.hs_core.specs.declared.tree.Written.TheBlock.{hidden-the_row-Written-0}
use Rattle.flat_text.specs.declared.types.Applied.{Applied}
use Rattle.flat_text.specs.declared.types.Applied.TheVariants as a
use Rattle.flat_text.specs.declared.types.Head.TheVariants as h
use Rattle.flat_text.specs.declared.name.Place.{Place}
use Rattle.flat_text.specs.declared.name.Place.TheVariants as p
use Rattle.flat_text.specs.Marks.{Mark, Marks, space, written}
use Rattle.flat_text.specs.Texts.{open_text, close_text, global_text}
use Rattle.flat_text.specs.TypeMarks.{TypeText, Placed, one_more_arg, type_text, type_marks, applied_form, at_atom}
use Rattle.flat_text.specs.TypeMarks.{head_of}
use Rattle.flat_text.specs.TypeMarks.{applied_marks, application_marks, arrow_marks, below_whole}
use Rattle.flat_text.specs.TypeTexts.{head_in, arg_count, args_text, before_text, head_text, application_text}
use Rattle.flat_text.proofs.TextLemmas.{written_append, written_bracketed, written_listed, written_if, written_global}
use denote.Hole.Carrier.{hidden}

-- an application is its function with one more argument
pub at_WApp : (g x : Written) → type_text (WApp g x) ≡ one_more_arg (type_text g) (type_text x).text
unfolding hidden-the_row-Written-0 hidden
at_WApp g x = refl

pub head_WVar : (name : Text) → head_in (WVar name) ≡ h.Other
unfolding head_in
head_WVar name = refl

pub head_WCon : (name : OrigName) → head_in (WCon name) ≡ head_of name.occ
unfolding head_in
head_WCon name = refl

pub head_WApp : (g x : Written) → head_in (WApp g x) ≡ head_in g
unfolding head_in
head_WApp g x = ap (λ (ty : TypeText). ty.head) (at_WApp g x)

pub args_WVar : (name : Text) → arg_count (WVar name) ≡ 0
unfolding arg_count
args_WVar name = refl

pub args_WCon : (name : OrigName) → arg_count (WCon name) ≡ 0
unfolding arg_count
args_WCon name = refl

pub args_WApp : (g x : Written) → arg_count (WApp g x) ≡ arg_count g + 1
unfolding arg_count
args_WApp g x =
    ap (λ (ty : TypeText). length ty.args) (at_WApp g x) ∙ length-append (type_text g).args ((type_text x).text ∷ [])

pub ruleset type_equations = (head_WVar, head_WCon, head_WApp, args_WVar, args_WCon, args_WApp)

-- the bytes of each form

-- mapping and joining, one part more
one_more : {A : Type 0} (g : A → List ℕ) (xs : List A) (x : A) → flat_map g (xs ++ x ∷ []) ≡ flat_map g xs ++ g x
one_more g [] x = append-nil (g x)
one_more g (y ∷ xs) x = ap (λ rest. g y ++ rest) (one_more g xs x) ∙ sym (append_assoc (g y) (flat_map g xs) (g x))

-- the bytes of arguments
written_args : (g : Placed → Marks) (h : Placed → List ℕ) → ((arg : Placed) → written (g arg) ≡ h arg)
    → (args : List Placed)
    → written (flat_map g args) ≡ flat_map h args
unfolding written
written_args g h is [] = refl
written_args g h is (arg ∷ args) =
    written_append (g arg) (flat_map g args) ∙ (λ i. is arg i ++ written_args g h is args i)

pub text_WVar : (name : Text) (place : Place) → written (type_marks (WVar name) place) ≡ name
unfolding written type_marks
text_WVar name place = append-nil name

pub text_WCon : (name : OrigName) (place : Place)
    → written (type_marks (WCon name) place) ≡ global_text name
unfolding type_marks
text_WCon name place = written_global name

-- an application in its form
applied_is : (g x : Written) (place : Place) (form : Applied)
    → applied_form (head_in g) (arg_count g) ≡ form
    → type_marks (WApp g x) place ≡ applied_marks form (type_text g).name (type_text g).args (type_text x).text place
unfolding type_marks head_in arg_count
applied_is g x place form is =
    ap (λ (ty : TypeText). ty.text place) (at_WApp g x)
    ∙ ap (λ (as_form : Applied). applied_marks as_form (type_text g).name (type_text g).args (type_text x).text place)
    is

at_place : (x : Written) (place : Place) → (type_text x).text place ≡ type_marks x place
unfolding type_marks
at_place x place = refl

pub text_List : (g x : Written) (place : Place) → applied_form (head_in g) (arg_count g) ≡ a.List
    → written (type_marks (WApp g x) place) ≡ codes "[" ++ (written (type_marks x p.Whole) ++ codes "]")
text_List g x place is =
    ap written (applied_is g x place a.List is) ∙ written_listed ((type_text x).text p.Whole)
    ∙ ap (λ ms. codes "[" ++ (written ms ++ codes "]")) (at_place x p.Whole)

arrow_behind : (arg : Placed) → written (arg p.Operand ++ space ∷ Mark.word t.Arrow ∷ space ∷ []) ≡ written
    (arg p.Operand) ++ codes " -> "
unfolding written
arrow_behind arg = written_append (arg p.Operand) (space ∷ Mark.word t.Arrow ∷ space ∷ [])

pub text_Arrow : (g x : Written) (place : Place) → applied_form (head_in g) (arg_count g) ≡ a.Arrow
    → written (type_marks (WApp g x) place) ≡ open_text (below_whole place)
    ++ ((before_text g p.Operand (codes " -> ") ++ written (type_marks x p.Whole))
    ++ close_text (below_whole place))
unfolding before_text
text_Arrow g x place is =
    ap written (applied_is g x place a.Arrow is)
    ∙ written_if (below_whole place) (arrow_marks (type_text g).args (type_text x).text)
    ∙ ap (λ w. open_text (below_whole place) ++ (w ++ close_text (below_whole place)))
    (written_append _ ((type_text x).text p.Whole)
    ∙ (λ i. written_args _ (λ (arg : Placed). written (arg p.Operand) ++ codes " -> ") arrow_behind
    (type_text g).args i
    ++ written (at_place x p.Whole i)))

comma_behind : (arg : Placed) → written (arg p.Whole ++ Mark.word t.Comma ∷ space ∷ []) ≡ written (arg p.Whole)
    ++ codes ", "
unfolding written
comma_behind arg = written_append (arg p.Whole) (Mark.word t.Comma ∷ space ∷ [])

pub text_Tuple : (g x : Written) (place : Place) → applied_form (head_in g) (arg_count g) ≡ a.Tuple
    → written (type_marks (WApp g x) place) ≡ codes "("
    ++ ((before_text g p.Whole (codes ", ") ++ written (type_marks x p.Whole)) ++ codes ")")
unfolding before_text
text_Tuple g x place is =
    ap written (applied_is g x place a.Tuple is)
    ∙ written_bracketed _
    ∙ ap (λ w. codes "(" ++ (w ++ codes ")"))
    (written_append _ ((type_text x).text p.Whole)
    ∙ (λ i. written_args _ (λ (arg : Placed). written (arg p.Whole) ++ codes ", ") comma_behind (type_text g).args i
    ++ written (at_place x p.Whole i)))

-- an application with one argument more
abbrev arg_text : Placed → List ℕ
arg_text arg = codes " " ++ written (arg p.Atom)

spaced_arg : (arg : Placed) → written (space ∷ arg p.Atom) ≡ arg_text arg
unfolding written
spaced_arg arg = refl

pub text_Other : (g x : Written) (place : Place) → applied_form (head_in g) (arg_count g) ≡ a.Other
    → written (type_marks (WApp g x) place) ≡ open_text (at_atom place)
    ++ ((application_text g ++ (codes " " ++ written (type_marks x p.Atom))) ++ close_text (at_atom place))
unfolding application_text
text_Other g x place is =
    ap written (applied_is g x place a.Other is)
    ∙ written_if (at_atom place) (application_marks (type_text g).name (type_text g).args (type_text x).text)
    ∙ ap (λ w. open_text (at_atom place) ++ (w ++ close_text (at_atom place)))
    (written_append (type_text g).name _
    ∙ ap (λ w. written (type_text g).name ++ w)
    (written_append _ (space ∷ (type_text x).text p.Atom)
    ∙ (λ i. written_args _ arg_text spaced_arg (type_text g).args i ++ spaced_arg (type_text x).text i))
    ∙ sym (append_assoc (written (type_text g).name) (flat_map arg_text (type_text g).args)
    (arg_text (type_text x).text))
    ∙ ap (λ ms. application_text g ++ (codes " " ++ written ms)) (at_place x p.Atom))

pub application_WVar : (name : Text) → application_text (WVar name) ≡ name
unfolding written application_text
application_WVar name = append-nil (name ++ []) ∙ append-nil name

pub application_WCon : (name : OrigName)
    → application_text (WCon name) ≡ global_text name
unfolding application_text
application_WCon name = append-nil _ ∙ written_global name

pub application_WApp : (g x : Written)
    → application_text (WApp g x) ≡ application_text g ++ (codes " " ++ written (type_marks x p.Atom))
unfolding application_text
application_WApp g x =
    ap head_text (at_WApp g x)
    ∙ ap (λ w. written (type_text g).name ++ w) (one_more arg_text (type_text g).args (type_text x).text)
    ∙ sym (append_assoc (written (type_text g).name) (flat_map arg_text (type_text g).args)
    (arg_text (type_text x).text))
    ∙ ap (λ ms. application_text g ++ (codes " " ++ written ms)) (at_place x p.Atom)

pub before_WVar : (name : Text) (place : Place) (behind : List ℕ) → before_text (WVar name) place behind ≡ []
unfolding before_text
before_WVar name place behind = refl

pub before_WCon : (name : OrigName) (place : Place) (behind : List ℕ)
    → before_text (WCon name) place behind ≡ []
unfolding before_text
before_WCon name place behind = refl

pub before_WApp : (g x : Written) (place : Place) (behind : List ℕ) → before_text (WApp g x) place behind
    ≡ before_text g place behind ++ (written (type_marks x place) ++ behind)
unfolding before_text
before_WApp g x place behind =
    ap (λ (ty : TypeText). args_text ty.args place behind) (at_WApp g x)
    ∙ one_more (λ (arg : Placed). written (arg place) ++ behind) (type_text g).args (type_text x).text
    ∙ ap (λ ms. before_text g place behind ++ (written ms ++ behind)) (at_place x place)

pub ruleset type_texts = (
  text_WVar,
  text_WCon,
  text_List,
  text_Arrow,
  text_Tuple,
  text_Other,
  application_WVar,
  application_WCon,
  application_WApp,
  before_WVar,
  before_WCon,
  before_WApp,
)
