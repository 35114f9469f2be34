use Rattle.std.proofs.Common.{◌≡◌, ◌<◌, ◌++◌, ◌∙◌, length, drop, refl, sym, ap, subst, arith}
use Rattle.std.specs.Prelude.{replicate}
use Rattle.std.specs.List.{prefix_len}
use Rattle.std.proofs.lemmas.List.{length-drop}
use Rattle.hs_forms.specs.Answers.{Rejects}
use Rattle.hs_forms.proofs.CommaLemmas.{commas_ok, commas_open, commas_over}
use Rattle.hs_tokens.specs.Terminals.{is_comma, is_right_paren}
use Rattle.hs_trees.specs.Types.{tuple_name_form}
use Rattle.hs_tokens.specs.declared.terminal.Terminal.TheVariants as t
use Rattle.hs_readers.proofs.AnswerLemmas.{commas_split, commas_stop, commas_front}
use Rattle.hs_readers.proofs.tuple_name.read_tuple_name.Goals as goal

pub returns-then-commas-gt14-clause-answers : goal.returns-then-commas-gt14-clause-answers
returns-then-commas-gt14-clause-answers c =
    let ts = c.args.tokens.now in
    let more : 14 < prefix_len is_comma ts = omega (arith, c.count_commas-commas.ensures.value) in
    let front = commas_front ts 14 more in
    subst (Rejects tuple_name_form ts) (length-drop 14 ts)
    (commas_over t.Comma t.RightParen is_comma is_right_paren refl refl refl 15 ts 14 (drop 14 ts) front.0 refl front.1)

pub returns-in-Some-clause-answers : goal.returns-in-Some-clause-answers
returns-in-Some-clause-answers c =
    let ts = c.args.tokens.now in
    let n = c.count_commas-commas.result in
    let split : ts ≡ replicate n t.Comma ++ drop n ts = rw c.count_commas-commas.ensures.value (commas_split ts) in
    commas_ok t.Comma t.RightParen is_comma is_right_paren refl refl refl 15 ts n _
    (split ∙ ap (λ l. replicate n t.Comma ++ l) (sym c.after.ensures ∙ c.in-Some.ensures)) (omega arith)

pub returns-in-None-clause-answers : goal.returns-in-None-clause-answers
returns-in-None-clause-answers c =
    let ts = c.args.tokens.now in
    let n = c.count_commas-commas.result in
    let split : ts ≡ replicate n t.Comma ++ c.after.result.now =
    rw c.count_commas-commas.ensures.value (commas_split ts)
    ∙ ap (λ l. replicate n t.Comma ++ l) (sym c.after.ensures) in
    subst (Rejects tuple_name_form ts) (ap length c.after.ensures ∙ length-drop n ts)
    (commas_open t.Comma t.RightParen is_comma is_right_paren refl refl refl 15 ts n c.after.result.now split
    (omega arith)
    (rw (c.after.ensures, c.count_commas-commas.ensures.value) (commas_stop ts)) c.in-None.ensures)
