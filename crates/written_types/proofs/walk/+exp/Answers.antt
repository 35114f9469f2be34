use Rattle.std.proofs.Common.{◌∙◌, ◌++◌, ap, sym, refl}
use Rattle.written_types.proofs.TypeLemmas.{on_ok, joined, in-Apply, in-Lambda, in-Let, in-Case, in-RightSection, in-If}
use Rattle.written_types.proofs.walk.+exp.Goals as goal

pub add_exp-returns-in_ok-add_exp-in-Apply : goal.add_exp-returns-in_ok-add_exp-in-Apply
add_exp-returns-in_ok-add_exp-in-Apply t c =
    on_ok c.add_exps.result _ _ (joined _ _ _ _ _ _
    (in-Apply _ _ _ _ _ c.in-Apply.is c.get.ensures c.as_slice.ensures) c.in_ok-add_exp-in-Apply.ensures)
    c.add_exps.ensures

pub add_exp-returns-in-Lambda : goal.add_exp-returns-in-Lambda
add_exp-returns-in-Lambda t c =
    on_ok c.add_exp-in-Lambda.result _ _
    (λ e. e ∙ ap (λ z. c.args.all.now ++ z)
    (sym (in-Lambda c.args.exp.now _ _ _ c.in-Lambda.is c.get-in-Lambda.ensures)))
    c.add_exp-in-Lambda.ensures

pub add_exp-returns-in_ok-add_decls-in-Let : goal.add_exp-returns-in_ok-add_decls-in-Let
add_exp-returns-in_ok-add_decls-in-Let t c =
    on_ok c.add_exp-in-Let.result _ _ (joined _ _ _ _ _ _
    (in-Let _ _ _ _ _ c.in-Let.is c.get-in-Let.ensures c.as_slice-in-Let.ensures) c.in_ok-add_decls-in-Let.ensures)
    c.add_exp-in-Let.ensures

pub add_exp-returns-in_ok-add_exp-in-If-2 : goal.add_exp-returns-in_ok-add_exp-in-If-2
add_exp-returns-in_ok-add_exp-in-If-2 t c =
    on_ok c.add_exp-in-If-3.result _ _ (λ e. joined _ _ _ _ _ _
    (in-If _ _ _ _ _ _ _ c.in-If.is c.get-in-If.ensures c.get-in-If-2.ensures c.get-in-If-3.ensures)
    c.in_ok-add_exp-in-If.ensures (joined _ _ _ _ _ _ refl c.in_ok-add_exp-in-If-2.ensures e)) c.add_exp-in-If-3.ensures

pub add_exp-returns-in_ok-add_exp-in-Case : goal.add_exp-returns-in_ok-add_exp-in-Case
add_exp-returns-in_ok-add_exp-in-Case t c =
    on_ok c.add_alts.result _ _ (joined _ _ _ _ _ _
    (in-Case _ _ _ _ _ c.in-Case.is c.get-in-Case.ensures c.as_slice-in-Case.ensures) c.in_ok-add_exp-in-Case.ensures)
    c.add_alts.ensures

pub add_exp-returns-in_ok-add_exp-in-RightSection : goal.add_exp-returns-in_ok-add_exp-in-RightSection
add_exp-returns-in_ok-add_exp-in-RightSection t c =
    on_ok c.add_exp-in-RightSection-2.result _ _ (joined _ _ _ _ _ _
    (in-RightSection _ _ _ _ _ c.in-RightSection.is c.get-in-RightSection.ensures c.get-in-RightSection-2.ensures)
    c.in_ok-add_exp-in-RightSection.ensures) c.add_exp-in-RightSection-2.ensures
