use Rattle.std.proofs.Common.{◌∙◌}
use Rattle.hs_core.proofs.TreeLemmas.{made-Apply, made-Lambda, made-Let, made-If, made-Case, made-RightSection}
use Rattle.hs_core.proofs.rename_tree.+exp.Goals as goal

pub rename_exp-returns-in_ok-rename_boxed-in-Apply : goal.rename_exp-returns-in_ok-rename_boxed-in-Apply
rename_exp-returns-in_ok-rename_boxed-in-Apply t c =
    made-Apply _ _ _ _ _ _ c.in-Apply.is c.in_ok-rename_boxed-in-Apply.ensures c.in_ok-args-in-Apply.ensures

pub rename_exp-returns-in_ok-rename_boxed-in-Lambda : goal.rename_exp-returns-in_ok-rename_boxed-in-Lambda
rename_exp-returns-in_ok-rename_boxed-in-Lambda t c =
    made-Lambda _ _ _ _ _ _ c.in-Lambda.is c.in_ok-rename_boxed-in-Lambda.ensures c.in_ok-pats-in-Lambda.ensures

pub rename_exp-returns-in_ok-rename_boxed-in-Let : goal.rename_exp-returns-in_ok-rename_boxed-in-Let
rename_exp-returns-in_ok-rename_boxed-in-Let t c =
    made-Let _ _ _ _ _ _ c.in-Let.is c.in_ok-rename_boxed-in-Let.ensures c.in_ok-decls-in-Let.ensures

pub rename_exp-returns-in_ok-rename_boxed-in-If : goal.rename_exp-returns-in_ok-rename_boxed-in-If
rename_exp-returns-in_ok-rename_boxed-in-If t c = made-If _ _ _ _ _ _ _ _ c.in-If.is (c.test.view_is
    ∙ c.in_ok-test-in-If.ensures) c.in_ok-yes-in-If.ensures c.in_ok-rename_boxed-in-If.ensures

pub rename_exp-returns-in_ok-rename_alts-in-Case : goal.rename_exp-returns-in_ok-rename_alts-in-Case
rename_exp-returns-in_ok-rename_alts-in-Case t c =
    made-Case _ _ _ _ _ _ c.in-Case.is c.in_ok-of-in-Case.ensures c.in_ok-rename_alts-in-Case.ensures

pub rename_exp-returns-in_ok-rename_boxed-in-RightSection : goal.rename_exp-returns-in_ok-rename_boxed-in-RightSection
rename_exp-returns-in_ok-rename_boxed-in-RightSection t c =
    made-RightSection _ _ _ _ _ _ c.in-RightSection.is c.in_ok-op-in-RightSection.ensures
    c.in_ok-rename_boxed-in-RightSection.ensures
