use Rattle.std.proofs.Common.{◌∷◌, ap}
use Rattle.std.specs.Prelude.{codes}
use Rattle.std.proofs.lemmas.Result.{err_from_is_err_and}
use Rattle.hs_tokens.specs.declared.terminal.Terminal.TheVariants as t
use Rattle.hs_headers.proofs.TurnLemmas.{turn_ok, turn_fails}
use Rattle.hs_headers.proofs.ExportLemmas.{passes_none}
use Rattle.hs_headers.proofs.ImportLemmas.{hidden_open, hidden_listed}
use Rattle.hs_headers.proofs.imports.read_hidden.Goals as goal

pub returns-in_default : goal.returns-in_default
returns-in_default c =
    hidden_open c.args.tokens.now c.in_default.ensures

pub returns-in_err-list : goal.returns-in_err-list
returns-in_err-list c =
    let p = err_from_is_err_and c.from_residual.result c.from_residual.ensures.1 in
    rw (p.1, p.2) (turn_fails _ _ _ _ _ _ (hidden_listed) (t.Var (codes "hiding") ∷ c.args.tokens.now) _ _
    (ap (λ l. t.Var (codes "hiding") ∷ l) c.in-Some.ensures) (passes_none _) c.in_err-list.ensures)

pub returns : goal.returns
returns c =
    turn_ok _ _ _ _ _ _ (hidden_listed) (t.Var (codes "hiding") ∷ c.args.tokens.now) _ c.in_ok-list.list.tree _ _
    (ap (λ l. t.Var (codes "hiding") ∷ l) c.in-Some.ensures) (passes_none _) c.in_ok-list.ensures
