use Rattle.std.proofs.Common.{sym, subst, arith}
use Rattle.hs_lex.specs.Classes.{is_in}
use Rattle.hs_lex.specs.Longest.{Longest, alone}
use Rattle.hs_lex.specs.Numbers.{run_as}
use Rattle.hs_lex.proofs.NumberLemmas.{run_found}
use Rattle.hs_lex.proofs.number.run.Goals as goal

pub returns-else-digits-eq0-clause-run : goal.returns-else-digits-eq0-clause-run
returns-else-digits-eq0-clause-run c = λ form. subst
    (λ n. Longest (alone (run_as (is_in c.args.class) form)) c.args.bytes.now form n) (sym c.count-digits.ensures.value)
    (run_found (is_in c.args.class) form c.args.bytes.now
    (omega (arith, c.count-digits.ensures.value, c.if-digits-eq0.false)))
