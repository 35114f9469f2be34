use Rattle.std.proofs.Common.{None, refl}
use Rattle.hs_forms.proofs.WholeLemmas.{begun_ok, begun_err_at}
use Rattle.haskell_parse.proofs.reading.begins.Goals as goal
use Rattle.haskell_parse.proofs.reading.begins.Goals.{in-Ok, in-Err-At, in-Err-NoMemory}

pub returns : goal.returns
returns g c =
    let form = (g.T.Readable.sort None).form in
    elim c.match-whole.branch [
      | in-Ok w ↦ rw w.result-is (begun_ok form c.args.tokens.now _ w.in-Ok.ensures)
      | in-Err-At w ↦ rw w.result-is (begun_err_at form c.args.tokens.now _ _ w.in-Err-At.field-0-is
          w.in-Err-At.ensures)
      | in-Err-NoMemory w ↦ rw w.result-is refl
    ]
