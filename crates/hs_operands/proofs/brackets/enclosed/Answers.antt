-- A lemma of `BracketLemmas`.
use Rattle.std.proofs.Common.{refl}
use Rattle.hs_operand_forms.proofs.BracketLemmas.{inside_took}
use Rattle.hs_operands.proofs.brackets.enclosed.Goals as goal

pub returns : goal.returns
returns c = λ limit ts here opens took at.
    let x = inside_took limit ts opens _ refl c.args.inner.tree here _ _ took at in
    rw (c.in_ok-tree.ensures x.0 x.1) x.2
