use Rattle.std.proofs.Common.{rules, arith, ◌≡◌, refl, codes}
use Rattle.std.proofs.lemmas.Slice.Eq.{text_from_reads}
use Rattle.haskell_layout.proofs.role.name_role.Goals as goal

pub returns-in-signature : goal.returns-in-signature
returns-in-signature c =
    let is : c.args.text.now ≡ codes "signature" =
    text_from_reads c.args.text.now (codes "signature") (omega arith) (search rules) in
    rw is refl
