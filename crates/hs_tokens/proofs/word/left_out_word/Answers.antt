use Rattle.std.proofs.Common.{rules, arith, ◌≡◌, refl, codes}
use Rattle.std.proofs.lemmas.Slice.Eq.{text_from_reads}
use Rattle.hs_tokens.specs.Words.{left_out_word}
use Rattle.hs_tokens.proofs.word.left_out_word.Goals as goal

pub returns-in-100 : goal.returns-in-100
unfolding left_out_word
returns-in-100 c =
    let is : c.args.text.now ≡ codes "default" = text_from_reads c.args.text.now (codes "default") (omega arith)
    (search rules) in
    rw is refl

pub returns-in-foreign : goal.returns-in-foreign
unfolding left_out_word
returns-in-foreign c =
    let is : c.args.text.now ≡ codes "foreign" = text_from_reads c.args.text.now (codes "foreign") (omega arith)
    (search rules) in
    rw is refl

pub returns-in-deriving : goal.returns-in-deriving
unfolding left_out_word
returns-in-deriving c =
    let is : c.args.text.now ≡ codes "deriving" = text_from_reads c.args.text.now (codes "deriving") (omega arith)
    (search rules) in
    rw is refl

pub returns-in-instance : goal.returns-in-instance
unfolding left_out_word
returns-in-instance c =
    let is : c.args.text.now ≡ codes "instance" = text_from_reads c.args.text.now (codes "instance") (omega arith)
    (search rules) in
    rw is refl
