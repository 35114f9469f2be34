use Rattle.std.proofs.Common.{rules, arith, ◌≡◌, refl, codes}
use Rattle.std.proofs.lemmas.Slice.Eq.{text_from_reads}
use Rattle.hs_tokens.specs.Words.{declaration_word}
use Rattle.hs_tokens.proofs.word.declaration_word.Goals as goal

pub returns-in-import : goal.returns-in-import
unfolding declaration_word
returns-in-import c =
    let is : c.args.text.now ≡ codes "import" = text_from_reads c.args.text.now (codes "import") (omega arith)
    (search rules) in
    rw is refl

pub returns-in-infixl : goal.returns-in-infixl
unfolding declaration_word
returns-in-infixl c =
    let is : c.args.text.now ≡ codes "infixl" = text_from_reads c.args.text.now (codes "infixl") (omega arith)
    (search rules) in
    rw is refl

pub returns-in-infixr : goal.returns-in-infixr
unfolding declaration_word
returns-in-infixr c =
    let is : c.args.text.now ≡ codes "infixr" = text_from_reads c.args.text.now (codes "infixr") (omega arith)
    (search rules) in
    rw is refl

pub returns-in-module : goal.returns-in-module
unfolding declaration_word
returns-in-module c =
    let is : c.args.text.now ≡ codes "module" = text_from_reads c.args.text.now (codes "module") (omega arith)
    (search rules) in
    rw is refl

pub returns-in-newtype : goal.returns-in-newtype
unfolding declaration_word
returns-in-newtype c =
    let is : c.args.text.now ≡ codes "newtype" = text_from_reads c.args.text.now (codes "newtype") (omega arith)
    (search rules) in
    rw is refl
