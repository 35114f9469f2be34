use Rattle.std.specs.Prelude.{◌≡◌, None}
use Rattle.hs_forms.specs.declared.error.ParseError.TheVariants.{NoMemory}
use Rattle.haskell_parse.proofs.ParsedLemmas.{begun_goes}
use Rattle.haskell_parse.proofs.reading.goes_on.Goals as goal

pub returns-then-at-tokens : goal.returns-then-at-tokens
returns-then-at-tokens g c =
    begun_goes (g.T.Readable.sort None).form (λ e. e ≡ NoMemory) c.args.tokens.now c.args.at c.if-at-tokens.true
    c.begins.result c.begins.ensures
