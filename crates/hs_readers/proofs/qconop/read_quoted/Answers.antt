use Rattle.std.proofs.Common.{◌∷◌, refl}
use Rattle.hs_tokens.specs.declared.terminal.Terminal.TheVariants.{Backquote}
use Rattle.hs_trees.proofs.PatternReturnLemmas.{quoted_none, quoted_open}
use Rattle.hs_readers.proofs.qconop.read_quoted.Goals as goal

pub returns-in_default : goal.returns-in_default
returns-in_default c = quoted_none (Backquote ∷ c.args.tokens.now) c.args.tokens.now refl c.in_default.ensures

pub returns-in-None : goal.returns-in-None
returns-in-None c =
    quoted_open c.in-Some.name.now (Backquote ∷ c.args.tokens.now) c.args.tokens.now _ refl c.in-Some.ensures
    c.in-None.ensures
