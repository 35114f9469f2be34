-- The examples compute.
use Rattle.std.proofs.Common.{refl}
use Rattle.hs_tokens.specs.Terminals.{symbol_of, is_reserved}
use Rattle.hs_tokens.specs.Words.{declaration_word, expression_word, left_out_word}
use Rattle.hs_lex.specs.Classes.{start_of}
use Rattle.hs_core.specs.declared.tree.Decl.TheBlock.{hidden-the_row-Exp-0, hidden-the_row-Exp-1}
use denote.Hole.Carrier.{hidden}
use Rattle.flat_printable.specs.Examples.{NamesTell, LiteralsTell, FormsTell, LocalsTell}

pub names_tell : NamesTell
unfolding start_of declaration_word expression_word left_out_word symbol_of is_reserved
names_tell = (refl, refl, refl, refl, refl, refl, refl, refl)

pub literals_tell : LiteralsTell
literals_tell = (refl, refl, refl)

pub forms_tell : FormsTell
unfolding hidden-the_row-Exp-0 hidden-the_row-Exp-1 hidden
forms_tell = (refl, refl, refl, refl)

pub locals_tell : LocalsTell
unfolding hidden-the_row-Exp-0 hidden
locals_tell = (refl, refl)
