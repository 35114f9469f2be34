-- What the flat text of a module spells.
use Rattle.std.specs.Prelude.{◌≡◌, ℕ, true, None, Ok, List, length, map}
use Rattle.hs_tokens.specs.declared.token.Token.{Token}
use Rattle.hs_tokens.specs.Terminals.{terminal_of}
use Rattle.hs_lex.specs.Cover.{Covered}
use Rattle.haskell_layout.specs.Layout.{layout_of}
use Rattle.hs_forms.specs.Whole.{Spells}
use Rattle.hs_modules.specs.ModuleForms.{module_form}
use Rattle.hs_modules.specs.declared.module.Module.{Module}
use Rattle.flat_lex.specs.Pieces.{text_of}
use Rattle.flat_text.specs.declared.flat.FlatModule.{FlatModule}
use Rattle.flat_text.specs.Marks.{seen, pieces_of}
use Rattle.flat_text.specs.ModuleMarks.{module_marks}
use Rattle.flat_laws.specs.Reading.{AreLawful}
use Rattle.flat_whole.specs.PrintableModule.{is_printable_module}

-- The tokens of the text are their own layout, and spell a module of the grammar, at any depth.
pub record SpellsModule (text : List ℕ) : Type 0 where
  pub tokens : List Token
  pub covered : Covered text tokens
  pub laid_out : layout_of tokens (length text) ≡ Ok tokens
  pub tree : Module
  pub spelled : Spells (module_form None) tree (map terminal_of tokens)

-- The flat text of each printable module, whose names and literals are lawful, spells a module.
abbrev pub FlatTextIsSpelled : Type 0
FlatTextIsSpelled = (m : FlatModule) → AreLawful (seen (module_marks m)) → is_printable_module m ≡ true
    → SpellsModule (text_of (pieces_of (module_marks m)))
