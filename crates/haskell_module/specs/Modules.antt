-- Which module or signature a source is, or why it is none (Haskell 2010 Report, chapter 5).
use Rattle.std.specs.Prelude.{◌≡◌, ℕ, List, map, codes, length, Option, None}
use Rattle.bp_base.specs.Texts.{Text}
use Rattle.bp_checks.specs.Check.{Check, ◌>>=◌}
use Rattle.hs_forms.specs.Reading.{Form}
use Rattle.hs_forms.specs.Whole.{Spells, IsPlace}
use Rattle.hs_forms.specs.declared.error.ParseError.{ParseError}
use Rattle.hs_forms.specs.declared.error.ParseError.TheVariants as p
use Rattle.hs_tokens.specs.Terminals.{terminal_of}
use Rattle.hs_tokens.specs.declared.terminal.Terminal.{Terminal}
use Rattle.hs_tokens.specs.declared.token.Token.{Token}
use Rattle.hs_modules.specs.ModuleForms.{module_form, sig_form}
use Rattle.hs_modules.specs.declared.module.Module.{Module}
use Rattle.hs_modules.specs.declared.module.Module.TheVariants as m
use Rattle.haskell_parse.specs.Parsed.{GoesOn}
use Rattle.haskell_module.specs.declared.error.SourceError.{SourceError}
use Rattle.haskell_module.specs.declared.error.SourceError.TheVariants as e
use Rattle.haskell_module.specs.Sources.{offset_at, tokens_read}

-- why a parser refuses tokens by layout, with the number of bytes before the place
abbrev pub parse_error : List Token → ℕ → ParseError → SourceError
parse_error laid end (p.Syntax index) = e.Syntax (offset_at laid end index)
parse_error laid end (p.DepthLimit index) = e.Nesting
parse_error laid end p.NoMemory = e.NoMemory

-- The tokens spell no tree within a nesting: what stops these is Syntax where it stops all trees, and else Nesting.
abbrev pub StopsAt : (Option ℕ → Form Terminal Module) → Option ℕ → ℕ → List Token → SourceError → Type 0
StopsAt form nesting end laid (e.Syntax offset) = (i : ℕ) × IsPlace (form nesting) (map terminal_of laid) i
    × (GoesOn (form None) (map terminal_of laid) i → ⊥) × (offset ≡ offset_at laid end i)
StopsAt form nesting end laid e.Nesting = (i : ℕ) × IsPlace (form nesting) (map terminal_of laid) i
    × GoesOn (form None) (map terminal_of laid) i
StopsAt form nesting end laid (e.LeftOut offset) = ⊥
StopsAt form nesting end laid (e.Lexical offset) = ⊥
StopsAt form nesting end laid (e.Layout offset) = ⊥
StopsAt form nesting end laid e.NoMemory = ⊥

-- the tree of such a form within a nesting that tokens by layout spell
abbrev pub parsed : (Option ℕ → Form Terminal Module) → Option ℕ → ℕ → List Token → Check Module SourceError
parsed form nesting end laid = record {
  passes = λ tree. Spells (form nesting) tree (map terminal_of laid);
  fails = StopsAt form nesting end laid;
}

-- the name in the head; a module without one is `Main`
abbrev pub name_of : Module → Text
name_of (m.Headless block) = codes "Main"
name_of (m.Named name block) = name
name_of (m.Exporting name exports block) = name
name_of (m.Signature name block) = name

-- the token that tells the name: behind the first word of the head, or without one the first of all
abbrev pub name_index : Module → ℕ
name_index (m.Headless block) = 0
name_index (m.Named name block) = 1
name_index (m.Exporting name exports block) = 1
name_index (m.Signature name block) = 1

-- the tree has this name, or Syntax stands where it tells another
abbrev pub named_as : Text → ℕ → List Token → Module → Check Module SourceError
named_as name end laid tree = record {
  passes = λ it. (name_of tree ≡ name) × (it ≡ tree);
  fails = λ error. (name_of tree ≡ name → ⊥) × (error ≡ e.Syntax (offset_at laid end (name_index tree)));
}

-- the tree of such a form and name that a source spells
abbrev pub tree_read : (Option ℕ → Form Terminal Module) → Option ℕ → Text → List ℕ → Check Module SourceError
tree_read form nesting name bytes =
    tokens_read bytes >>= λ laid. parsed form nesting (length bytes) laid >>= λ tree.
    named_as name (length bytes) laid tree

-- the module of this name that a source is, within a nesting
unfoldable pub module_read : Option ℕ → Text → List ℕ → Check Module SourceError
module_read nesting name bytes = tree_read module_form nesting name bytes

-- the signature of this name that a source is, within a nesting
unfoldable pub signature_read : Option ℕ → Text → List ℕ → Check Module SourceError
signature_read nesting name bytes = tree_read sig_form nesting name bytes

-- every refusal but that of the nesting
abbrev pub IsKept : SourceError → Type 0
IsKept e.Nesting = ⊥
IsKept (e.Syntax offset) = Unit {0}
IsKept (e.LeftOut offset) = Unit {0}
IsKept (e.Lexical offset) = Unit {0}
IsKept (e.Layout offset) = Unit {0}
IsKept e.NoMemory = Unit {0}
