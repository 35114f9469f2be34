-- What the source of a plain module gives: the module, whether its values have their types, and its flat text.
use Rattle.std.specs.Prelude.{◌≡◌, ℕ, Option, Some, None}
use Rattle.bp_base.specs.Texts.{Text}
use Rattle.bp_base.specs.declared.code.Code.TheVariants as code
use Rattle.bp_base.specs.declared.defect.Item.TheVariants.{Offset, Named}
use Rattle.bp_base.specs.declared.code.Which.TheVariants as which
use Rattle.bp_checks.specs.Check.{Check, ◌>>=◌}
use Rattle.bp_checks.specs.Refused.{Refused, Wrong, Passed, defect_at}
use Rattle.hs_modules.specs.declared.module.Module.{Module}
use Rattle.haskell_module.specs.Modules.{module_read}
use Rattle.haskell_module.specs.declared.error.SourceError.{SourceError}
use Rattle.haskell_module.specs.declared.error.SourceError.TheVariants as e
use Rattle.hs_plain.specs.declared.plain.PlainModule.{PlainModule}
use Rattle.hs_plain.specs.Text.{IsFlatText}
use Rattle.plain_trees.specs.Plain.{plain_of}
use Rattle.plain_check.specs.Typing.{assumptions_of, AreTyped, IsFirstIll}

-- what is wrong with a source, with its place; want of memory is nothing that is wrong with it
abbrev pub IsPlaced : Text → Text → SourceError → Refused → Type 0
IsPlaced component at (e.LeftOut offset) r = r ≡ Wrong (defect_at code.LeftOut component at (Offset offset))
IsPlaced component at (e.Lexical offset) r = r ≡ Wrong (defect_at code.Lexical component at (Offset offset))
IsPlaced component at (e.Layout offset) r = r ≡ Wrong (defect_at code.Layout component at (Offset offset))
IsPlaced component at (e.Syntax offset) r = r ≡ Wrong (defect_at code.Syntax component at (Offset offset))
IsPlaced component at e.Nesting r = r ≡ Passed (record { which = which.Nesting; count = 201 })
IsPlaced component at e.NoMemory r = ⊥

-- the module of this name that a source is, within a nesting, or what is wrong with the source
unfoldable pub module_at : Option ℕ → Text → Text → Text → Check Module Refused
module_at nesting component at bytes = record {
  passes = (module_read nesting at bytes).passes;
  fails = λ r. (error : SourceError) × (module_read nesting at bytes).fails error × IsPlaced component at error r;
}

-- the plain module that a tree is
unfoldable pub plain_at : Text → Text → Module → Check PlainModule Refused
plain_at component at tree = record {
  passes = λ m. plain_of tree ≡ Some m;
  fails = λ r. (plain_of tree ≡ None) × (r ≡ Wrong (defect_at code.Syntax component at (Offset 0)));
}

-- the plain module of this name that a source is, within a nesting
unfoldable pub source_read : Option ℕ → Text → Text → Text → Check PlainModule Refused
source_read nesting component at bytes = module_at nesting component at bytes >>= plain_at component at

-- Each value of the module has its declared type, or the first that has not is refused.
unfoldable pub typed : Text → PlainModule → Check (Unit {0}) Refused
typed component m = record {
  passes = λ _. AreTyped (assumptions_of m.bindings) m.bindings;
  fails = λ r. (place : ℕ) × (first : IsFirstIll (assumptions_of m.bindings) m.bindings place)
      × (r ≡ Wrong (defect_at code.IllTyped component m.name (Named first.it.occ)));
}

-- the flat text of a module
unfoldable pub text_of : PlainModule → Check Text Refused
text_of m = record { passes = IsFlatText m; fails = λ r. ⊥ }
