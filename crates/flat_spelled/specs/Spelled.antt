-- What the terminals of marks spell.
use Rattle.std.specs.Prelude.{◌≡◌, true, None}
use Rattle.hs_forms.specs.Whole.{Spells}
use Rattle.hs_trees.specs.Types.{type_form}
use Rattle.hs_trees.specs.Patterns.{pat_form}
use Rattle.hs_trees.specs.declared.types.TypeTree.{TypeTree}
use Rattle.hs_trees.specs.declared.patterns.PatTree.{PatTree}
use Rattle.hs_core.specs.declared.tree.Written.{Written}
use Rattle.hs_modules.specs.declared.expressions.ExpTree.{ExpTree}
use Rattle.hs_modules.specs.declared.expressions.DeclTree.{DeclTree}
use Rattle.hs_modules.specs.Tokens.{spelling_exp, spelling_decl}
use Rattle.hs_modules.specs.Formed.{facts_of_exp, facts_of_decl}
use Rattle.hs_core.specs.declared.tree.Pat.{Pat}
use Rattle.hs_core.specs.declared.tree.Exp.{Exp}
use Rattle.hs_core.specs.declared.tree.Decl.{Decl}
use Rattle.flat_text.specs.declared.name.Place.TheVariants as p
use Rattle.flat_text.specs.Marks.{seen}
use Rattle.flat_text.specs.TypeMarks.{type_marks}
use Rattle.flat_text.specs.PatternMarks.{pat_marks}
use Rattle.flat_text.specs.ExpressionMarks.{exp_marks, decl_marks}
use Rattle.flat_spelled.specs.Printable.{is_printable_type, is_printable_pat, is_printable_exp, is_printable_decl}

-- A printable type's text spells a type of the grammar, at any depth.
abbrev pub TypesAreSpelled : Type 0
TypesAreSpelled = (ty : Written) → is_printable_type ty ≡ true
    → (tree : TypeTree) × Spells (type_form None) tree (seen (type_marks ty p.Whole))

-- A printable pattern's text spells a pattern of the grammar, at any depth.
abbrev pub PatternsAreSpelled : Type 0
PatternsAreSpelled = (pat : Pat) → is_printable_pat pat ≡ true
    → (tree : PatTree) × Spells (pat_form None) tree (seen (pat_marks pat))

-- A printable expression's text spells a well formed expression of the grammar.
abbrev pub ExpressionsAreSpelled : Type 0
ExpressionsAreSpelled = (exp : Exp) → is_printable_exp exp ≡ true
    → (tree : ExpTree) × (seen (exp_marks exp p.Whole) ≡ spelling_exp tree) × ((facts_of_exp tree).good ≡ true)

-- The text of a printable signature, fixity declaration, clause or pattern binding spells a well formed declaration.
abbrev pub DeclarationsAreSpelled : Type 0
DeclarationsAreSpelled = (decl : Decl) → is_printable_decl decl ≡ true
    → (tree : DeclTree) × (seen (decl_marks decl) ≡ spelling_decl tree) × ((facts_of_decl tree).good ≡ true)
