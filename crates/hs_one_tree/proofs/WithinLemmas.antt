-- At most one tree within a limit has given tokens, since at most one has without.
use Rattle.std.proofs.Common.{◌≡◌, ℕ}
use Rattle.std.specs.Prelude.{Option}
use Rattle.hs_forms.specs.Whole.{Spells}
use Rattle.hs_trees.specs.Kinds.{kind_form}
use Rattle.hs_trees.specs.Types.{type_form}
use Rattle.hs_trees.specs.Patterns.{Ts, pat_form}
use Rattle.hs_trees.specs.declared.types.KindTree.{KindTree}
use Rattle.hs_trees.specs.declared.types.TypeTree.{TypeTree}
use Rattle.hs_trees.specs.declared.patterns.PatTree.{PatTree}
use Rattle.hs_trees.proofs.KindUniqueLemmas.{one_kind}
use Rattle.hs_trees.proofs.TypeUniqueLemmas.{one_type}
use Rattle.hs_trees.proofs.PatternUniqueLemmas.{one_pattern}
use Rattle.hs_modules.specs.declared.expressions.ExpTree.{ExpTree}
use Rattle.hs_expression_forms.specs.Trees.{within}
use Rattle.hs_expression_forms.specs.Expressions.{exps}
use Rattle.hs_modules.specs.ModuleForms.{module_form, sig_form, items_form}
use Rattle.hs_modules.specs.declared.module.Module.{Module}
use Rattle.hs_one_tree.proofs.OneTreeLemmas.{one_exp}
use Rattle.hs_one_tree.proofs.ModuleLemmas.{one_module, one_signature, one_items}

pub one_kind_within : (limit : Option ℕ) (ts : Ts) (x y : KindTree) → Spells (kind_form limit) x ts →
    Spells (kind_form limit) y ts → y ≡ x
one_kind_within limit ts x y one two = one_kind ts x y (one.0, tt) (two.0, tt)

pub one_type_within : (limit : Option ℕ) (ts : Ts) (x y : TypeTree) → Spells (type_form limit) x ts →
    Spells (type_form limit) y ts → y ≡ x
one_type_within limit ts x y one two = one_type ts x y (one.0, (one.1.0, tt)) (two.0, (two.1.0, tt))

pub one_pattern_within : (limit : Option ℕ) (ts : Ts) (x y : PatTree) → Spells (pat_form limit) x ts →
    Spells (pat_form limit) y ts → y ≡ x
one_pattern_within limit ts x y one two = one_pattern ts x y (one.0, (one.1.0, tt)) (two.0, (two.1.0, tt))

pub one_exp_within : (limit : Option ℕ) (ts : Ts) (x y : ExpTree) → Spells (within exps limit) x ts →
    Spells (within exps limit) y ts → y ≡ x
one_exp_within limit ts x y one two = one_exp ts x y (one.0, (one.1.0, tt)) (two.0, (two.1.0, tt))

pub one_module_within : (limit : Option ℕ) (ts : Ts) (x y : Module) → Spells (module_form limit) x ts →
    Spells (module_form limit) y ts → y ≡ x
one_module_within limit ts x y one two = one_module ts x y (one.0, (one.1.0, tt)) (two.0, (two.1.0, tt))

pub one_signature_within : (limit : Option ℕ) (ts : Ts) (x y : Module) → Spells (sig_form limit) x ts →
    Spells (sig_form limit) y ts → y ≡ x
one_signature_within limit ts x y one two = one_signature ts x y (one.0, (one.1.0, tt)) (two.0, (two.1.0, tt))

pub one_items_within : (limit : Option ℕ) (ts : Ts) (x y : Module) → Spells (items_form limit) x ts →
    Spells (items_form limit) y ts → y ≡ x
one_items_within limit ts x y one two = one_items ts x y (one.0, (one.1.0, tt)) (two.0, (two.1.0, tt))
