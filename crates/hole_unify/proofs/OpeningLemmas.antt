-- Equations of what follows where two terms are of one class, and of edges.
use Rattle.std.proofs.Common.{◌≡◌, ℕ, List, [], ◌++◌, refl, sym, ap, ◌∙◌}
use Rattle.std.specs.Prelude.{None}
use Rattle.bp_base.specs.declared.ident.Ident.{Ident}
use Rattle.bp_base.specs.declared.ident.Fill.{Fill}
use Rattle.hole_unify.specs.declared.edge.Edge.{Edge}
use Rattle.bp_base.specs.declared.ident.Ident.TheVariants.{Hole, Module}
use Rattle.bp_base.specs.declared.ident.Unit.{Unit as OfUnit, out-Unit}
use Rattle.bp_base.specs.declared.ident.Ident.TheBlock.{hidden-the_row-Unit-0}
use Rattle.bp_base.specs.Texts.{Text}
use Rattle.hole_unify.specs.Table.{Node}
use Rattle.hole_unify.specs.Close.{units_pairs, units_heads, terms_pairs, terms_heads}
use Rattle.hole_unify.specs.Reach.{fills_edges, term_edges}
use denote.Hole.Carrier.{hidden}

pub terms_pairs-Modules : (u v : OfUnit) (m n : Text) → terms_pairs (Module u m) (Module v n) ≡ units_pairs u m v n
unfolding hidden-the_row-Unit-0 hidden
terms_pairs-Modules u v m n = refl

pub terms_heads-Modules : (u v : OfUnit) (m n : Text) → terms_heads (Module u m) (Module v n) ≡ units_heads u m v n
unfolding hidden-the_row-Unit-0 hidden
terms_heads-Modules u v m n = refl

pub terms_pairs-Hole : (u : OfUnit) (m n : Text) → terms_pairs (Module u m) (Hole n) ≡ []
unfolding hidden-the_row-Unit-0 hidden
terms_pairs-Hole u m n = refl

pub terms_heads-Hole : (u : OfUnit) (m n : Text) → terms_heads (Module u m) (Hole n) ≡ None
unfolding hidden-the_row-Unit-0 hidden
terms_heads-Hole u m n = refl

pub ruleset opening_equations = (terms_pairs-Modules, terms_heads-Modules, terms_pairs-Hole, terms_heads-Hole)

pub term_edges-Module : (nodes : List Node) (k : ℕ) (u : OfUnit) (m : Text)
    → term_edges nodes k (Module u m) ≡ fills_edges nodes k (out-Unit u).fills (out-Unit u).fills
unfolding hidden-the_row-Unit-0 hidden
term_edges-Module nodes k u m = refl

pub ruleset edge_equations = (term_edges-Module)

-- the edges of a module
pub edges-step : (nodes : List Node) (k : ℕ) (a : Ident) (u : OfUnit) (m : Text) (fs : List Fill) (old new : List Edge)
    → a ≡ Module u m → fs ≡ (out-Unit u).fills
    → new ≡ old ++ fills_edges nodes k fs fs → new ≡ old ++ term_edges nodes k a
edges-step nodes k a u m fs old new is fills made =
    made ∙ (λ w. old ++ fills_edges nodes k (fills w) (fills w))
    ∙ ap (λ l. old ++ l) (sym (term_edges-Module nodes k u m)) ∙ ap (λ z. old ++ term_edges nodes k z) (sym is)
