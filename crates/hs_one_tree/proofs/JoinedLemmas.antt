-- Trees of one kind among those of another, told by their first tokens.
use Rattle.std.proofs.Common.{◌≡◌, Bool, true, List, ◌++◌}
use Rattle.std.specs.Prelude.{None}
use Rattle.hs_forms.proofs.FormLemmas.{begins_within}
use Rattle.hs_expression_forms.specs.Trees.{Trees}
use Rattle.hs_declaration_forms.proofs.MergeLemmas.{Joins, joined_took}
use Rattle.hs_one_tree.specs.Found.{Found}
use Rattle.hs_one_tree.proofs.FoundLemmas.{found}

pub joined_found : {K P T : Type 0} (whole : Trees K T) (part : Trees K P) (make : P → T) (test : List K → Bool) →
    Joins whole part make test → (p : P) → part.formed p ≡ true → Found part p → Found whole (make p)
joined_found whole part make test j p is f good rest quiet =
    found whole (part.tokens p ++ rest) (make p) rest (part.deep p)
    (joined_took whole part make test j None (part.tokens p ++ rest) p rest (part.deep p)
    (f is rest (begins_within (whole.extends (make p)) (part.extends p) rest (j.extends p) quiet)))
