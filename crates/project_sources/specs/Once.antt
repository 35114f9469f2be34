-- Which component of a project is the second one of its name.
use Rattle.std.specs.Prelude.{◌≡◌, Bool, Option, Some, None, List, [], ◌∷◌, ◌++◌, ◌||◌, ◌==◌, take, codes, length}
use Rattle.std.specs.Prelude.{not, if◌then◌else◌}
use Rattle.std.specs.List.{prefix_len}
use Rattle.std.specs.Str.{bytes_eq}
use Rattle.bp_base.specs.Lists.{is_among}
use Rattle.bp_base.specs.Texts.{Text}
use Rattle.bp_base.specs.declared.code.Code.TheVariants.{TwiceComponent}
use Rattle.bp_base.specs.declared.code.Which.TheVariants.{Components}
use Rattle.bp_base.specs.declared.defect.Item.TheVariants.{Nothing}
use Rattle.bp_checks.specs.Check.{Check, ◌>>◌}
use Rattle.bp_checks.specs.Refused.{Refused, Wrong, Passed, defect_at}
use Rattle.cabal_component.specs.declared.component.Component.{Component}
use Rattle.project_sources.specs.Limits.{Limits, at_most}

-- the package of a component: its name up to the first colon
abbrev pub package_part : Text → Text
package_part name = take (prefix_len (λ b. not (b == 58)) name) name

-- a component of the package `base`, which is built in
abbrev pub is_of_base : Text → Bool
is_of_base name = bytes_eq (package_part name) (codes "base")

-- the first component whose name stands before it, or whose package is `base`
abbrev pub twice_after : List Text → List Component → Option Text
twice_after seen [] = None
twice_after seen (c ∷ cs) =
    if is_of_base c.name || is_among c.name seen then Some c.name else twice_after (seen ++ c.name ∷ []) cs

abbrev pub once : List Component → Check (Unit {0}) Refused
once cs = record {
  passes = λ _. twice_after [] cs ≡ None;
  fails = λ r. (name : Text) × (twice_after [] cs ≡ Some name)
      × (r ≡ Wrong (defect_at TwiceComponent name [] Nothing));
}

abbrev pub components_hit : Refused
components_hit = Passed (record { which = Components; count = 513 })

-- each component of a project has a name of its own, and they are not too many
unfoldable pub told_apart : Limits → List Component → Check (Unit {0}) Refused
told_apart l cs = once cs >> at_most l.components (length cs) components_hit
