-- Which lines of a package file ask for what isn't built yet: anything but a library of one module that depends on `base`
-- alone.
use Rattle.std.specs.Prelude.{◌≡◌, ◌+◌, ℕ, Bool, false, not, ◌&&◌, ◌==◌, Option, Some, None, List, [], ◌∷◌, ◌++◌, length, map}
use Rattle.std.specs.Prelude.{codes, nat_lt, if◌then◌else◌}
use Rattle.std.specs.List.{filter, flat_map, list_any}
use Rattle.std.specs.Str.{bytes_eq}
use Rattle.bp_base.specs.Lists.{is_among}
use Rattle.bp_base.specs.Texts.{Text}
use Rattle.bp_base.specs.declared.code.Code.TheVariants.{ComponentSyntax}
use Rattle.bp_base.specs.declared.defect.Item.TheVariants as item
use Rattle.bp_checks.specs.Check.{Check}
use Rattle.bp_checks.specs.Refused.{Refused, Wrong, defect_at}
use Rattle.cabal_text.specs.declared.lines.Line.{Line}
use Rattle.cabal_text.specs.Lines.{Block, blocks, kept_lines}
use Rattle.cabal_text.specs.Least.{least_of}
use Rattle.cabal_stanzas.specs.declared.heads.Head.{Head}
use Rattle.cabal_stanzas.specs.declared.heads.Head.TheVariants as h
use Rattle.cabal_stanzas.specs.declared.table.ComponentField.{ComponentField}
use Rattle.cabal_stanzas.specs.declared.table.ComponentField.TheVariants as f
use Rattle.cabal_stanzas.specs.Table.{is_field}
use Rattle.cabal_stanzas.specs.Stanzas.{fields_at}
use Rattle.cabal_stanzas.specs.Heads.{head_at, package_of, component_name}
use Rattle.cabal_component.specs.declared.component.Component.{Component}
use Rattle.cabal_component.specs.declared.given.Given.{Given}
use Rattle.cabal_component.specs.declared.given.Value.{Value}
use Rattle.cabal_component.specs.declared.given.Value.TheVariants as v
use Rattle.cabal_component.specs.Given.{lines_of}
use Rattle.cabal_component.specs.Package.{givens_in}

-- a listed name means another component than `base`: a package may have a library `base` of its own
abbrev pub is_other : Component → Text → Bool
is_other c name = not (bytes_eq name (codes "base") && is_among (codes "base") c.deps)

-- a field gives a signature, a re-export, a mixin or a dependency other than `base`
abbrev pub gives : Component → ComponentField → Option Value → Bool
gives c field None = false
gives c field (Some (v.Modules names)) = is_field field f.Signatures && nat_lt 0 (length names)
gives c field (Some (v.Renames renames)) = nat_lt 0 (length renames)
gives c field (Some (v.Main path)) = false
gives c field (Some (v.Dependencies names)) = list_any (is_other c) names
gives c field (Some (v.Mixins mixins)) = nat_lt 0 (length mixins)
gives c field (Some (v.Folders paths)) = false

abbrev pub asking_fields : Component → List Given → List ℕ
asking_fields c gs = map (λ g. g.line) (filter (λ g. gives c g.field g.value) gs)

-- these lines, or else the head's
abbrev pub or_head : ℕ → List ℕ → List ℕ
or_head head [] = head ∷ []
or_head head (l ∷ ls) = l ∷ ls

-- the fields that list modules, where there isn't one module; the head, where there is no such field
abbrev pub asking_modules : Component → ℕ → List Given → List ℕ
asking_modules c head gs =
    if length c.exposed + length c.other == 1 then [] else or_head head
    (lines_of f.ExposedModules gs ++ lines_of f.OtherModules gs)

-- the head of an executable
abbrev pub asking_head : Component → ℕ → List ℕ
asking_head c head = if c.executable then head ∷ [] else []

abbrev pub asking : Component → ℕ → List Given → List ℕ
asking c head gs = asking_head c head ++ (asking_modules c head gs ++ asking_fields c gs)

abbrev pub asking_stanza : Component → Text → Option Head → ℕ → List Line → List ℕ
asking_stanza c owner (Some (h.Component kind name)) head deeper =
    if bytes_eq (component_name owner kind name) c.name then asking c head (givens_in kind deeper) else []
asking_stanza c owner _ head deeper = []

abbrev pub asking_block : Component → Text → Block → List ℕ
asking_block c owner block = asking_stanza c owner (head_at block.line) block.line.number block.deeper

abbrev pub asking_blocks : Component → Text → List Line → List ℕ
asking_blocks c owner ls = flat_map (asking_block c owner) (blocks 0 ls)

-- the lines of a package file at which a component of it asks for what isn't built yet
abbrev pub asked : Component → List Line → List ℕ
asked c ls = asking_blocks c (package_of (fields_at 0 ls)) ls

-- it asks for nothing of these, or the least such line is refused
unfoldable pub asks_nothing : Component → Text → Check (Unit {0}) Refused
asks_nothing c content = record {
  passes = λ _. asked c (kept_lines content) ≡ [];
  fails = λ r. (line : ℕ) × (least_of (asked c (kept_lines content)) ≡ Some line)
      × (r ≡ Wrong (defect_at ComponentSyntax c.file [] (item.Line line)));
}
