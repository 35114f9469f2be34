-- What an export list looks up.
use Rattle.std.specs.Prelude.{Bool, List}
use Rattle.std.specs.HashSet.{contains}
use Rattle.std.specs.Str.{bytes_eq}
use Rattle.bp_base.specs.Texts.{Text}
use Rattle.bp_base.specs.declared.ty.OrigName.{OrigName}
use Rattle.hs_modules.specs.declared.module.Module.{Module}
use Rattle.hs_scopes.specs.declared.scope.ScopeItem.{ScopeItem}
use Rattle.import_resolve.specs.Exports.{is_qualifier}
use Rattle.export_resolve.specs.Named.{all_at, items_named, owners_named}
use Rattle.export_resolve.specs.declared.seen.SeenTable.{SeenTable}

-- by occurrence what is in scope, by a constructor's name the types that have it, and the names before a dot
pub record Seen : Type 0 where
  pub named : Text → List ScopeItem
  pub owners : Text → List OrigName
  pub qualifies : Text → Bool

abbrev pub seen : Module → List ScopeItem → Seen
seen m items = record {
  named = items_named items;
  owners = owners_named items;
  qualifies = is_qualifier m;
}

-- what a table says
abbrev pub seen_at : SeenTable → Seen
seen_at t = record {
  named = all_at t.named;
  owners = all_at t.owners;
  qualifies = contains bytes_eq t.qualifiers;
}
