-- What a module exports, as a function, and what is said of an answer.
use Rattle.std.specs.Prelude.{List, [], ◌∷◌, Option, Some, None, Result, Ok, Err, if◌then◌else◌}
use Rattle.std.specs.List.{flat_map}
use Rattle.bp_base.specs.Texts.{Text}
use Rattle.bp_base.specs.declared.ty.OrigName.{OrigName}
use Rattle.bp_base.specs.declared.entity.Con.{Con}
use Rattle.bp_base.specs.declared.entity.Export.{Export}
use Rattle.bp_checks.specs.Check.{Check}
use Rattle.hs_modules.specs.declared.module.Module.{Module}
use Rattle.hs_scopes.specs.declared.scope.Scope.{Scope}
use Rattle.hs_scopes.specs.Meanings.{name_of}
use Rattle.import_resolve.specs.declared.thing.Thing.{Thing}
use Rattle.import_resolve.specs.declared.error.ScopeError.{ScopeError}
use Rattle.import_resolve.specs.Scopes.{ScopeFault, OnFault, next}
use Rattle.import_resolve.specs.Exports.{is_con, sorted}
use Rattle.export_resolve.specs.Named.{if_named}
use Rattle.export_resolve.specs.Seen.{seen}
use Rattle.export_resolve.specs.Found.{is_owned, cons_of, offered_found}
use Rattle.export_resolve.specs.Clashes.{clash_of}

-- an answer passes a check, and a fault fails it
abbrev pub Judges : {B : Type 0} → Check B ScopeFault → Result B ScopeError → Type 0
Judges check (Ok b) = check.passes b
Judges check (Err e) = OnFault e check.fails

-- the types of the constructors of this name
abbrev pub con_owners : List Thing → Text → List OrigName
con_owners ts q = flat_map (λ t. if_named t.con q (name_of t.entity)) ts

abbrev pub if_offered : (Text → List OrigName) → OrigName → Con → List Text
if_offered owners n c = if is_owned owners n c.occ then c.occ ∷ [] else []

abbrev pub offered_among : (Text → List OrigName) → OrigName → List Con → List Text
offered_among owners n cs = flat_map (if_offered owners n) cs

-- a value or a type with its constructors that are offered
abbrev pub export_as : (Text → List OrigName) → Thing → Export
export_as owners t = record {
  occ = t.occ;
  entity = t.entity;
  cons = offered_among owners (name_of t.entity) (cons_of t.entity);
}

abbrev pub if_head_export : (Text → List OrigName) → Thing → List Export
if_head_export owners t = if is_con t then [] else export_as owners t ∷ []

abbrev pub all_exports : (Text → List OrigName) → List Thing → List Export
all_exports owners ts = flat_map (if_head_export owners) ts

abbrev pub unclashed : {B : Type 0} → Option Text → B → Result B ScopeFault
unclashed None b = Ok b
unclashed (Some x) b = Err (ScopeFault.ExportClash x)

abbrev pub exports_in : List Thing → Result (List Export) ScopeFault
exports_in ts = unclashed (clash_of ts) (sorted (all_exports (con_owners ts) ts))

abbrev pub exports_found : Module → List Export → Scope → Result (List Export) ScopeFault
exports_found m own scope = next (offered_found (seen m scope.items) m own scope.items) exports_in
