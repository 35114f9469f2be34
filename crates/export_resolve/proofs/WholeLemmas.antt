-- What is found of a module is what it exports.
use Rattle.std.proofs.Common.{◌≡◌, refl, sym, ap, subst, ◌∙◌, inl, inr, Bool, true, false, List, [], ◌∷◌, ◌++◌, map, None, Some, append_assoc, append-nil, true≢false}
use Rattle.std.specs.Prelude.{Option, Result, Ok, Err, if◌then◌else◌, not}
use Rattle.std.specs.List.{flat_map}
use Rattle.bp_base.specs.Texts.{Text}
use Rattle.bp_base.specs.declared.ty.OrigName.{OrigName}
use Rattle.bp_base.specs.declared.entity.Con.{Con}
use Rattle.bp_base.specs.declared.entity.Entity.{Entity}
use Rattle.bp_base.specs.declared.entity.Entity.TheVariants.{Abstract, DataType, Synonym, Value}
use Rattle.bp_base.specs.declared.entity.Export.{Export}
use Rattle.bp_checks.specs.Check.{Check, ◌>>=◌, PassesAll, each, given}
use Rattle.hs_modules.specs.declared.module.Module.{Module}
use Rattle.hs_scopes.specs.declared.scope.Scope.{Scope}
use Rattle.hs_scopes.specs.Meanings.{name_of}
use Rattle.import_resolve.specs.declared.thing.Thing.{Thing}
use Rattle.import_resolve.specs.declared.error.ScopeError.{ScopeError}
use Rattle.import_resolve.specs.Scopes.{Answers, ScopeFault, next}
use Rattle.import_resolve.specs.Exports.{AreThose, Offers as IsOffered, con_names, export_of, exports_give, heads, is_con}
use Rattle.import_resolve.specs.Exports.{no_clash, offered, sorted}
use Rattle.export_resolve.specs.Seen.{seen}
use Rattle.export_resolve.specs.Found.{cons_of, is_owned, offered_found}
use Rattle.export_resolve.specs.Clashes.{clash_of}
use Rattle.export_resolve.specs.Whole.{Judges, all_exports, con_owners, export_as, exports_found, exports_in}
use Rattle.export_resolve.specs.Whole.{offered_among, unclashed}
use Rattle.export_resolve.proofs.JoinLemmas.{Meets, judged, met_by}
use Rattle.export_resolve.proofs.OwnedLemmas.{HasOwn, chosen_mapped, map_itself, owned_there, there_owned, those_chosen}
use Rattle.export_resolve.proofs.OfferedLemmas.{Offers, offered_met}
use Rattle.export_resolve.proofs.ClashLemmas.{ClashSays, clash_says}

-- ---- the constructors of an export

abbrev con_key : Thing → Text
con_key t = t.con

abbrev con_owner : Thing → OrigName
con_owner t = name_of t.entity

as_offer : (e : Entity) (c : Text) (ts : List Thing) → HasOwn con_key con_owner (name_of e) c ts → IsOffered ts e c
as_offer e c [] h = h
as_offer e c (t ∷ ts) (inl h) = inl h
as_offer e c (t ∷ ts) (inr h) = inr (as_offer e c ts h)

from_offer : (e : Entity) (c : Text) (ts : List Thing) → IsOffered ts e c → HasOwn con_key con_owner (name_of e) c ts
from_offer e c [] h = h
from_offer e c (t ∷ ts) (inl h) = inl h
from_offer e c (t ∷ ts) (inr h) = inr (from_offer e c ts h)

names_are : (e : Entity) → map (λ (c : Con). c.occ) (cons_of e) ≡ con_names e
names_are (Abstract n k) = refl
names_are (DataType n k p w cs) = refl
names_are (Synonym n k p t) = refl
names_are (Value n t f) = refl

cons_are : (ts : List Thing) (e : Entity)
    → AreThose (IsOffered ts e) (con_names e) (offered_among (con_owners ts) (name_of e) (cons_of e))
cons_are ts e =
    let test : Text → Bool = is_owned (con_owners ts) (name_of e) in
    let those = those_chosen (IsOffered ts e) (is_owned (con_owners ts) (name_of e)) (λ c. c)
    (λ c h. as_offer e c ts (owned_there con_key con_owner (name_of e) c ts h))
    (λ c h p. true≢false (sym (there_owned con_key con_owner (name_of e) c ts (from_offer e c ts p)) ∙ h)) (con_names e) in
    let mapped = chosen_mapped (λ (c : Con). c.occ) (is_owned (con_owners ts) (name_of e)) (λ c. c) (cons_of e) in
    let same : those.0 ≡ offered_among (con_owners ts) (name_of e) (cons_of e) =
    sym (mapped
    ∙ ap (λ (ns : List Text). flat_map (λ c. if is_owned (con_owners ts) (name_of e) c then c ∷ [] else []) ns) (names_are e)
    ∙ those.2 ∙ map_itself those.0) in
    subst (AreThose (IsOffered ts e) (con_names e)) same those.1

as_export : (ts : List Thing) (t : Thing) → (export_of ts t).passes (export_as (con_owners ts) t)
as_export ts t = (offered_among (con_owners ts) (name_of t.entity) (cons_of t.entity), cons_are ts t.entity, refl)

-- ---- all exports

one_head : (ts : List Thing) (done : List Export) (t : Thing) (rest : List Thing) (c : Bool)
    → ((into : List Export) → PassesAll (λ _ z. export_of ts z) into (heads rest) (into ++ all_exports (con_owners ts) rest))
    → PassesAll (λ _ z. export_of ts z) done (if not c then t ∷ heads rest else heads rest)
    (done ++ ((if c then [] else export_as (con_owners ts) t ∷ []) ++ all_exports (con_owners ts) rest))
one_head ts done t rest true h = h done
one_head ts done t rest false h = (
  export_as (con_owners ts) t,
  as_export ts t,
  subst (λ (es : List Export). PassesAll (λ _ z. export_of ts z) (done ++ export_as (con_owners ts) t ∷ []) (heads rest) es)
      (append_assoc done (export_as (con_owners ts) t ∷ []) (all_exports (con_owners ts) rest))
      (h (done ++ export_as (con_owners ts) t ∷ [])),
)

all_heads : (ts : List Thing) (done : List Export) (rest : List Thing)
    → PassesAll (λ _ z. export_of ts z) done (heads rest) (done ++ all_exports (con_owners ts) rest)
all_heads ts done [] = append-nil done
all_heads ts done (t ∷ rest) = one_head ts done t rest (is_con t) (λ into. all_heads ts into rest)

-- ---- the whole

abbrev behind_offer : List Thing → Check (List Export) ScopeFault
behind_offer ts =
    no_clash ts >>= λ us. (each (heads us) (λ done t. export_of us t) >>= λ es. given (sorted es))

in_by : (ts : List Thing) (r : Option Text) → ClashSays ts r
    → Meets (behind_offer ts) (unclashed r (sorted (all_exports (con_owners ts) ts)))
in_by ts None s = (ts, (refl, s), (all_exports (con_owners ts) ts, all_heads ts [] ts, refl))
in_by ts (Some n) s = inl (n, s.0, s.1, refl)

found_by : (m : Module) (own : List Export) (scope : Scope) (r : Result (List Thing) ScopeFault)
    → Offers (offered m own scope.items) r → Meets (exports_give m own scope) (next r exports_in)
found_by m own scope (Ok ts) o =
    met_by (offered m own scope.items) (λ parts. behind_offer (flat_map (λ us. us) parts)) o.0 (exports_in ts) o.1
    (subst (λ (us : List Thing). Meets (behind_offer us) (exports_in ts)) (sym o.2) (in_by ts (clash_of ts) (clash_says ts)))
found_by m own scope (Err e) o = inl o

pub exports_judged : (m : Module) (own : List Export) (scope : Scope) (r : Result (List Export) ScopeError)
    → Answers (exports_found m own scope) r → Judges (exports_give m own scope) r
exports_judged m own scope r a =
    judged (exports_give m own scope) (exports_found m own scope) r
    (found_by m own scope (offered_found (seen m scope.items) m own scope.items) (offered_met m own scope.items)) a
