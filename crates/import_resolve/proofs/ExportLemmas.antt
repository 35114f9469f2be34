-- At most one list of exports, and at most one refusal of an export list.
use Rattle.std.proofs.Common.{◌≡◌, List, [], ◌∷◌, map, Bool, true, false, refl, sym, ap, ◌∙◌, inl, inr}
use Rattle.std.specs.Ordering.{nat_cmp, ordering_reverse}
use Rattle.std.specs.Cmp.Lexicographic.{slice_cmp}
use Rattle.std.specs.declared.cmp.Ordering.{Ordering}
use Rattle.std.specs.declared.cmp.Ordering.TheVariants.{Less, Equal, Greater}
use Rattle.std.proofs.lemmas.Cmp.{nat_list_cmp_total}
use Rattle.bp_base.specs.Texts.{Text}
use Rattle.bp_checks.specs.Check.{IsExact, refusing}
use Rattle.bp_checks.proofs.CheckLemmas.{IsExact-then, IsExact-given, IsExact-refusing, IsExact-each}
use Rattle.bp_base.proofs.TextLemmas.{tied_texts}
use Rattle.bp_base.specs.declared.ty.Space.{Space}
use Rattle.bp_base.specs.declared.ty.Space.TheVariants.{Types, Values}
use Rattle.bp_base.specs.declared.entity.Entity.{Entity}
use Rattle.bp_base.specs.declared.entity.Export.{Export}
use Rattle.hs_modules.specs.declared.module.SubsTree.{SubsTree}
use Rattle.hs_modules.specs.declared.module.SubsTree.TheVariants as s
use Rattle.hs_modules.specs.declared.module.ExportTree.{ExportTree}
use Rattle.hs_modules.specs.declared.module.ExportTree.TheVariants as x
use Rattle.hs_modules.specs.declared.module.Module.{Module}
use Rattle.hs_modules.specs.declared.module.Module.TheVariants as m
use Rattle.hs_scopes.specs.declared.scope.ScopeItem.{ScopeItem}
use Rattle.hs_scopes.specs.Words.{word_of}
use Rattle.import_resolve.specs.ImportLists.{sub_name}
use Rattle.import_resolve.specs.Scopes.{ScopeFault}
use Rattle.hs_scopes.specs.Meanings.{candidates}
use Rattle.import_resolve.specs.declared.thing.Thing.{Thing}
use Rattle.import_resolve.specs.Exports.{asked, named, qvar_name, main_name, AreThose, IsFirst, thing_of}
use Rattle.import_resolve.specs.Exports.{con_thing, thing_named, con_there, cons_there, subs_there, both_names}
use Rattle.import_resolve.specs.Exports.{export_gives, offered, no_clash, export_of, heads}
use Rattle.import_resolve.specs.Laws.{ExportsAreExact}
use Rattle.hs_scopes.specs.Meanings.{name_meant}
use Rattle.hs_scopes.proofs.MeaningLemmas.{exact_name}

-- of two texts neither of which stands behind the other, each is the other
least_by : (n o : Text) (r : Ordering) → slice_cmp nat_cmp n o ≡ r → (slice_cmp nat_cmp n o ≡ Greater → ⊥) →
    (slice_cmp nat_cmp o n ≡ Greater → ⊥) → n ≡ o
least_by n o Less e p q = absurd (q (nat_list_cmp_total.antisymm o n ∙ ap ordering_reverse e))
least_by n o Equal e p q = tied_texts n o e
least_by n o Greater e p q = absurd (p e)

those_one : {A : Type 0} (P : A → Type 0) (as' bs cs : List A) → AreThose P as' bs → AreThose P as' cs → bs ≡ cs
those_one P [] bs cs p q = p ∙ sym q
those_one P (a ∷ as') bs cs (inl p) (inl q) = p.3 ∙ ap (λ r. a ∷ r) (those_one P as' p.0 q.0 p.2 q.2) ∙ sym q.3
those_one P (a ∷ as') bs cs (inl p) (inr q) = absurd (q.0 p.1)
those_one P (a ∷ as') bs cs (inr p) (inl q) = absurd (p.0 q.1)
those_one P (a ∷ as') bs cs (inr p) (inr q) = those_one P as' bs cs p.1 q.1

first_one : (is : List ScopeItem) (i j : ScopeItem) → IsFirst is i → IsFirst is j → i ≡ j
first_one [] i j p q = absurd p
first_one (k ∷ is) i j p q = p ∙ sym q

exact_asked : {B R : Type 0} (t : Bool) (b : B) (r : R) → IsExact (asked t b r)
exact_asked true b r = IsExact-given b
exact_asked false b r = record {
  one_answer = λ b c p q. absurd p;
  one_refusal = λ a b p q. p ∙ sym q;
  never_both =
      λ b s p q. p;
}

exact_refused : (items : List ScopeItem) (space : Space) (n : Text) → IsExact
    (refusing (named n) (name_meant items space n))
exact_refused items space n = IsExact-refusing (named n) (name_meant items space n) (exact_name items space n)

exact_thing : (items : List ScopeItem) (space : Space) (n : Text) → IsExact (thing_named items space n)
exact_thing items space n = record {
  one_answer = λ t u p q. p.4 ∙ ap thing_of (first_one (candidates items space (word_of n)) p.0 q.0 p.3 q.3) ∙ sym q.4;
  one_refusal = (exact_refused items space n).one_refusal;
  never_both = λ t r p q. (exact_refused items space n).never_both p.1 r p.2 q;
}

exact_con : (items : List ScopeItem) (e : Entity) (c : Text) → IsExact (con_there items e c)
exact_con items e c = record {
  one_answer = λ t u p q. p.1 ∙ sym q.1;
  one_refusal = λ r t p q. p.1 ∙ sym q.1;
  never_both = λ t r p q. q.0 p.0;
}

exact_cons : (items : List ScopeItem) (e : Entity) → IsExact (cons_there items e)
exact_cons items e = record {
  one_answer = λ ts us p q. p.2 ∙ ap (map (con_thing e)) (those_one _ _ p.0 q.0 p.1 q.1) ∙ sym q.2;
  one_refusal = λ r t p q. absurd p;
  never_both = λ t r p q. q;
}

exact_both : (items : List ScopeItem) (n : Text) → IsExact (both_names items n)
exact_both items n = record {
  one_answer = λ ts us p q. p.2 ∙ ap (map thing_of) (those_one _ _ p.0 q.0 p.1 q.1) ∙ sym q.2;
  one_refusal = λ r t p q. absurd p;
  never_both = λ t r p q. q;
}

exact_subs : (items : List ScopeItem) (e : Entity) (subs : SubsTree) → IsExact (subs_there items e subs)
exact_subs items e s.All = exact_cons items e
exact_subs items e (s.Only names) = IsExact-each (λ done c. con_there items e (sub_name c))
    (λ done c. exact_con items e (sub_name c)) names

exact_export : (m : Module) (items : List ScopeItem) (e : ExportTree) → IsExact (export_gives m items e)
exact_export m items (x.Var n) = IsExact-then _ _ (exact_thing items Values (qvar_name n)) (λ t. IsExact-given _)
exact_export m items (x.Type n) = IsExact-then _ _ (exact_thing items Types n) (λ t. IsExact-given _)
exact_export m items (x.TypeWith n subs) = IsExact-then _ _ (exact_thing items Types n)
    (λ t. IsExact-then _ _ (exact_subs items t.entity subs) (λ cs. IsExact-given _))
exact_export m items (x.Module n) = IsExact-then _ _ (exact_asked _ n (ScopeFault.NotInScope n))
    (λ name. exact_both items n)

exact_offered : (x : Module) (own : List Export) (items : List ScopeItem) → IsExact (offered x own items)
exact_offered (m.Headless b) own items = IsExact-then _ _ (exact_thing items Values main_name) (λ t. IsExact-given _)
exact_offered (m.Named n b) own items = IsExact-given _
exact_offered (m.Exporting n es b) own items = IsExact-each (λ done e. export_gives (m.Exporting n es b) items e)
    (λ done e. exact_export (m.Exporting n es b) items e) es.exports
exact_offered (m.Signature n b) own items = IsExact-given _

exact_clash : (ts : List Thing) → IsExact (no_clash ts)
exact_clash ts = record {
  one_answer = λ us vs p q. p.0 ∙ sym q.0;
  one_refusal = λ r q p z. p.3 ∙ ap ScopeFault.ExportClash
      (least_by p.0 z.0 (slice_cmp nat_cmp p.0 z.0) refl (p.2 z.0 z.1) (z.2 p.0 p.1)) ∙ sym z.3;
  never_both = λ us r p z. p.1 z.0 z.1;
}

exact_export_of : (ts : List Thing) (t : Thing) → IsExact (export_of ts t)
exact_export_of ts t = record {
  one_answer = λ e g p q. p.2 ∙ ap (λ cs. record { occ = t.occ; entity = t.entity; cons = cs })
      (those_one _ _ p.0 q.0 p.1 q.1) ∙ sym q.2;
  one_refusal = λ r u p q. absurd p;
  never_both = λ e r p q. q;
}

pub exports_are_exact : ExportsAreExact
exports_are_exact m own scope =
    IsExact-then _ _ (exact_offered m own scope.items) (λ parts. IsExact-then _ _ (exact_clash _) (λ ts.
    IsExact-then _ _ (IsExact-each (λ done t. export_of ts t) (λ done t. exact_export_of ts t) (heads ts))
    (λ es. IsExact-given _)))
