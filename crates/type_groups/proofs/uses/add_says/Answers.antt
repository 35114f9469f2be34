use Rattle.std.proofs.Common.{subst, ◌≡◌, List}
use Rattle.std.specs.Prelude.{flat_map}
use Rattle.bp_base.specs.Texts.{Text}
use Rattle.type_unify.proofs.StackingLemmas.{OnOk-then}
use Rattle.hs_core.specs.WellTyped.{field_terms}
use Rattle.kind_check.specs.Scopes.{decls_of}
use Rattle.type_groups.specs.Uses.{with_numbers, uses_in}
use Rattle.type_groups.proofs.UseLemmas.{fields_used, body_used}
use Rattle.type_groups.proofs.uses.add_says.Goals as goal

pub returns-in-Fields : goal.returns-in-Fields
returns-in-Fields c =
    OnOk-then c.add_cons.result
    (λ e. fields_used (decls_of c.args.decls.now) c.args.says.now c.in-Fields.cons c.args.numbers.now
    c.add_cons.new.numbers c.in-Fields.is
    (subst (λ cs. (ps : List Text) → c.add_cons.new.numbers
    ≡ with_numbers c.args.numbers.now (uses_in (decls_of c.args.decls.now) (flat_map (field_terms ps) cs)))
    c.as_slice.ensures e)) c.add_cons.ensures

pub returns-in-Synonym : goal.returns-in-Synonym
returns-in-Synonym c =
    OnOk-then c.add_type.result
    (λ e. body_used (decls_of c.args.decls.now) c.args.says.now c.in-Synonym.body c.args.numbers.now
    c.add_type.new.numbers c.in-Synonym.is e) c.add_type.ensures
