use Rattle.std.proofs.Common.{◌∙◌, ap, subst, Some, sym}
use Rattle.std.proofs.lemmas.Result.{err_from_is_err_and}
use Rattle.hs_core.specs.Globals.{globals_of}
use Rattle.kind_check.specs.Answers.{known_synonyms}
use Rattle.kind_env.specs.Listings.{known_kind}
use Rattle.type_drafts.specs.Drafts.{drafts}
use Rattle.kind_module.specs.Faults.{Finds}
use Rattle.kind_module.specs.Kinds.{types_give}
use Rattle.kind_module.proofs.KindLemmas.{groups_refused, whole_answer}
use Rattle.kind_module.proofs.module.kinds_give.Goals as goal

pub returns-in_err-kinds : goal.returns-in_err-kinds
returns-in_err-kinds c =
    let p = err_from_is_err_and c.from_residual.result c.from_residual.ensures.1 in
    rw (p.1, p.2) (record {
      gives = groups_refused (Some 1000) (globals_of c.args.outside.now) c.args.here.now c.args.decls.now
          c.in_err-kinds.field-0.0 c.in_err-kinds.ensures;
    })

pub returns : goal.returns
returns c = record {
  gives = whole_answer (Some 1000) (globals_of c.args.outside.now) c.args.here.now c.args.decls.now c.in_ok-kinds.kinds
      c.in_ok-own.own (known_kind c.in_ok-env.env.names) (known_synonyms c.in_ok-env.env.names) c.types_give.result
      c.in_ok-kinds.ensures
      (c.in_ok-own.ensures ∙ ap (λ z. drafts c.args.decls.now c.args.here.now c.args.decls.now z) c.as_slice.ensures)
      (λ n. c.in_ok-env.ensures.kinds n) (λ n. c.in_ok-env.ensures.synonyms n)
      (subst (λ z. Finds (types_give (Some 1000) (known_kind c.in_ok-env.env.names)
      (known_synonyms c.in_ok-env.env.names) c.args.here.now c.args.decls.now z) c.types_give.result)
      c.as_slice-2.ensures c.types_give.ensures);
}
