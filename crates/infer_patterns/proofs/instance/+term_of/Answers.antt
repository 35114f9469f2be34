use Rattle.std.proofs.Common.{sym, ap, ◌∙◌, map}
use Rattle.hs_core.specs.Types.{kind_term}
use Rattle.type_terms.specs.Terms.{app}
use Rattle.kind_check.specs.Forms.{code}
use Rattle.infer_patterns.specs.Names.{argument_kind, noted_kind}
use Rattle.infer_patterns.proofs.NameLemmas.{instance_made}
use Rattle.infer_patterns.proofs.instance.+term_of.Goals as goal

pub returns-in_ok-app-in-App-2-clause-ok : goal.returns-in_ok-app-in-App-2-clause-ok
returns-in_ok-app-in-App-2-clause-ok t c =
    c.in_ok-app-in-App-2.ensures ∙ ap (λ f. app f c.in_ok-arg-in-App.arg) c.in_ok-app-in-App.ensures
    ∙ instance_made (map kind_term c.args.kinds.now) c.args.first c.args.ty.now c.in-App.fun c.in-App.arg
    c.get-in-App.result.now c.get-in-App-2.result.now c.in_ok-fun-in-App.fun c.in_ok-arg-in-App.arg c.in_ok-at-in-App.at
    c.in-App.is c.get-in-App.ensures c.get-in-App-2.ensures
    (c.in_ok-at-in-App.ensures ∙ ap (λ k. code (argument_kind k)) c.in_ok-kind-in-App.ensures
    ∙ ap (λ g. code (argument_kind (noted_kind (map kind_term c.args.kinds.now) g)))
    (c.get.ensures ∙ sym c.get-in-App.ensures))
    c.in_ok-fun-in-App.ensures.ok c.in_ok-arg-in-App.ensures.ok
