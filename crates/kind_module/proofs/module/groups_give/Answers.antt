use Rattle.std.proofs.Common.{subst}
use Rattle.hs_core.specs.Globals.{globals_of}
use Rattle.kind_check.specs.Scopes.{decls_of, known_names}
use Rattle.declared_kinds.specs.Sources.{IsSourceError}
use Rattle.kind_module.proofs.KindLemmas.{groups_pass, groups_fail}
use Rattle.kind_module.proofs.module.groups_give.Goals as goal

pub returns-in-Ok : goal.returns-in-Ok
returns-in-Ok c =
    groups_pass (known_names c.in_ok-env.env.names) (globals_of c.args.outside.now) c.args.here.now c.args.decls.now
    (decls_of c.in_ok-heads.heads) (λ n j. c.in_ok-env.ensures.kinds n j) c.in_ok-heads.ensures c.in-Ok.kinds
    c.in-Ok.ensures.ok

pub returns-in-Err-Kind : goal.returns-in-Err-Kind
returns-in-Err-Kind c =
    groups_fail (known_names c.in_ok-env.env.names) (globals_of c.args.outside.now) c.args.here.now c.args.decls.now
    (decls_of c.in_ok-heads.heads) (λ n j. c.in_ok-env.ensures.kinds n j) c.in_ok-heads.ensures c.in-Err-Kind.occ
    (subst (IsSourceError (known_names c.in_ok-env.env.names) c.in_ok-heads.heads) c.in-Err-Kind.field-0-is
    c.in-Err-Kind.ensures.err)
