use Rattle.std.proofs.Common.{◌≡◌, ◌++◌, ◌∷◌, [], List, ℕ, get_or, sym, ap, ◌∙◌, subst}
use Rattle.std.specs.Prelude.{slice_set}
use Rattle.std.proofs.lemmas.List.{get_or_read}
use Rattle.std.proofs.lemmas.Result.{on_ok_weaker}
use Rattle.hs_core.specs.declared.group.UseList.{UseList}
use Rattle.hs_core.specs.Walking.{IsUsedBy}
use Rattle.hs_core.proofs.GroupingLemmas.{used-one}
use Rattle.hs_core.proofs.group.add_user.Goals as goal

pub returns : goal.returns
returns c =
    let e : get_or c.args.users.now c.args.used c.index-users-used.result ≡ get_or c.args.users.now c.args.used
    (record { uses = [] }) =
    sym c.index-users-used.is ∙ get_or_read c.args.users.now c.args.used c.index-users-used.result c.requires
    c.index-users-used.is (record { uses = [] }) in
    on_ok_weaker c.push.result
    (λ h. subst (λ (us : List ℕ). IsUsedBy c.args.users.now
    (slice_set c.args.users.now c.args.used (record { uses = us })) (c.args.used ∷ []) c.args.user)
    (sym (h ∙ ap (λ (u : UseList). u.uses ++ c.args.user ∷ []) e))
    (used-one c.args.users.now c.args.used c.args.user c.requires))
    c.push.ensures.ok
