use Rattle.std.proofs.Common.{◌≡◌, ap, ◌∙◌}
use mathlib.Core.Path.{fun_ext}
use Rattle.std.specs.HashSet.{contains}
use Rattle.std.specs.Str.{bytes_eq}
use Rattle.bp_base.specs.Lists.{is_among}
use Rattle.cabal_stanzas.specs.Stanzas.{fields_at}
use Rattle.cabal_stanzas.specs.Heads.{package_of}
use Rattle.cabal_component.specs.Reading.{own_libraries, is_own}
use Rattle.cabal_component.proofs.reading.package_file.Goals as goal

pub returns-clause-components : goal.returns-clause-components
returns-clause-components c =
    let fields : c.deref.result.now ≡ fields_at 0 c.args.lines.now = c.deref.ensures.value ∙ c.in_ok-fields.ensures in
    let owner : c.in_ok-owner.owner ≡ package_of (fields_at 0 c.args.lines.now) = c.in_ok-owner.ensures
    ∙ ap package_of fields in
    let names : c.as_slice.result.now ≡ own_libraries c.args.lines.now = c.as_slice.ensures ∙ c.in_ok-names.ensures in
    let own : contains bytes_eq c.in_ok-own.own ≡ is_own c.args.lines.now =
    fun_ext (λ q. c.in_ok-own.ensures q ∙ ap (is_among q) names) in
    rw (owner, own) at c.in_ok-found.ensures.components
