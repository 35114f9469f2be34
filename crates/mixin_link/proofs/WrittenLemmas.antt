-- Linkings written down.
use Rattle.std.proofs.Common.{◌≡◌, List}
use Rattle.bp_base.specs.declared.ident.Ident.{Ident}
use Rattle.bp_base.specs.Texts.{Text}
use Rattle.mixin_link.specs.declared.open.OpenInclude.{OpenInclude}
use Rattle.mixin_link.specs.Answers.{linking_under}

-- assignments that are equal at each name give one linking
pub same-linking : (s t : Text → Ident) (required : List Text) (is : List OpenInclude) → ((n : Text) → s n ≡ t n)
    → linking_under s required is ≡ linking_under t required is
same-linking s t required is k = λ j. linking_under (λ n. k n j) required is
