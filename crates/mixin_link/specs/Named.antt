-- Refusals of entries, with their dependency.
use Rattle.std.specs.Prelude.{◌≡◌, ◌⊎◌}
use Rattle.bp_base.specs.Texts.{Text}
use Rattle.mixin_names.specs.declared.error.NameError.{NameError}
use Rattle.mixin_names.specs.declared.error.NameError.TheVariants as name
use Rattle.mixin_link.specs.declared.error.LinkError.{LinkError}
use Rattle.mixin_link.specs.declared.error.LinkError.TheVariants.{NoProvision, NoRequirement, NoMemory}

-- the same refusal, or memory is wanting
abbrev pub Named : Text → NameError → LinkError → Type 0
Named dep (name.NoProvision n) e = (e ≡ NoProvision dep n) ⊎ (e ≡ NoMemory)
Named dep (name.NoRequirement n) e = (e ≡ NoRequirement dep n) ⊎ (e ≡ NoMemory)
Named dep name.NoMemory e = e ≡ NoMemory
