-- Modules and signatures as one kind of trees.
use Rattle.std.specs.Prelude.{ℕ, Option}
use Rattle.hs_forms.specs.Answers.{Sort}
use Rattle.hs_tokens.specs.declared.terminal.Terminal.{Terminal}
use Rattle.hs_modules.specs.Modules.{depth_of_module}
use Rattle.hs_modules.specs.ModuleForms.{items_form}
use Rattle.hs_modules.specs.declared.module.Module.{Module}

-- a module or a signature
abbrev pub items_sort : Option ℕ → Sort Terminal Module
items_sort limit = record { form = items_form limit; depth = depth_of_module }
