-- Fixities.
use Rattle.bp_base.specs.declared.entity.Fixity.{Fixity}
use Rattle.bp_base.specs.declared.entity.Assoc.TheVariants.{Left}

-- `infixl 9`, of an operator without a fixity declaration (Haskell 2010 Report, section 4.4.2)
abbrev pub default_fixity : Fixity
default_fixity = record { assoc = Left; level = 9 }
