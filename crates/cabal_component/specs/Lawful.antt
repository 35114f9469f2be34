-- What holds of every component that is read.
use Rattle.std.specs.Prelude.{◌≡◌, ℕ, true, false, List, [], ◌∷◌, ◌++◌, map, codes, if◌then◌else◌}
use Rattle.std.specs.List.{AllByRecursion}
use Rattle.bp_base.specs.Lists.{Among, AreDistinct}
use Rattle.cabal_component.specs.declared.component.Component.{Component}
use Rattle.cabal_component.specs.declared.component.Mixin.{Mixin}
use Rattle.cabal_component.specs.declared.component.Provides.{Provides}
use Rattle.cabal_component.specs.declared.component.Provides.TheVariants.{Whole, Listed, Hiding}

-- the own modules and signatures, `Main` of an executable among them
abbrev pub own_names : Component → List (List ℕ)
own_names c = (if c.executable then codes "Main" ∷ [] else []) ++ (c.exposed ++ (c.other ++ c.signatures))

-- no two listed items have one new name
abbrev pub HasNewsApart : Provides → Type 0
HasNewsApart Whole = Unit {0}
HasNewsApart (Listed items) = AreDistinct (map (λ r. r.to) items)
HasNewsApart (Hiding names) = Unit {0}

-- no two listed items have one new name, and no two renamings of requirements one old name
pub record IsLawfulEntry (m : Mixin) : Type 0 where
  pub news : HasNewsApart m.provides
  pub olds : AreDistinct (map (λ r. r.from) m.needs)

-- No name stands twice among the own modules and signatures, and no dependency twice; entries are of dependencies; a
-- library has
-- no main file, and an executable no signatures, exposed modules or re-exports.
pub record IsLawful (c : Component) : Type 0 where
  pub own : AreDistinct (own_names c)
  pub deps : AreDistinct c.deps
  pub entries : AllByRecursion (λ (m : Mixin). Among m.dep c.deps × IsLawfulEntry m) c.mixins
  pub library : c.executable ≡ false → c.main_is ≡ []
  pub executable : c.executable ≡ true → (c.signatures ≡ []) × (c.exposed ≡ []) × (c.reexports ≡ [])
