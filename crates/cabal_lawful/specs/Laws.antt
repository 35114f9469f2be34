-- Every component that is read is lawful.
use Rattle.std.specs.Prelude.{◌≡◌, ℕ, List, []}
use Rattle.std.specs.List.{AllByRecursion}
use Rattle.cabal_text.specs.declared.lines.Line.{Line}
use Rattle.cabal_component.specs.Package.{package_refused}
use Rattle.cabal_component.specs.Reading.{components_of}
use Rattle.cabal_component.specs.Lawful.{IsLawful}

-- where no line of a package file is refused, its components are lawful
abbrev pub AreLawful : Type 0
AreLawful = (file : List ℕ) (ls : List Line) → package_refused ls ≡ [] → AllByRecursion IsLawful (components_of file ls)
