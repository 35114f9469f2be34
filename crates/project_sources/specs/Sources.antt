-- The sources of a component: where each may stand, and what is read of them (Haskell 2010 Report, section 5.1; Cabal
-- manual, "hs-source-dirs").
use Rattle.std.specs.Prelude.{◌+◌, ◌-◌, ◌==◌, ℕ, Bool, true, false, Option, Some, None, List, [], ◌∷◌, ◌++◌, length}
use Rattle.std.specs.Prelude.{take, map, codes, if◌then◌else◌}
use Rattle.std.specs.Str.{bytes_eq}
use Rattle.bp_base.specs.Texts.{Text}
use Rattle.bp_base.specs.declared.code.Code.TheVariants.{NoSource}
use Rattle.bp_base.specs.declared.code.Which.TheVariants.{OwnModules}
use Rattle.bp_base.specs.declared.defect.Item.TheVariants.{Named}
use Rattle.bp_checks.specs.Check.{Check, ◌>>=◌, given, each}
use Rattle.bp_checks.specs.Refused.{Refused, Wrong, Passed, defect_at}
use Rattle.bp_edges.specs.declared.files.File.{File}
use Rattle.bp_edges.specs.Files.{content_at}
use Rattle.cabal_stanzas.specs.Folder.{behind_slash}
use Rattle.cabal_component.specs.declared.component.Component.{Component}
use Rattle.project_sources.specs.declared.sources.Wanted.{Wanted}
use Rattle.project_sources.specs.declared.sources.Source.{Source}
use Rattle.project_sources.specs.declared.sources.Input.{Input}
use Rattle.project_sources.specs.Limits.{Limits, at_most}
use Rattle.project_sources.specs.Reading.{sized, refused}

-- a path up to its last slash, with it
abbrev pub folder_part : Text → Text
folder_part path = take (length path - length (behind_slash path path)) path

-- what a folder of sources puts before a path: `.` puts nothing
abbrev pub before_file : Text → Text
before_file dir = if bytes_eq dir (codes ".") then [] else dir ++ codes "/"

-- a file in a folder of sources of a package file
abbrev pub path_in : Text → Text → Text → Text
path_in owner file dir = folder_part owner ++ before_file dir ++ file

-- a dot of a module's name is a slash of its path
abbrev pub slashed : Text → Text
slashed name = map (λ b. if b == 46 then 47 else b) name

abbrev pub wanted : Text → Text → Wanted
wanted name file = record { name = name; file = file }

-- signature `A.B` is `A/B.hsig`, module `A.B` is `A/B.hs`
abbrev pub signature_file : Text → Wanted
signature_file name = wanted name (slashed name ++ codes ".hsig")

abbrev pub module_file : Text → Wanted
module_file name = wanted name (slashed name ++ codes ".hs")

-- the main file of an executable is its module `Main`
abbrev pub main_files : Bool → Text → List Wanted
main_files true path = wanted (codes "Main") path ∷ []
main_files false path = []

-- what a component has sources of: signatures, modules as listed, and the main file
abbrev pub wanted_of : Component → List Wanted
wanted_of c = map signature_file c.signatures ++ map module_file c.exposed ++ map module_file c.other
    ++ main_files c.executable c.main_is

-- where a source may stand: in one folder of sources after another
abbrev pub paths_of : Component → Wanted → List Text
paths_of c w = map (path_in c.file w.file) c.dirs

abbrev pub source_at : Text → Text → Source
source_at path content = record { path = path; bytes = content }

abbrev pub or_later : Text → Option Text → Option Source → Option Source
or_later path None later = later
or_later path (Some content) later = Some (source_at path content)

-- the file at the first of these paths that has one
abbrev pub first_there : List File → List Text → Option Source
first_there files [] = None
first_there files (p ∷ ps) = or_later p (content_at files p) (first_there files ps)

abbrev pub first_path : List Text → Text
first_path [] = []
first_path (p ∷ ps) = p

-- a source is told to be absent at the first of its paths
abbrev pub absent_at : Text → Text → List Text → Refused
absent_at component at paths = Wrong (defect_at NoSource component at (Named (first_path paths)))

-- what a reading gives of a source
abbrev pub source_front : Source → Source
source_front s = source_at s.path (take 1048577 s.bytes)

-- a source whose content is within the limits
unfoldable pub sized_file : Limits → ℕ → Source → Check Source Refused
sized_file l seen s = sized l seen s.bytes >>= λ content. given (source_at s.path content)

abbrev pub sized_source : Limits → ℕ → Refused → Option Source → Check Source Refused
sized_source l seen absent None = refused absent
sized_source l seen absent (Some s) = sized_file l seen s

-- a source, where so many bytes were read before it
unfoldable pub source_found : Limits → List File → ℕ → Component → Wanted → Check Source Refused
source_found l files seen c w =
    sized_source l seen (absent_at c.name w.name (paths_of c w)) (first_there files (paths_of c w))

-- the bytes of sources
abbrev pub source_total : List Source → ℕ
source_total [] = 0
source_total (s ∷ ss) = length s.bytes + source_total ss

-- sources in order, each behind the bytes of those before it
unfoldable pub sources_found : Limits → List File → ℕ → Component → List Wanted → Check (List Source) Refused
sources_found l files seen c ws = each ws (λ done w. source_found l files (seen + source_total done) c w)

abbrev pub own_modules_hit : Refused
own_modules_hit = Passed (record { which = OwnModules; count = 513 })

abbrev pub input_of : Component → List Source → Input
input_of c sources = record { component = c; sources = sources }

-- a component with its sources, where so many bytes were read before them; it may not have too many
unfoldable pub gathered : Limits → List File → ℕ → Component → Check Input Refused
gathered l files seen c =
    at_most l.own_modules (length (wanted_of c)) own_modules_hit >>= λ _.
    sources_found l files seen c (wanted_of c) >>= λ sources. given (input_of c sources)
