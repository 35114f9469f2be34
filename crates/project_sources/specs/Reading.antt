-- What is read of a file.
use Rattle.std.specs.Prelude.{◌≡◌, ◌+◌, ℕ, Option, Some, None, List, length, Result, Ok, Err}
use Rattle.bp_base.specs.Texts.{Text}
use Rattle.bp_base.specs.declared.code.Code.TheVariants.{NoSource}
use Rattle.bp_base.specs.declared.code.Which.TheVariants.{FileBytes, SourceBytes}
use Rattle.bp_base.specs.declared.defect.Item.TheVariants.{Named}
use Rattle.bp_checks.specs.Check.{Check, ◌>>◌, given}
use Rattle.bp_checks.specs.Refused.{Refused, Wrong, Passed, defect_at}
use Rattle.bp_checks.specs.Stop.{OnStop}
use Rattle.bp_checks.specs.declared.stop.Stop.{Stop}
use Rattle.bp_edges.specs.declared.files.File.{File}
use Rattle.bp_edges.specs.Files.{content_at}
use Rattle.project_sources.specs.Limits.{Limits, at_most}

abbrev pub file_hit : Refused
file_hit = Passed (record { which = FileBytes; count = 1048577 })

abbrev pub source_hit : Refused
source_hit = Passed (record { which = SourceBytes; count = 33554433 })

-- a content is within the limit of a file, and then, with what was read before it, within that of all files
unfoldable pub sized : Limits → ℕ → Text → Check Text Refused
sized l seen content =
    at_most l.file_bytes (length content) file_hit
    >> at_most l.source_bytes (seen + length content) source_hit >> given content

-- this is refused
abbrev pub refused : {B : Type 0} → Refused → Check B Refused
refused q = record { passes = λ b. ⊥; fails = λ r. r ≡ q }

abbrev pub sized_if : Limits → ℕ → Refused → Option Text → Check Text Refused
sized_if l seen absent None = refused absent
sized_if l seen absent (Some content) = sized l seen content

-- The content of a file that has to be there, where so many bytes were read before it. Its absence is told with this
-- component and module.
unfoldable pub whole_file : Limits → List File → ℕ → Text → Text → Text → Check Text Refused
whole_file l files seen component at path =
    sized_if l seen (Wrong (defect_at NoSource component at (Named path))) (content_at files path)

-- what is answered by a check, where nothing is read
abbrev pub Stops : {B : Type 0} → Check B Refused → Result B Stop → Type 0
Stops check (Ok b) = check.passes b
Stops check (Err stop) = OnStop stop check.fails
