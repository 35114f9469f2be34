use Rattle.std.proofs.Common.{◌≡◌, ◌++◌, length}
use Rattle.std.specs.List.{list_any}
use Rattle.cabal_stanzas.specs.Folder.{is_refused_item}
use Rattle.cabal_stanzas.specs.Project.{files_of}
use Rattle.cabal_text.specs.Fields.{items_of}
use Rattle.cabal_stanzas.proofs.project.read_list.Given as goal

abbrev pub invariant-loop-item : goal.invariant-loop-item
invariant-loop-item l = (list_any is_refused_item (items_of l.rest) ≡ list_any is_refused_item (items_of l.text))
    × (l.files ++ files_of l.rest ≡ l.fn.files ++ files_of l.text)

abbrev pub decreases-loop-item : goal.decreases-loop-item
decreases-loop-item l = length l.rest
