use Rattle.std.proofs.Common.{◌≡◌, ◌++◌, length}
use Rattle.std.specs.Prelude.{option_map}
use Rattle.cabal_text.specs.Fields.{items_of}
use Rattle.cabal_text.specs.Tokens.{each_read}
use Rattle.cabal_stanzas.specs.Folder.{folder_of, folders_of}
use Rattle.cabal_stanzas.proofs.folder.folders_of.Given as goal

abbrev pub invariant-loop-item : goal.invariant-loop-item
invariant-loop-item l = option_map (λ more. l.folders ++ more)
    (each_read folder_of (items_of l.rest)) ≡ folders_of l.value

abbrev pub decreases-loop-item : goal.decreases-loop-item
decreases-loop-item l = length l.rest
