use Rattle.std.proofs.Common.{◌≡◌, ◌++◌, drop, map}
use Rattle.project_sources.specs.Sources.{path_in}
use Rattle.project_sources.proofs.sources.paths_of.Given as goal

abbrev pub invariant-loop-dir : goal.invariant-loop-dir
invariant-loop-dir l =
    l.paths ++ map (path_in l.component.file l.wanted.file) (drop l.dir-index l.component.dirs)
    ≡ map (path_in l.component.file l.wanted.file) l.component.dirs
