-- Files, by their paths.
use Rattle.std.specs.Prelude.{◌≡◌, ◌≢◌, Option, Some, None, List, [], ◌∷◌, if◌then◌else◌}
use Rattle.std.specs.Str.{bytes_eq}
use Rattle.bp_base.specs.Texts.{Text}
use Rattle.bp_edges.specs.declared.files.File.{File}

-- the content of the first file at a path
abbrev pub content_at : List File → Text → Option Text
content_at [] path = None
content_at (file ∷ files) path = if bytes_eq file.path path then Some file.bytes else content_at files path

-- new is old with this content at this path
pub record Holds (old new : List File) (path content : Text) : Type 0 where
  pub there : content_at new path ≡ Some content
  pub others : (other : Text) → other ≢ path → content_at new other ≡ content_at old other
