-- Paths of package files and of their folders.
use Rattle.std.specs.Prelude.{ℕ, ◌-◌, Bool, false, Option, Some, None, List, [], ◌∷◌, ◌++◌, length, take, drop, codes}
use Rattle.std.specs.Prelude.{◌==◌, ◌||◌, if◌then◌else◌}
use Rattle.std.specs.List.{list_any, slice_split, starts_with, ends_with}
use Rattle.std.specs.Cmp.Lexicographic.{pointwise}
use Rattle.cabal_text.specs.Fields.{items_of}
use Rattle.cabal_text.specs.Tokens.{each_read}

-- the item without a leading `./`
unfoldable pub without_front : List ℕ → List ℕ
without_front item = if starts_with ◌==◌ item (codes "./") then drop 2 item else item

-- the item without a trailing `/`
unfoldable pub without_end : List ℕ → List ℕ
without_end item = if ends_with ◌==◌ item (codes "/") then take (length item - 1) item else item

-- the item without both
abbrev pub trimmed : List ℕ → List ℕ
trimmed item = without_end (without_front item)

-- a character of globs
unfoldable pub is_glob_char : ℕ → Bool
is_glob_char b = (b == 42) || (b == 63) || (b == 91) || (b == 93) || (b == 123) || (b == 125)

-- some part between slashes is `..`
unfoldable pub climbs : List ℕ → Bool
climbs item = list_any (λ part. pointwise ◌==◌ part (codes "..")) (slice_split (λ b. b == 47) item)

-- `://` stands in the item
abbrev pub is_address : List ℕ → Bool
is_address [] = false
is_address (b ∷ bs) = starts_with ◌==◌ (b ∷ bs) (codes "://") || is_address bs

-- the item is a glob or an address, or leaves a folder
unfoldable pub is_foreign : List ℕ → Bool
is_foreign item = list_any is_glob_char item || climbs item || is_address item

-- the path is that of the folder itself
unfoldable pub is_here : List ℕ → Bool
is_here path = (length path == 0) || pointwise ◌==◌ path (codes ".")

-- the item names no package file: it is foreign, or begins with `/` once a leading `./` is dropped, or is the folder
-- itself
unfoldable pub is_refused_item : List ℕ → Bool
is_refused_item item = is_foreign item || starts_with ◌==◌ (without_front item) (codes "/") || is_here (trimmed item)

-- what stands behind the last slash of the rest, or else this
abbrev pub behind_slash : List ℕ → List ℕ → List ℕ
behind_slash behind [] = behind
behind_slash behind (b ∷ bs) = if b == 47 then behind_slash bs bs else behind_slash behind bs

-- the package file at a path, which may be that of its folder: `d/x` means `d/x/x.cabal`
unfoldable pub package_file : List ℕ → List ℕ
package_file path = if ends_with ◌==◌ path (codes ".cabal") then path else path ++ codes "/" ++ behind_slash path path
    ++ codes ".cabal"

-- a folder of sources: `.` where nothing is left of it
unfoldable pub folder_at : List ℕ → List ℕ
folder_at path = if length path == 0 then codes "." else path

-- a folder of sources, which may not lead up
abbrev pub folder_of : List ℕ → Option (List ℕ)
folder_of item = if climbs item then None else Some (folder_at (trimmed item))

-- the folders of a list
abbrev pub folders_of : List ℕ → Option (List (List ℕ))
folders_of value = each_read folder_of (items_of value)
