-- How large and how deep trees are: the steps by which the extent of a tree is made from those of its parts. The size
-- is the number of
-- nodes, one for each production of the grammar. Brackets, blocks and operators make a tree deeper.
use Rattle.std.specs.Prelude.{ℕ, ◌+◌, max, List, map, sum}
use Rattle.hs_forms.specs.Limits.{deepest}

pub record Extent : Type 0 where
  pub size : ℕ
  pub depth : ℕ

abbrev pub size_of : Extent → ℕ
size_of e = e.size

abbrev pub depth_of : Extent → ℕ
depth_of e = e.depth

-- no tree
abbrev pub nothing : Extent
nothing = record { size = 0; depth = 0 }

-- trees beside one another
abbrev pub beside : Extent → Extent → Extent
beside e f = record { size = e.size + f.size; depth = max e.depth f.depth }

abbrev pub all_beside : List Extent → Extent
all_beside es = record { size = sum (map size_of es); depth = deepest (map depth_of es) }

-- a node above them
abbrev pub node : Extent → Extent
node e = record { size = 1 + e.size; depth = e.depth }

-- so many nodes more, which have no depth
abbrev pub with_nodes : ℕ → Extent → Extent
with_nodes nodes e = record { size = e.size + nodes; depth = e.depth }

-- brackets about them, or so many operators before them
abbrev pub deeper : ℕ → Extent → Extent
deeper by e = record { size = e.size; depth = e.depth + by }

-- a node that stands for names or literals
abbrev pub leaf : Extent
leaf = record { size = 1; depth = 0 }
