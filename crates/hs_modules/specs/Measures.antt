-- Numbers of nodes and depths as the code counts them, each at most the greatest u64.
use Rattle.std.specs.Prelude.{ℕ, ◌+◌, max, min, List, map, sum}
use Rattle.hs_forms.specs.Limits.{deepest}
use Rattle.hs_modules.specs.declared.measure.Measure.{Measure}
use Rattle.hs_modules.specs.Extents.{Extent}

-- the greatest u64
abbrev pub most : ℕ
most = 18446744073709551615

unfoldable pub capped : ℕ → ℕ → Measure
capped size depth = record { size = min size most; depth = min depth most }

-- an extent as the code counts it
unfoldable pub measured : Extent → Measure
measured e = capped e.size e.depth

unfoldable pub nothing : Measure
nothing = record { size = 0; depth = 0 }

unfoldable pub leaf : Measure
leaf = record { size = 1; depth = 0 }

unfoldable pub beside : Measure → Measure → Measure
beside m n = record { size = min (m.size + n.size) most; depth = max m.depth n.depth }

unfoldable pub node : Measure → Measure
node m = record { size = min (m.size + 1) most; depth = m.depth }

unfoldable pub deeper : ℕ → Measure → Measure
deeper by m = record { size = m.size; depth = min (m.depth + by) most }

unfoldable pub with_nodes : ℕ → Measure → Measure
with_nodes nodes m = record { size = min (m.size + nodes) most; depth = m.depth }

-- of all the trees of a list
unfoldable pub all_measured : {T : Type 0} → (T → Measure) → List T → Measure
all_measured measure trees = record {
  size = min (sum (map (λ t. (measure t).size) trees)) most;
  depth = deepest (map (λ t. (measure t).depth) trees);
}
