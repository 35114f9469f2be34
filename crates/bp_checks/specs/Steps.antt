-- How many steps a function counts.
use Rattle.std.specs.Prelude.{◌≡◌, ◌≤◌, ◌+◌, ℕ, List, [], ◌∷◌}

-- Steps don't fall, and rise by no more than so many; by exactly so many where it is done.
pub record Spends (n old new : ℕ) (Done : Type 0) : Type 0 where
  pub later : old ≤ new
  pub most : new ≤ old + n
  pub all : Done → new ≡ old + n

-- the same, where what stands outside says how many
pub record Pays {X : Type 0} (meant : X → Type 0) (counts : X → ℕ → Type 0) (old new : ℕ) (Done : Type 0) : Type 0 where
  pub later : old ≤ new
  pub most : (x : X) (n : ℕ) → meant x → counts x n → new ≤ old + n
  pub all : (x : X) (n : ℕ) → meant x → counts x n → Done → new ≡ old + n

-- numbers, each of which is counted for its item, added up
abbrev pub Totals : {A : Type 0} → (A → ℕ → Type 0) → List A → ℕ → Type 0
Totals counts [] n = n ≡ 0
Totals counts (x ∷ xs) n = (a : ℕ) × (b : ℕ) × counts x a × Totals counts xs b × (n ≡ a + b)

-- A loop on its way that has counted steps: with what the rest counts it comes to what the whole counts.
pub record Spending {X A : Type 0} (meant : X → Type 0) (counts : X → A → ℕ
    → Type 0) (items rest : List A) (start now : ℕ) : Type 0 where
  pub later : start ≤ now
  pub left : (x : X) (n : ℕ) → meant x → Totals (counts x) items n
      → (m : ℕ) × Totals (counts x) rest m × (now + m ≡ start + n)
