-- The longest piece that stands at the front of a text.
use Rattle.std.specs.Prelude.{◌≡◌, ℕ, ◌<◌, ◌≤◌, List, length, take, drop, Option, Some, None}

-- what bytes spell, before the bytes that follow them
abbrev pub Spelling : Type 0 → Type 0
Spelling A = List ℕ → List ℕ → Option A

-- n bytes of the text spell x, and more than n bytes of it spell nothing
pub record Longest {A : Type 0} (spells : Spelling A) (text : List ℕ) (x : A) (n : ℕ) : Type 0 where
  pub within : n ≤ length text
  pub spelled : spells (take n text) (drop n text) ≡ Some x
  pub longest : (m : ℕ) → m ≤ length text → n < m → spells (take m text) (drop m text) ≡ None

-- no bytes at the front of the text spell anything
abbrev pub Never : {A : Type 0} → Spelling A → List ℕ → Type 0
Never spells text = (m : ℕ) → m ≤ length text → spells (take m text) (drop m text) ≡ None

-- what is found is the longest, and where nothing is found there is nothing
abbrev pub Finds : {A : Type 0} → Spelling A → List ℕ → A → Option ℕ → Type 0
Finds spells text x None = Never spells text
Finds spells text x (Some n) = Longest spells text x n

-- a spelling that does not look at what follows
abbrev pub alone : {A : Type 0} → (List ℕ → Option A) → Spelling A
alone g w rest = g w
