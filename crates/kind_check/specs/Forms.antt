-- Kinds with unknowns, as types of unification: an arrow is an application, and `*` the rigid variable 0.
use Rattle.std.specs.Prelude.{◌≡◌, ◌↔◌, ℕ, ◌<◌, Bool, true, nat_lt, List}
use Rattle.type_terms.specs.Terms.{var, con, app}
use Rattle.hs_core.specs.Types.{KindTerm, star, arrow}
use Rattle.type_unify.specs.Types.{Head, Plain, rigid, Assignment, Bound, Solves, IsTriangular, EveryBound}
use Rattle.type_unify.specs.Types.{resolved}

-- a kind for each unknown
abbrev pub Guess : Type 0
Guess = ℕ → KindTerm

-- a kind as a type of unification
abbrev pub code : KindTerm → Plain
code star = con (rigid 0)
code (arrow j k) = app (code j) (code k)

-- the kind of a type of unification; what stays undecided becomes `*`
abbrev pub decided : Plain → KindTerm
decided (var i) = star
decided (con h) = star
decided (app f a) = arrow (decided f) (decided a)

-- the kind where unknowns have theirs
abbrev pub value : Guess → Plain → KindTerm
value g (var i) = g i
value g (con h) = star
value g (app f a) = arrow (value g f) (value g a)

-- a kind with unknowns below n
abbrev pub IsForm : ℕ → Plain → Type 0
IsForm n (var i) = i < n
IsForm n (con h) = h ≡ rigid 0
IsForm n (app f a) = IsForm n f × IsForm n a

abbrev pub coded : Guess → Assignment
coded g i = code (g i)

-- the guess meets the bindings
abbrev pub Meets : Guess → List Bound → Type 0
Meets g bs = Solves (coded g) bs

abbrev pub is_below : ℕ → ℕ → Bool
is_below n i = nat_lt i n

abbrev pub any_name : Head → Bool
any_name h = true

-- bindings of kinds whose unknowns are below n
pub record AreReady (bs : List Bound) (n : ℕ) : Type 0 where
  pub triangular : IsTriangular bs
  pub below : EveryBound (is_below n) any_name bs
  pub decides : (s : Assignment) → Solves s bs → Meets (λ i. decided (s i)) bs

-- two kinds were made equal: the guesses that meet the new bindings are those that meet the old ones and make them
-- equal
pub record Equated (old new : List Bound) (n : ℕ) (s t : Plain) : Type 0 where
  pub ready : AreReady new n
  pub meets : (g : Guess) → Meets g new ↔ Meets g old × (value g s ≡ value g t)

abbrev pub NotEqual : List Bound → Plain → Plain → Type 0
NotEqual bs s t = (g : Guess) → Meets g bs → value g s ≡ value g t → ⊥

-- what the bindings leave undecided becomes `*`
abbrev pub settled : List Bound → Guess
settled bs i = decided (resolved bs (var i))
