-- Kinds of trees with all that their reader has to know, and how they are put together: the tokens of a tree, whether
-- it is well formed, how deep it is, and the tokens by which it could go on.
use Rattle.std.specs.Prelude.{◌≡◌, ℕ, ◌+◌, max, Bool, true, false, ◌&&◌, List, [], ◌∷◌, ◌++◌, Option}
use Rattle.hs_forms.specs.Reading.{Form, begins}
use Rattle.hs_forms.specs.Limits.{Within}
use Rattle.hs_forms.specs.Answers.{Sort, Accepts, Fails}
use Rattle.hs_forms.specs.declared.fault.Fault.{Fault}

pub record Trees (K T : Type 0) : Type 0 where
  pub tokens : T → List K
  pub formed : T → Bool
  pub deep : T → ℕ
  pub extends : T → K → Bool

-- the well formed trees within a limit
abbrev pub within : {K T : Type 0} → Trees K T → Option ℕ → Form K T
within a limit = record {
  tokens = a.tokens;
  Good = λ x. (a.formed x ≡ true) × Within limit (a.deep x);
  extends = a.extends;
}

abbrev pub sort_of : {K T : Type 0} → Trees K T → Option ℕ → Sort K T
sort_of a limit = record { form = within a limit; depth = a.deep }

-- such a tree was read from the front, or there is none
abbrev pub Took : {K T : Type 0} → Trees K T → Option ℕ → List K → T → List K → ℕ → Type 0
Took a limit ts x rest m = Accepts (within a limit) a.deep ts x rest m

abbrev pub Failed : {K T : Type 0} → Trees K T → Option ℕ → List K → Fault → Type 0
Failed a limit ts e = Fails (within a limit) ts e

-- trees behind a token
abbrev pub behind_token : {K T : Type 0} → K → Trees K T → Trees K T
behind_token k a = record { tokens = λ x. k ∷ a.tokens x; formed = a.formed; deep = a.deep; extends = a.extends }

-- trees and a token behind them, by which none of them goes on
abbrev pub ended : {K T : Type 0} → Trees K T → K → Trees K T
ended a k = record { tokens = λ x. a.tokens x ++ k ∷ []; formed = a.formed; deep = a.deep; extends = λ x t. false }

-- two trees in a row
abbrev pub row : {K A B : Type 0} → Trees K A → Trees K B → Trees K (A × B)
row a b = record {
  tokens = λ p. a.tokens p.0 ++ b.tokens p.1;
  formed = λ p. a.formed p.0 && b.formed p.1;
  deep = λ p. max (a.deep p.0) (b.deep p.1);
  extends = λ p. b.extends p.1;
}

-- The second of two trees in a row begins with tokens by which the first doesn't go on, and there is a least one.
pub record Follows {K A B : Type 0} (a : Trees K A) (b : Trees K B) (starter : K → Bool) : Type 0 where
  pub starts : (y : B) → begins starter (b.tokens y) ≡ true
  pub apart : (x : A) (k : K) → starter k ≡ true → a.extends x k ≡ false
  pub least : B
  pub least_formed : b.formed least ≡ true
  pub least_deep : b.deep least ≡ 0

-- A production that its first tokens tell from the others: its trees are made of parts and are so much deeper.
pub record Makes {K P T : Type 0} (whole : Trees K T) (part : Trees K P) (make : P → T) (used : ℕ)
    (test : List K → Bool) : Type 0 where
  pub spelled : (p : P) → whole.tokens (make p) ≡ part.tokens p
  pub formed : (p : P) → whole.formed (make p) ≡ part.formed p
  pub deep : (p : P) → whole.deep (make p) ≡ part.deep p + used
  pub extends : (p : P) (k : K) → whole.extends (make p) k ≡ false → part.extends p k ≡ false
  pub starts : (p : P) (after : List K) → part.formed p ≡ true → test (part.tokens p ++ after) ≡ true
  pub only : (x : T) (after : List K) → whole.formed x ≡ true → test (whole.tokens x ++ after) ≡ true →
      (p : P) × (x ≡ make p)

-- Trees of one kind among those of another: with the same tokens, and as well formed and as deep.
pub record Embeds {K A B : Type 0} (small : Trees K A) (big : Trees K B) (into : A → B) : Type 0 where
  pub tokens : (x : A) → big.tokens (into x) ≡ small.tokens x
  pub formed : (x : A) → big.formed (into x) ≡ small.formed x
  pub deep : (x : A) → big.deep (into x) ≡ small.deep x
  pub extends : (x : A) (k : K) → small.extends x k ≡ false → big.extends (into x) k ≡ false
  pub one : (x y : A) → into x ≡ into y → x ≡ y
