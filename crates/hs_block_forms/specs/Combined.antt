-- Kinds of trees put together of others, for guards, right sides, alternatives and blocks.
use Rattle.std.specs.Prelude.{◌≡◌, ℕ, max, Bool, true, false, not, ◌&&◌, ◌||◌, List, [], ◌∷◌, ◌++◌, length, flat_map}
use Rattle.std.specs.Prelude.{map}
use Rattle.std.specs.Prelude.{Option}
use Rattle.hs_forms.specs.Reading.{begins}
use Rattle.hs_forms.specs.Limits.{deepest, all_of}
use Rattle.hs_expression_forms.specs.Trees.{Trees}
use Rattle.hs_expression_forms.specs.Expressions.{few, last_part}

-- trees that are followed by such a token, or by none
abbrev pub narrowed : {K T : Type 0} → Trees K T → (K → Bool) → Trees K T
narrowed a follow =
    record { tokens = a.tokens; formed = a.formed; deep = a.deep; extends = λ x k. not (follow k) }

-- those trees that fit, and a token behind them, by which none of them goes on
abbrev pub ended_if : {K T : Type 0} → Trees K T → (T → Bool) → K → Trees K T
ended_if a fits k = record {
  tokens = λ x. a.tokens x ++ k ∷ [];
  formed = λ x. a.formed x && fits x;
  deep = a.deep;
  extends = λ x t. false;
}

abbrev pub headed_goes : {K A B : Type 0} → Trees K A → Trees K B → A × List B → K → Bool
headed_goes a b (h, []) k = a.extends h k
headed_goes a b (h, x ∷ xs) k = b.extends (last_part x xs) k

-- A first tree and trees of another kind behind it.
abbrev pub headed : {K A B : Type 0} → Trees K A → Trees K B → (K → Bool) → Option ℕ → Trees K (A × List B)
headed a b starter most = record {
  tokens = λ p. a.tokens p.0 ++ flat_map b.tokens p.1;
  formed = λ p. few most (length p.1) && (a.formed p.0 && all_of (map b.formed p.1));
  deep = λ p. max (a.deep p.0) (deepest (map b.deep p.1));
  extends = λ p k. starter k || headed_goes a b p k;
}

-- The trees behind the first begin with a token by which neither it nor they go on.
pub record Heads {K A B : Type 0} (a : Trees K A) (b : Trees K B) (starter : K → Bool) : Type 0 where
  pub starts : (x : B) → begins starter (b.tokens x) ≡ true
  pub apart_head : (h : A) (k : K) → starter k ≡ true → a.extends h k ≡ false
  pub apart : (x : B) (k : K) → starter k ≡ true → b.extends x k ≡ false

pub data PlaceCase {T S : Type 0} (none : S) (some : T → S) (y : S) : Type 0 where
  is_none : y ≡ none → PlaceCase none some y
  is_some : (x : T) → y ≡ some x → PlaceCase none some y

-- A place of a block: empty, or a tree that begins with certain tokens.
pub record Places {K T S : Type 0} (a : Trees K T) (s : Trees K S) (none : S) (some : T → S)
    (starter ends : K → Bool) : Type 0 where
  pub none_tokens : s.tokens none ≡ []
  pub none_formed : s.formed none ≡ true
  pub none_deep : s.deep none ≡ 0
  pub tokens : (x : T) → s.tokens (some x) ≡ a.tokens x
  pub formed : (x : T) → s.formed (some x) ≡ a.formed x
  pub deep : (x : T) → s.deep (some x) ≡ a.deep x
  pub extends : (y : S) (k : K) → s.extends y k ≡ not (ends k)
  pub quiet : (x : T) (k : K) → ends k ≡ true → a.extends x k ≡ false
  pub starts : (x : T) → begins starter (a.tokens x) ≡ true
  pub apart : (k : K) → ends k ≡ true → starter k ≡ false
  pub cases : (y : S) → PlaceCase none some y
