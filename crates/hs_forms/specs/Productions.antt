-- How the productions of a grammar make up a form: one form as another, a fixed front, a first token, a chain.
use Rattle.std.specs.Prelude.{◌≡◌, ℕ, Bool, true, false, List, [], ◌∷◌, ◌++◌, length, flat_map}
use Rattle.hs_forms.specs.Reading.{Form, begins}

-- One form as another, by a function that reaches each of its trees.
pub record Onto {K A B : Type 0} (a : Form K A) (b : Form K B) (f : A → B) : Type 0 where
  pub back : (y : B) → (x : A) × (y ≡ f x)
  pub tokens : (x : A) → b.tokens (f x) ≡ a.tokens x
  pub good : (x : A) → a.Good x → b.Good (f x)
  pub good_back : (x : A) → b.Good (f x) → a.Good x
  pub extends : (x : A) (t : K) → b.extends (f x) t ≡ false → a.extends x t ≡ false

-- A production with a fixed front: the trees that begin with it are those made of a part, and the part stands behind
-- it.
pub record Leads {K P T : Type 0} (form : Form K T) (front : List K) (part : Form K P) (make : P → T) : Type 0 where
  pub tokens : (p : P) → form.tokens (make p) ≡ front ++ part.tokens p
  pub good : (p : P) → part.Good p → form.Good (make p)
  pub good_back : (p : P) → form.Good (make p) → part.Good p
  pub extends : (p : P) (k : K) → form.extends (make p) k ≡ false → part.extends p k ≡ false
  pub only : (x : T) (s after : List K) → form.Good x → begins (form.extends x) after ≡ false →
      front ++ s ≡ form.tokens x ++ after →
      (p : P) × (x ≡ make p)

-- A production that is known by its first token: the trees that begin so are those made of a part.
pub record Variant {K P T : Type 0} (form : Form K T) (part : Form K P) (make : P → T) (starter : K
    → Bool) : Type 0 where
  pub tokens : (p : P) → form.tokens (make p) ≡ part.tokens p
  pub good : (p : P) → part.Good p → form.Good (make p)
  pub good_back : (p : P) → form.Good (make p) → part.Good p
  pub extends : (p : P) (k : K) → form.extends (make p) k ≡ false → part.extends p k ≡ false
  pub starts : (p : P) → begins starter (part.tokens p) ≡ true
  pub only : (x : T) (after : List K) → form.Good x → begins starter (form.tokens x ++ after) ≡ true →
      (p : P) × (x ≡ make p)

-- A head and items behind it. The last item may go on with whatever the whole goes on with; an item with another behind
-- it goes on with no token that begins an item.
pub record IsChain {K T H X : Type 0} (form : Form K T) (head : Form K H) (items : X → List K) (item : ℕ → X → Type 0)
    (inner : X → K → Bool) (starter : K → Bool) (make : H → List X → T) : Type 0 where
  pub spelled : (h : H) (xs : List X) → form.tokens (make h xs) ≡ head.tokens h ++ flat_map items xs
  pub taken : (t : T) → (h : H) × (xs : List X) × (t ≡ make h xs)
  pub good_head : (h : H) (xs : List X) → form.Good (make h xs) → head.Good h
  pub good_item : (h : H) (xs : List X) (x : X) (more : List X) → form.Good (make h (xs ++ x ∷ more)) →
      item (length xs) x
  pub starts : (x : X) → begins starter (items x) ≡ true
  pub ends : (h : H) (xs : List X) (t : K) → form.extends (make h xs) t ≡ false → starter t ≡ false
  pub ends_head : (h : H) (t : K) → form.extends (make h []) t ≡ false → head.extends h t ≡ false
  pub ends_item : (h : H) (xs : List X) (x : X) (t : K) → form.extends (make h (xs ++ x ∷ [])) t ≡ false →
      inner x t ≡ false
  pub apart_head : (h : H) (x : X) (more : List X) (t : K) → form.Good (make h (x ∷ more)) → starter t ≡ true →
      head.extends h t ≡ false
  pub apart_item : (h : H) (xs : List X) (x y : X) (more : List X) (t : K) → form.Good (make h (xs ++ x ∷ y ∷ more)) →
      starter t ≡ true → inner x t ≡ false

-- A chain as one record. `Room h xs`: one more item may stand behind these.
pub record Chain (K T H X : Type 0) : Type 1 where
  pub form : Form K T
  pub head : Form K H
  pub items : X → List K
  pub item : ℕ → X → Type 0
  pub inner : X → K → Bool
  pub starter : K → Bool
  pub make : H → List X → T
  pub head_depth : H → ℕ
  pub item_depth : X → ℕ
  pub Room : H → List X → Type 0
  pub laws : IsChain form head items item inner starter make
  pub first : (h : H) → head.Good h → form.Good (make h [])
  pub more : (h : H) (xs : List X) (x : X) → form.Good (make h xs) → Room h xs → item (length xs) x →
      form.Good (make h (xs ++ x ∷ []))
  pub full : (h : H) (xs : List X) (x : X) (ys : List X) → form.Good (make h (xs ++ x ∷ ys)) → Room h xs
