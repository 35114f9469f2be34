-- Tables of original names decide what is there.
use Rattle.std.proofs.Common.{◌≡◌, refl, sym, ap, inl, inr, Bool, true, false, List, [], ◌∷◌, ◌++◌, map}
use Rattle.std.specs.Prelude.{◌⊎◌, ◌||◌, if◌then◌else◌}
use Rattle.std.specs.List.{flat_map}
use Rattle.std.specs.Str.{bytes_eq}
use Rattle.bp_base.specs.Texts.{Text}
use Rattle.bp_base.proofs.TextLemmas.{same_texts, texts_same}
use Rattle.bp_base.specs.declared.ty.OrigName.{OrigName}
use Rattle.hs_core.specs.Sameness.{same_original}
use Rattle.hs_core.proofs.SamenessLemmas.{original_itself, original_same}
use Rattle.import_resolve.specs.Exports.{AreThose}
use Rattle.export_resolve.specs.Named.{if_named}
use Rattle.export_resolve.specs.Found.{is_one_of}

module _ {A : Type 0} (key : A → Text) (own : A → OrigName) where
  -- by keys, the names of these
  abbrev pub by_keys : List A → Text → List OrigName
  by_keys as' q = flat_map (λ a. if_named (key a) q (own a)) as'

  -- one has this name and this key
  abbrev pub HasOwn : OrigName → Text → List A → Type 0
  HasOwn n q [] = ⊥
  HasOwn n q (a ∷ rest) = ((own a ≡ n) × (key a ≡ q)) ⊎ HasOwn n q rest

  found_by : (n : OrigName) (q : Text) (a : A) (rest : List A) (t s : Bool) → bytes_eq (key a) q ≡ t
      → same_original n (own a) ≡ s → (is_one_of n (by_keys rest q) ≡ true → HasOwn n q rest)
      → is_one_of n ((if t then own a ∷ [] else []) ++ by_keys rest q) ≡ true → HasOwn n q (a ∷ rest)
  found_by n q a rest true true et es ih h = inl (sym (original_same n (own a) es), same_texts (key a) q et)
  found_by n q a rest true false et es ih h = inr (ih (rw es at h))
  found_by n q a rest false s et es ih h = inr (ih h)

  -- what the test finds is there
  pub owned_there : (n : OrigName) (q : Text) (as' : List A) → is_one_of n (by_keys as' q) ≡ true → HasOwn n q as'
  owned_there n q [] h = absurd (cc)
  owned_there n q (a ∷ rest) h =
      found_by n q a rest (bytes_eq (key a) q) (same_original n (own a)) refl refl (owned_there n q rest) h

  behind_first : (n m : OrigName) (names : List OrigName) (t : Bool) → is_one_of n names ≡ true
      → is_one_of n ((if t then m ∷ [] else []) ++ names) ≡ true
  behind_first n m names true h = or_true (same_original n m) (is_one_of n names) h
    where
      or_true : (a b : Bool) → b ≡ true → (a || b) ≡ true
      or_true true b e = refl
      or_true false b e = e
  behind_first n m names false h = h

  here_first : (n m : OrigName) (names : List OrigName) → m ≡ n → is_one_of n (m ∷ names) ≡ true
  here_first n m names e = rw e (rw (original_itself n) refl)

  -- what is there is found by the test
  pub there_owned : (n : OrigName) (q : Text) (as' : List A) → HasOwn n q as' → is_one_of n (by_keys as' q) ≡ true
  there_owned n q [] h = absurd h
  there_owned n q (a ∷ rest) (inl h) = rw (h.1, texts_same q) (here_first n (own a) (by_keys rest q) h.0)
  there_owned n q (a ∷ rest) (inr h) =
      behind_first n (own a) (by_keys rest q) (bytes_eq (key a) q) (there_owned n q rest h)

-- ---- those of a list

module _ {A C : Type 0} (P : A → Type 0) (test : A → Bool) (g : A → C) where
  abbrev pub chosen_by : List A → List C
  chosen_by as' = flat_map (λ a. if test a then g a ∷ [] else []) as'

  one_by : (a : A) (rest : List A) (t : Bool) → (t ≡ true → P a) → (t ≡ false → P a → ⊥)
      → ((bs : List A) × AreThose P rest bs × (chosen_by rest ≡ map g bs))
      → (bs : List A) × AreThose P (a ∷ rest) bs × ((if t then g a ∷ [] else []) ++ chosen_by rest ≡ map g bs)
  one_by a rest true holds fails ih = (a ∷ ih.0, inl (ih.0, holds refl, ih.1, refl), ap (λ cs. g a ∷ cs) ih.2)
  one_by a rest false holds fails ih = (ih.0, inr (fails refl, ih.1), ih.2)

  -- those that a test chooses are those that the fact holds of, where it decides the fact
  pub those_chosen : ((a : A) → test a ≡ true → P a) → ((a : A) → test a ≡ false → P a → ⊥) → (as' : List A)
      → (bs : List A) × AreThose P as' bs × (chosen_by as' ≡ map g bs)
  those_chosen holds fails [] = ([], refl, refl)
  those_chosen holds fails (a ∷ rest) = one_by a rest (test a) (holds a) (fails a) (those_chosen holds fails rest)

pub map_itself : {A : Type 0} (as' : List A) → map (λ a. a) as' ≡ as'
map_itself [] = refl
map_itself (a ∷ as') = ap (λ bs. a ∷ bs) (map_itself as')

pub chosen_mapped : {A B C : Type 0} (f : A → B) (test : B → Bool) (g : B → C) (as' : List A)
    → flat_map (λ a. if test (f a) then g (f a) ∷ [] else []) as' ≡ flat_map (λ b. if test b then g b ∷ [] else []) (map f as')
chosen_mapped f test g [] = refl
chosen_mapped f test g (a ∷ as') =
    ap (λ cs. (if test (f a) then g (f a) ∷ [] else []) ++ cs) (chosen_mapped f test g as')
