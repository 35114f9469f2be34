-- Loops of this crate: over lists whose items are checked one after another, and over lists of which each item must pass
-- a test.
use Rattle.std.proofs.Common.{◌≡◌, ◌<◌, ◌≤◌, ◌+◌, ℕ, List, [], ◌∷◌, ◌++◌, drop, take, length, get_or, subst, sym, refl}
use Rattle.std.proofs.lemmas.List.{drop_more, drop_all}
use Rattle.bp_base.specs.Lists.{Among}
use Rattle.bp_checks.specs.Check.{Check, PassesAll, FailsIn, Through}
use Rattle.std.proofs.Common.{Bool, true, false, true≢false, ◌∙◌}
use Rattle.std.specs.Prelude.{IsTrue, ◌↔◌}
use Rattle.bp_checks.proofs.CheckLemmas.{Through-refused, Through-pushed, Through-end}
use Rattle.declared_kinds.specs.Cycles.{IsFirstBad}
use Rattle.declared_kinds.proofs.CycleLemmas.{bad-at, good-next, take-whole}
use Rattle.kind_module.specs.declared.error.KindsError.{KindsError}
use Rattle.kind_module.specs.declared.error.KindsError.TheVariants as k
use Rattle.kind_module.specs.Faults.{KindFault, IllKinded, Misused, TooDeep, OnKinds}

-- what follows from a refusal
pub OnKinds-map : (e : KindsError) (P Q : KindFault → Type 0) → ((r : KindFault) → P r → Q r) → OnKinds e P
    → OnKinds e Q
OnKinds-map (k.Kind x) P Q f h = f (IllKinded x) h
OnKinds-map (k.SynonymUse x) P Q f h = f (Misused x) h
OnKinds-map k.TypeDepth P Q f h = f TooDeep h
OnKinds-map k.NoMemory P Q f h = tt

module _ {A B : Type 0} (s : List B → A → Check B KindFault) (items : List A) (done : List B) (i : ℕ) where
  at_item : (x : A) (r : KindFault) → Through s items done (drop i items) → i < length items
      → (s done (get_or items i x)).fails r → FailsIn s [] items r
  at_item x r t l z = Through-refused s items done (get_or items i x) (drop (i + 1) items) r
      (subst (λ z. Through s items done z) (drop_more items i x l) t) z

  pub refused_here : (x : A) (e : KindsError) → Through s items done (drop i items) → i < length items
      → x ≡ get_or items i x → OnKinds e (s done x).fails → OnKinds e (FailsIn s [] items)
  refused_here x e t l is h =
      OnKinds-map e (s done (get_or items i x)).fails (FailsIn s [] items) (λ r z. at_item x r t l z)
      (subst (λ y. OnKinds e (s done y).fails) is h)

  pub one_more : (x : A) (b : B) (new : List B) → Through s items done (drop i items) → i < length items
      → x ≡ get_or items i x → (s done x).passes b → new ≡ done ++ b ∷ [] → Through s items new (drop (i + 1) items)
  one_more x b new t l is h e = Through-pushed s items done new i x b t l (subst (λ y. (s done y).passes b) is h) e

  pub at_the_end : Through s items done (drop i items) → length items ≤ i → PassesAll s [] items done
  at_the_end t l = Through-end s items done (subst (λ z. Through s items done z) (drop_all i items l) t)

-- ---- tests of all items

pub first_bad : {A : Type 0} (Good : A → Type 0) (xs : List A) (i : ℕ) (x : A) → i < length xs → x ≡ get_or xs i x
    → ((y : A) → Among y (take i xs) → Good y) → (Good x → ⊥) → IsFirstBad Good xs x
first_bad Good xs i x l e h b = bad-at Good xs i x x l e h b

pub next_good : {A : Type 0} (Good : A → Type 0) (xs : List A) (i : ℕ) (x : A) → i < length xs → x ≡ get_or xs i x
    → ((y : A) → Among y (take i xs) → Good y) → Good x → (y : A) → Among y (take (i + 1) xs) → Good y
next_good Good xs i x l e h b = good-next Good xs i x x l e h b

pub all_good : {A : Type 0} (Good : A → Type 0) (xs : List A) (i : ℕ) → length xs ≤ i
    → ((y : A) → Among y (take i xs) → Good y) → (y : A) → Among y xs → Good y
all_good Good xs i l h = subst (λ z. (y : _) → Among y z → Good y) (take-whole xs i l) h

pub untrue : (b : Bool) (P : Type 0) → b ≡ false → IsTrue b ↔ P → P → ⊥
untrue b P e h p = true≢false (sym (h.1 p) ∙ e)

pub holds : (b : Bool) (P : Type 0) → b ≡ true → IsTrue b ↔ P → P
holds b P e h = h.0 e
