-- There is one cause at most, and none beside an answer.
use Rattle.std.proofs.Common.{◌≡◌, List, [], ◌∷◌, ◌++◌, refl, ap, sym, ◌∙◌, subst, append_assoc}
use Rattle.bp_base.proofs.TextLemmas.{one_name}
use Rattle.bp_base.specs.declared.ident.Fill.{Fill}
use Rattle.bp_base.specs.Texts.{Text}
use Rattle.hole_unify.specs.declared.equation.Equation.{Equation}
use Rattle.hole_unify.specs.declared.equation.IdentUnifyError.{IdentUnifyError}
use Rattle.hole_unify.specs.declared.equation.IdentUnifyError.TheVariants.{Clash, Cycle, NoMemory}
use Rattle.hole_unify.specs.Unifiers.{IsUnifier, HasUnifier, IsAnswer}
use Rattle.hole_unify.specs.Classes.{HasHeads, IsLeastCycle}
use Rattle.hole_unify.specs.Causes.{FailsAt, IsCause}
use Rattle.hole_unify.specs.Laws.{SameCause}

pub list-head : {A : Type 0} {a b : A} {l k : List A} → a ∷ l ≡ b ∷ k → a ≡ b
list-head e = cc

pub list-tail : {A : Type 0} {a b : A} {l k : List A} → a ∷ l ≡ b ∷ k → l ≡ k
list-tail e = cc

-- how two places of one list lie to each other
data Places (b : List Equation) (e : Equation) (c : List Equation) (d : Equation) : Type 0 where
  Alike : b ≡ c → e ≡ d → Places b e c d
  Later : (m : List Equation) → b ≡ (c ++ d ∷ []) ++ m → Places b e c d
  Sooner : (m : List Equation) → c ≡ (b ++ e ∷ []) ++ m → Places b e c d

places : (b c a k : List Equation) (e d : Equation) → b ++ e ∷ a ≡ c ++ d ∷ k → Places b e c d
places [] [] a k e d is = Alike refl (list-head is)
places [] (y ∷ ys) a k e d is = Sooner ys (ap (λ z. z ∷ ys) (sym (list-head is)))
places (x ∷ xs) [] a k e d is = Later xs (ap (λ z. z ∷ xs) (list-head is))
places (x ∷ xs) (y ∷ ys) a k e d is = more (places xs ys a k e d (list-tail is))
  where
    first : x ≡ y
    first = list-head is

    more : Places xs e ys d → Places (x ∷ xs) e (y ∷ ys) d
    more (Alike p q) = Alike (λ w. first w ∷ p w) q
    more (Later m p) = Later m (λ w. first w ∷ p w)
    more (Sooner m p) = Sooner m (λ w. sym first w ∷ p w)

pub front-unifier : (a b : List Equation) (f : List Fill) → IsUnifier (a ++ b) f → IsUnifier a f
front-unifier [] b f u = tt
front-unifier (e ∷ a) b f u = (u.0, front-unifier a b f u.1)

front-unified : (a b : List Equation) → HasUnifier (a ++ b) → HasUnifier a
front-unified a b u = (u.0, front-unifier a b u.0 u.1)

whole : (es f : List Equation) (l : Text) (p : FailsAt es f l) → es ≡ p.split.0 ++ p.split.1 ∷ p.split.2
whole es f l p =
    p.split.4 ∙ ap (λ z. z ++ p.split.2) p.split.3 ∙ append_assoc p.split.0 (p.split.1 ∷ []) p.split.2

same-place : (es f g : List Equation) (l k : Text) → FailsAt es f l → FailsAt es g k → (f ≡ g) × (l ≡ k)
same-place es f g l k p q =
    by (places p.split.0 q.split.0 p.split.2 q.split.2 p.split.1 q.split.1 (sym (whole es f l p) ∙ whole es g k q))
  where
    by : Places p.split.0 p.split.1 q.split.0 q.split.1 → (f ≡ g) × (l ≡ k)
    by (Alike b e) =
        (p.split.3 ∙ (λ w. b w ++ e w ∷ []) ∙ sym q.split.3, sym p.split.5 ∙ ap (λ z. z.label) e ∙ q.split.5)
    by (Later m b) =
        absurd (q.fails (front-unified g m (subst HasUnifier (b ∙ ap (λ z. z ++ m) (sym q.split.3)) p.split.6)))
    by (Sooner m c) =
        absurd (p.fails (front-unified f m (subst HasUnifier (c ∙ ap (λ z. z ++ m) (sym p.split.3)) q.split.6)))

one-least : (es : List Equation) (m n : Text) → IsLeastCycle es m → IsLeastCycle es n → m ≡ n
one-least es m n c d = one_name m n (d.least m c.cycle) (c.least n d.cycle)

-- two causes have one kind, one label and one hole
pub causes_are_one : (es : List Equation) (one other : IdentUnifyError) → IsCause es one → IsCause es other
    → SameCause one other
causes_are_one es NoMemory other p q = tt
causes_are_one es (Clash l a b) NoMemory p q = tt
causes_are_one es (Cycle l h) NoMemory p q = tt
causes_are_one es (Clash l a b) (Clash k c d) p q = (same-place es p.0 q.0 l k p.1 q.1).1
causes_are_one es (Clash l a b) (Cycle k n) p q =
    q.2 a b (subst (λ z. HasHeads z a b) (same-place es p.0 q.0 l k p.1 q.1).0 p.2)
causes_are_one es (Cycle k n) (Clash l a b) p q =
    p.2 a b (subst (λ z. HasHeads z a b) (sym (same-place es p.0 q.0 k l p.1 q.1).0) q.2)
causes_are_one es (Cycle l h) (Cycle k n) p q =
    let s = same-place es p.0 q.0 l k p.1 q.1 in
    (s.1, one-least q.0 h n (subst (λ z. IsLeastCycle z h) s.0 p.3) q.3)

-- what fails has no answer
unanswered : (es front : List Equation) (l : Text) (f : List Fill) → IsAnswer es f → FailsAt es front l → ⊥
unanswered es front l f a p = p.fails (front-unified front p.split.2 (subst HasUnifier p.split.4 (f, a.unifies)))

pub no_cause_beside_answer : (es : List Equation) (f : List Fill) (e : IdentUnifyError) → IsAnswer es f → IsCause es e
    → e ≡ NoMemory
no_cause_beside_answer es f NoMemory a p = refl
no_cause_beside_answer es f (Clash l c d) a p = absurd (unanswered es p.0 l f a p.1)
no_cause_beside_answer es f (Cycle l h) a p = absurd (unanswered es p.0 l f a p.1)
