-- Laws of types that are brought into a table.
use Rattle.std.proofs.Common.{◌≡◌, ℕ, ◌+◌, ◌<◌, ◌≤◌, Bool, true, false, List, [], ◌∷◌, ◌++◌, length, get_or, refl, sym}
use Rattle.std.proofs.Common.{ap, ap₂, subst, ◌∙◌, arith, append_assoc, append-nil, length-append}
use Rattle.std.specs.Prelude.{if◌then◌else◌}
use Rattle.type_unify.specs.Types.{Plain}
use Rattle.type_unify.specs.Written.{read, read_node, spelled, AreNodesOf}
use Rattle.type_unify.specs.Codes.{read-append}
use Rattle.type_unify.specs.declared.cell.Cell.{Cell}
use Rattle.type_unify.specs.declared.cell.Cell.TheVariants.{App}
use Rattle.type_unify.specs.declared.term.Node.{Node}
use Rattle.type_unify.specs.Cells.{at, made, trees}
use Rattle.type_unify.specs.Stacks.{Below, types_of}
use Rattle.type_unify.specs.Taken.{IsLonger, Extends, Took, TakenIn, joining}
use Rattle.type_unify.proofs.TableLemmas.{at-push, at-last, bounds-cell, PartsBelow, IsTable-cell}
use Rattle.type_unify.proofs.StackingLemmas.{Below-push, Below-front}

pub IsLonger-trans : (a b c : List Cell) → IsLonger a b → IsLonger b c → IsLonger a c
IsLonger-trans a b c p q = (p.0 ++ q.0, q.1 ∙ ap (λ v. v ++ q.0) p.1 ∙ append_assoc a p.0 q.0)

pub Extends-trans : (a b c : List Cell) → Extends a b → Extends b c → Extends a c
Extends-trans a b c p q = record {
  longer = omega (arith, p.longer, q.longer);
  keeps = λ i h. q.keeps i (omega (arith, h, p.longer)) ∙ p.keeps i h;
  stands = λ es h. q.stands es (p.stands es h);
  same = λ es h. q.same es (p.stands es h) ∙ p.same es h;
}

pub Extends-cell : (cs : List Cell) (c : Cell) → PartsBelow (length cs) c → Extends cs (cs ++ c ∷ [])
Extends-cell cs c p = record {
  longer = omega (arith, length-append cs (c ∷ []));
  keeps = λ i h. at-push cs c i h;
  stands = λ es h. IsTable-cell cs es c p h;
  same = λ es h. bounds-cell cs es c h.inside;
}

Below-longer : (m n : ℕ) (is : List ℕ) → m ≤ n → Below m is → Below n is
Below-longer m n [] l h = tt
Below-longer m n (i ∷ is) l h = (omega (arith, h.0), Below-longer m n is l h.1)

types_of-push : (f : ℕ → Plain) (is : List ℕ) (i : ℕ) → types_of f (is ++ i ∷ []) ≡ f i ∷ types_of f is
types_of-push f [] i = refl
types_of-push f (j ∷ is) i = ap (λ r. r ++ f j ∷ []) (types_of-push f is i)

types_of-same : (f g : ℕ → Plain) (m : ℕ) (is : List ℕ) → ((i : ℕ) → i < m → g i ≡ f i) → Below m is
    → types_of g is ≡ types_of f is
types_of-same f g m [] k h = refl
types_of-same f g m (i ∷ is) k h = ap₂ (λ r t. r ++ t ∷ []) (types_of-same f g m is k h.1) (k i h.0)

-- a node is put into the table, and its number on the stack
pub Took-cell : (node : Node) (old new : List Cell) (before after : List ℕ) (c : Cell) → new ≡ old ++ c ∷ []
    → after ≡ before ++ length old ∷ [] → PartsBelow (length old) c
    → ((ts : List Plain) → read_node node ts ≡ made (trees old) c ∷ ts) → Took node old new before after
Took-cell node old new before after c e k p r =
    let x : Extends old new = subst (Extends old) (sym e) (Extends-cell old c p) in
    let l : length new ≡ length old + 1 = ap length e ∙ length-append old (c ∷ []) in
    record {
      extends = x;
      below = λ h. subst (Below (length new)) (sym k)
          (Below-push (length new) before (length old)
          (Below-longer (length old) (length new) before (omega (arith, l)) h) (omega (arith, l)));
      types = λ h.
          ap (types_of (at (trees new))) k ∙ types_of-push (at (trees new)) before (length old)
          ∙ ap₂ (λ t ts. t ∷ ts) (ap (λ d. at (trees d) (length old)) e
          ∙ at-last old c) (types_of-same (at (trees old)) (at (trees new)) (length old) before x.keeps h)
          ∙ sym (r (types_of (at (trees old)) before));
    }

two_below : (b : Bool) (m : ℕ) (c : Cell) (top below : ℕ) → c ≡ (if b then App top below else App below top) → top < m
    → below < m → PartsBelow m c
two_below true m c top below e p q = subst (PartsBelow m) (sym e) (p, q)
two_below false m c top below e p q = subst (PartsBelow m) (sym e) (q, p)

two_made : (b : Bool) (us : List Plain) (c : Cell) (top below : ℕ) (ts : List Plain)
    → c ≡ (if b then App top below else App below top)
    → read_node (joining b) (at us top ∷ at us below ∷ ts) ≡ made us c ∷ ts
two_made true us c top below ts e = ap (λ d. made us d ∷ ts) (sym e)
two_made false us c top below ts e = ap (λ d. made us d ∷ ts) (sym e)

-- the two on top become an application
pub Took-two : (b : Bool) (old new : List Cell) (before popped rest after : List ℕ) (top below : ℕ) (c : Cell)
    → Below (length old) before → before ≡ popped ++ top ∷ [] → popped ≡ rest ++ below ∷ []
    → c ≡ (if b then App top below else App below top)
    → new ≡ old ++ c ∷ [] → after ≡ rest ++ length old ∷ [] → Took (joining b) old new before after
Took-two b old new before popped rest after top below c h e f k g a =
    let us = trees old in
    let p = Below-front (length old) popped top (subst (Below (length old)) e h) in
    let q = Below-front (length old) rest below (subst (Below (length old)) f p.0) in
    let parts = two_below b (length old) c top below k p.1 q.1 in
    let types : types_of (at us) before ≡ at us top ∷ at us below ∷ types_of (at us) rest =
    ap (types_of (at us)) e ∙ types_of-push (at us) popped top
    ∙ ap (λ ts. at us top ∷ ts) (ap (types_of (at us)) f ∙ types_of-push (at us) rest below) in
    let x : Extends old new = subst (Extends old) (sym g) (Extends-cell old c parts) in
    let l : length new ≡ length old + 1 = ap length g ∙ length-append old (c ∷ []) in
    record {
      extends = x;
      below = λ _. subst (Below (length new)) (sym a)
          (Below-push (length new) rest (length old)
          (Below-longer (length old) (length new) rest (omega (arith, l)) q.0) (omega (arith, l)));
      types = λ _.
          ap (types_of (at (trees new))) a ∙ types_of-push (at (trees new)) rest (length old)
          ∙ ap₂ (λ t ts. t ∷ ts) (ap (λ d. at (trees d) (length old)) g
          ∙ at-last old c) (types_of-same (at us) (at (trees new)) (length old) rest x.keeps q.0)
          ∙ sym (ap (read_node (joining b)) types ∙ two_made b us c top below (types_of (at us) rest) k);
    }

-- ---- many nodes

-- what was read so far
pub record Reading (old new : List Cell) (nodes : List Node) (stack : List ℕ) : Type 0 where
  pub extends : Extends old new
  pub below : Below (length new) stack
  pub types : types_of (at (trees new)) stack ≡ read [] nodes

pub Reading-more : (first old new : List Cell) (nodes more : List Node) (node : Node) (before after : List ℕ)
    → Reading first old nodes before → Took node old new before after → more ≡ nodes ++ node ∷ []
    → Reading first new more after
Reading-more first old new nodes more node before after r t e = record {
  extends = Extends-trans first old new r.extends t.extends;
  below = t.below r.below;
  types = t.types r.below ∙ ap (read_node node) r.types ∙ sym (ap (read []) e ∙ read-append [] nodes (node ∷ []));
}

only_one : (f : ℕ → Plain) (is : List ℕ) (t : Plain) (d : ℕ) → types_of f is ≡ t ∷ []
    → (0 < length is) × (f (get_or is 0 d) ≡ t)
only_one f [] t d e = absurd (cc)
only_one f (i ∷ []) t d e = (omega arith, (cc))
only_one f (i ∷ j ∷ is) t d e =
    let l : length ((types_of f is ++ f j ∷ []) ++ f i ∷ []) ≡ 1 = ap length e in
    absurd (omega (
      arith,
      l,
      length-append (types_of f is ++ f j ∷ []) (f i ∷ []),
      length-append (types_of f is) (f j ∷ []),
    ))

read_whole : (first new : List Cell) (nodes all : List Node) (stack : List ℕ) → Reading first new nodes stack
    → nodes ≡ all → AreNodesOf all (spelled all) → types_of (at (trees new)) stack ≡ spelled all ∷ []
read_whole first new nodes all stack r e h = r.types ∙ ap (read []) e ∙ h []
