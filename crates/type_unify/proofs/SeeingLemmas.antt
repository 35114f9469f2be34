-- What a node shows of the type of its number.
use Rattle.std.proofs.Common.{◌≡◌, ℕ, ◌<◌, ◌^◌, List, length, get_or, Option, Some, None, inl, inr, sym, ap, subst, ◌∙◌}
use Rattle.std.specs.Prelude.{nat_eq, IfSome, IfNone}
use Rattle.std.specs.Map.{lookup}
use Rattle.type_terms.specs.Terms.{var, con, app}
use Rattle.type_unify.specs.Types.{Plain, rigid, bare, Same, Assignment, Equals, resolved, named}
use Rattle.type_unify.specs.declared.cell.Cell.{Cell}
use Rattle.type_unify.specs.declared.cell.Cell.TheVariants.{Flex, Rigid, Con, App}
use Rattle.type_unify.specs.Cells.{at, trees, bounds, seen, hops, hops_in, NotFlex, Wire, IsTable}
use Rattle.type_unify.specs.Steps.{Walked, Nearer, Shown, SameLeaf, Apart, Free}
use Rattle.type_unify.specs.Differences.{Differs, Tells, PartsOf, BindOf}
use Rattle.type_unify.specs.declared.compare.Difference.{Difference}
use Rattle.type_unify.specs.declared.compare.Difference.TheVariants.{Same as Equal, Parts, Bind, Clash}
use Rattle.type_unify.proofs.SolvingLemmas.{resolved-app, resolved-rigid, resolved-con}
use Rattle.type_unify.proofs.TableLemmas.{resolved-free, hops_in-app, hops_in-rigid, hops_in-con}

flex_at : (cs : List Cell) (es : List (ℕ × ℕ)) (i x : ℕ) (c : Cell) → IsTable cs es → i < length cs → c ≡ get_or cs i c
    → c ≡ Flex x → at (trees cs) i ≡ var x
flex_at cs es i x c h l e f = subst (λ d. Wire (trees cs) (length cs) (at (trees cs) i) d) f (h.wired i c l e)

-- an unknown that is bound leads nearer
pub Nearer-bound : (cs : List Cell) (es : List (ℕ × ℕ)) (i x n : ℕ) (c : Cell) → IsTable cs es → i < length cs
    → c ≡ get_or cs i c → c ≡ Flex x → lookup (nat_eq x) es ≡ Some n → Nearer cs es i n
unfolding seen
Nearer-bound cs es i x n c h l e f k =
    let t = flex_at cs es i x c h l e f in
    let b = h.holds x n k in
    record {
      within = b.within;
      same = sym b.same ∙ ap (resolved (bounds cs es)) (sym t);
      fewer = subst (λ u. hops cs es (at (trees cs) n) < hops cs es u) (sym t) b.nearer;
    }

-- one that isn't is where the walk ends
pub free-unbound : (cs : List Cell) (es : List (ℕ × ℕ)) (i x : ℕ) (c : Cell) → IsTable cs es → i < length cs
    → c ≡ get_or cs i c → c ≡ Flex x → lookup (nat_eq x) es ≡ None → hops cs es (at (trees cs) i) ≡ 0
free-unbound cs es i x c h l e f k = ap (hops cs es) (flex_at cs es i x c h l e f) ∙ h.free x k

free_by : (cs : List Cell) (es : List (ℕ × ℕ)) (i : ℕ) (c : Cell) → Wire (trees cs) (length cs) (at (trees cs) i) c
    → NotFlex c → hops cs es (at (trees cs) i) ≡ 0
unfolding hops
free_by cs es i (Flex x) w n = absurd n
free_by cs es i (Rigid x) w n = ap (hops_in (bounds cs es)) w ∙ hops_in-rigid (bounds cs es) x
free_by cs es i (Con m k) w n = ap (hops_in (bounds cs es)) w ∙ hops_in-con (bounds cs es) m k
free_by cs es i (App f a) w n = ap (hops_in (bounds cs es)) w.0
    ∙ hops_in-app (bounds cs es) (at (trees cs) f) (at (trees cs) a)

-- nor does a walk go on from any other node
pub free-other : (cs : List Cell) (es : List (ℕ × ℕ)) (i : ℕ) (c : Cell) → IsTable cs es → i < length cs
    → c ≡ get_or cs i c → NotFlex c → hops cs es (at (trees cs) i) ≡ 0
free-other cs es i c h l e n = free_by cs es i c (h.wired i c l e) n

shown_by : (cs : List Cell) (es : List (ℕ × ℕ)) (i : ℕ) (c : Cell) → Wire (trees cs) (length cs) (at (trees cs) i) c
    → hops cs es (at (trees cs) i) ≡ 0 → Shown cs es (seen cs es i) c
unfolding seen hops
shown_by cs es i (Flex x) w f =
    ap (resolved (bounds cs es)) w ∙ resolved-free (bounds cs es) x (subst (λ t. hops_in (bounds cs es) t ≡ 0) w f)
shown_by cs es i (Rigid x) w f = ap (resolved (bounds cs es)) w ∙ resolved-rigid (bounds cs es) x
shown_by cs es i (Con n k) w f = ap (resolved (bounds cs es)) w ∙ resolved-con (bounds cs es) n k
shown_by cs es i (App g a) w f = (
  ap (resolved (bounds cs es)) w.0
      ∙ resolved-app (bounds cs es) (at (trees cs) g) (at (trees cs) a),
  w.1,
  w.2,
)

-- where a walk ends the node shows the type
pub Shown-walked : (cs : List Cell) (es : List (ℕ × ℕ)) (start i : ℕ) (c : Cell) → IsTable cs es → Walked cs es start i
    → c ≡ get_or cs i c → Shown cs es (seen cs es start) c
Shown-walked cs es start i c h w e = subst (λ t. Shown cs es t c) w.same
    (shown_by cs es i c (h.wired i c w.within e) w.free)

-- a free unknown is where its walk ended
pub free-walked : (cs : List Cell) (es : List (ℕ × ℕ)) (start i x : ℕ) (c : Cell) → IsTable cs es → Walked cs es start i
    → c ≡ get_or cs i c → c ≡ Flex x → hops cs es (var x) ≡ 0
free-walked cs es start i x c h w e f = ap (hops cs es) (sym (flex_at cs es i x c h w.within e f)) ∙ w.free

shown_other : (cs : List Cell) (es : List (ℕ × ℕ)) (t : Plain) (c : Cell) (x : ℕ) → Shown cs es t c → NotFlex c
    → t ≡ var x → ⊥
shown_other cs es t (Flex i) x s n e = n
shown_other cs es t (Rigid i) x s n e = absurd (cc)
shown_other cs es t (Con m k) x s n e = absurd (cc)
shown_other cs es t (App f a) x s n e = let q = s.0 in absurd (cc)

-- ---- the cases of a comparison

-- what is known of one side: the number, where its walk ended, and the node there
pub record Side (cs : List Cell) (es : List (ℕ × ℕ)) (start i : ℕ) (c : Cell) : Type 0 where
  pub walked : Walked cs es start i
  pub is : c ≡ get_or cs i c

pub same_flexes : (cs : List Cell) (es : List (ℕ × ℕ)) (a i b j x y : ℕ) (c d : Cell) → IsTable cs es → Side cs es a i c
    → Side cs es b j d → c ≡ Flex x → d ≡ Flex y → x ≡ y → Same (seen cs es a) (seen cs es b)
same_flexes cs es a i b j x y c d h p q e f g =
    let s : seen cs es a ≡ var x = subst (Shown cs es (seen cs es a)) e (Shown-walked cs es a i c h p.walked p.is) in
    let t : seen cs es b ≡ var y = subst (Shown cs es (seen cs es b)) f (Shown-walked cs es b j d h q.walked q.is) in
    ap bare (s ∙ ap var g ∙ sym t)

-- an unknown against another type
Free-side : (cs : List Cell) (es : List (ℕ × ℕ)) (a i b j x : ℕ) (c d : Cell) → IsTable cs es → Side cs es a i c
    → Side cs es b j d → c ≡ Flex x → x < 2 ^ 64 → (seen cs es b ≡ var x → ⊥) → Free cs es x j
Free-side cs es a i b j x c d h p q e l n = record {
  in_range = l;
  within = q.walked.within;
  free = free-walked cs es a i x c h p.walked p.is e;
  ends = q.walked.free;
  other = λ o. n (sym q.walked.same ∙ o);
}

shows_flex : (cs : List Cell) (es : List (ℕ × ℕ)) (a i x : ℕ) (c : Cell) → IsTable cs es → Side cs es a i c → c ≡ Flex x
    → seen cs es a ≡ var x
shows_flex cs es a i x c h p e = subst (Shown cs es (seen cs es a)) e (Shown-walked cs es a i c h p.walked p.is)

pub BindOf-two : (cs : List Cell) (es : List (ℕ × ℕ)) (a i b j x y : ℕ) (c d : Cell) → IsTable cs es → Side cs es a i c
    → Side cs es b j d → c ≡ Flex x → d ≡ Flex y → x < 2 ^ 64 → (x ≡ y → ⊥) → BindOf cs es a b x j
BindOf-two cs es a i b j x y c d h p q e f l n =
    let t = shows_flex cs es b j y d h q f in
    record {
      free = Free-side cs es a i b j x c d h p q e l (λ o. n (flex_inj (sym o ∙ t)));
      ends = inl (shows_flex cs es a i x c h p e, sym q.walked.same);
    }
  where
    flex_inj : ◌≡◌ {A = Plain} (var x) (var y) → x ≡ y
    flex_inj z = cc

pub BindOf-left : (cs : List Cell) (es : List (ℕ × ℕ)) (a i b j x : ℕ) (c d : Cell) → IsTable cs es → Side cs es a i c
    → Side cs es b j d → c ≡ Flex x → NotFlex d → x < 2 ^ 64 → BindOf cs es a b x j
BindOf-left cs es a i b j x c d h p q e n l = record {
  free = Free-side cs es a i b j x c d h p q e l (shown_other cs es (seen cs es b) d x
      (Shown-walked cs es b j d h q.walked q.is) n);
  ends = inl (shows_flex cs es a i x c h p e, sym q.walked.same);
}

pub BindOf-right : (cs : List Cell) (es : List (ℕ × ℕ)) (a i b j x : ℕ) (c d : Cell) → IsTable cs es → Side cs es a i c
    → Side cs es b j d → NotFlex c → d ≡ Flex x → x < 2 ^ 64 → BindOf cs es a b x i
BindOf-right cs es a i b j x c d h p q n e l = record {
  free = Free-side cs es b j a i x d c h q p e l (shown_other cs es (seen cs es a) c x
      (Shown-walked cs es a i c h p.walked p.is) n);
  ends = inr (shows_flex cs es b j x d h q e, sym p.walked.same);
}

leaf_same : (cs : List Cell) (es : List (ℕ × ℕ)) (t u : Plain) (c d : Cell) → Shown cs es t c → Shown cs es u d
    → SameLeaf c d → Same t u
leaf_same cs es t u (Rigid i) (Rigid j) p q e = ap bare (p ∙ ap (λ z. con (rigid z)) e ∙ sym q)
leaf_same cs es t u (Con n k) (Con m l) p q e = ap bare p ∙ ap (λ z. bare (con (named z k))) e ∙ ap bare (sym q)
leaf_same cs es t u _ _ p q e = absurd e

clash : (cs : List Cell) (es : List (ℕ × ℕ)) (t u : Plain) (c d : Cell) → Shown cs es t c → Shown cs es u d → NotFlex c
    → NotFlex d → Apart c d → (s : Assignment) → Equals s t u → ⊥
clash cs es t u (Flex i) d p q m n k s e = m
clash cs es t u c (Flex i) p q m n k s e = n
clash cs es t u (Rigid i) (Rigid j) p q m n k s e = let z = rw (p, q) at e in k (cc)
clash cs es t u (Con i x) (Con j y) p q m n k s e = let z = rw (p, q) at e in k (cc)
clash cs es t u (App f a) (App g b) p q m n k s e = k
clash cs es t u (Rigid i) (Con j y) p q m n k s e = let z = rw (p, q) at e in absurd (cc)
clash cs es t u (Rigid i) (App g b) p q m n k s e = let z = rw (p, q.0) at e in absurd (cc)
clash cs es t u (Con i x) (Rigid j) p q m n k s e = let z = rw (p, q) at e in absurd (cc)
clash cs es t u (Con i x) (App g b) p q m n k s e = let z = rw (p, q.0) at e in absurd (cc)
clash cs es t u (App f a) (Rigid j) p q m n k s e = let z = rw (p.0, q) at e in absurd (cc)
clash cs es t u (App f a) (Con j y) p q m n k s e = let z = rw (p.0, q) at e in absurd (cc)

parts : (cs : List Cell) (es : List (ℕ × ℕ)) (a b : ℕ) (f g : ℕ × ℕ) → Shown cs es (seen cs es a) (App f.0 g.0)
    → Shown cs es (seen cs es b) (App f.1 g.1) → PartsOf cs es a b f g
parts cs es a b f g p q = record {
  left = p.0;
  right = q.0;
  left_fun = p.1;
  right_fun = q.1;
  left_arg = p.2;
  right_arg = q.2;
}

-- two nodes that are no unknowns
pub Tells-nodes : (cs : List Cell) (es : List (ℕ × ℕ)) (a i b j : ℕ) (c d : Cell) (r : Difference) → IsTable cs es
    → Side cs es a i c → Side cs es b j d → NotFlex c → NotFlex d → Differs c d r → Tells cs es a b r
Tells-nodes cs es a i b j c d Equal h p q m n k =
    leaf_same cs es _ _ c d (Shown-walked cs es a i c h p.walked p.is) (Shown-walked cs es b j d h q.walked q.is) k
Tells-nodes cs es a i b j c d (Parts f g) h p q m n k =
    parts cs es a b f g
    (subst (Shown cs es (seen cs es a)) k.0 (Shown-walked cs es a i c h p.walked p.is))
    (subst (Shown cs es (seen cs es b)) k.1 (Shown-walked cs es b j d h q.walked q.is))
Tells-nodes cs es a i b j c d (Bind x y) h p q m n k = absurd k
Tells-nodes cs es a i b j c d Clash h p q m n k =
    clash cs es _ _ c d (Shown-walked cs es a i c h p.walked p.is) (Shown-walked cs es b j d h q.walked q.is) m n k

-- ---- answers of look-ups

pub IfNone-holds : {X P : Type 0} → (r : Option X) → P → IfNone r P
IfNone-holds None p = p
IfNone-holds (Some x) p = tt

pub IfSome-Nearer : (cs : List Cell) (es : List (ℕ × ℕ)) (i x : ℕ) (c : Cell) (r : Option ℕ) → IsTable cs es
    → i < length cs → c ≡ get_or cs i c → c ≡ Flex x → r ≡ lookup (nat_eq x) es → IfSome r (λ n. Nearer cs es i n)
IfSome-Nearer cs es i x c None h l e f k = tt
IfSome-Nearer cs es i x c (Some n) h l e f k = Nearer-bound cs es i x n c h l e f (sym k)

pub IfNone-free : (cs : List Cell) (es : List (ℕ × ℕ)) (i x : ℕ) (c : Cell) (r : Option ℕ) → IsTable cs es
    → i < length cs → c ≡ get_or cs i c → c ≡ Flex x → r ≡ lookup (nat_eq x) es
    → IfNone r (hops cs es (at (trees cs) i) ≡ 0)
IfNone-free cs es i x c None h l e f k = free-unbound cs es i x c h l e f (sym k)
IfNone-free cs es i x c (Some n) h l e f k = tt

pub IfNone-use : {X P : Type 0} → (r : Option X) → r ≡ None → IfNone r P → P
IfNone-use None e h = h
IfNone-use (Some x) e h = absurd (cc)

-- what a node at the end of a walk shows, for each kind of node
pub shows_flex_at : (cs : List Cell) (es : List (ℕ × ℕ)) (start i x : ℕ) (c : Cell) → IsTable cs es
    → Walked cs es start i → c ≡ get_or cs i c → c ≡ Flex x → seen cs es start ≡ var x
shows_flex_at cs es start i x c h w e f = subst (Shown cs es (seen cs es start)) f (Shown-walked cs es start i c h w e)

pub shows_rigid_at : (cs : List Cell) (es : List (ℕ × ℕ)) (start i x : ℕ) (c : Cell) → IsTable cs es
    → Walked cs es start i → c ≡ get_or cs i c → c ≡ Rigid x → seen cs es start ≡ con (rigid x)
shows_rigid_at cs es start i x c h w e f = subst (Shown cs es (seen cs es start)) f (Shown-walked cs es start i c h w e)

pub shows_con_at : (cs : List Cell) (es : List (ℕ × ℕ)) (start i : ℕ) (n : _) (k : _) (c : Cell) → IsTable cs es
    → Walked cs es start i → c ≡ get_or cs i c → c ≡ Con n k → seen cs es start ≡ con (named n k)
shows_con_at cs es start i n k c h w e f = subst (Shown cs es (seen cs es start)) f (Shown-walked cs es start i c h w e)

pub shows_app_at : (cs : List Cell) (es : List (ℕ × ℕ)) (start i g a : ℕ) (c : Cell) → IsTable cs es
    → Walked cs es start i → c ≡ get_or cs i c → c ≡ App g a
    → (seen cs es start ≡ app (seen cs es g) (seen cs es a)) × (g < length cs) × (a < length cs)
shows_app_at cs es start i g a c h w e f = subst (Shown cs es (seen cs es start)) f (Shown-walked cs es start i c h w e)
