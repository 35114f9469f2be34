-- Units in identities that are filled, and the condition on the equations.
use Rattle.std.proofs.Common.{◌≡◌, inl, inr, List, [], ◌∷◌, ◌++◌, map, refl, sym, ap, ◌∙◌, subst}
use Rattle.std.specs.Prelude.{Option, Some, None, unwrap_or}
use Rattle.std.specs.List.{flat_map}
use Rattle.bp_base.specs.declared.ident.Ident.{Ident}
use Rattle.bp_base.specs.declared.ident.Ident.TheVariants.{Hole, Module, Module'}
use Rattle.bp_base.specs.declared.ident.Unit.{Unit as OfUnit, Unit', out-Unit}
use Rattle.bp_base.specs.declared.ident.Ident.TheBlock.{hidden-the_row-Unit-0, end_of-Unit, more_of-Unit, Row_of-Fill}
use Rattle.bp_base.specs.declared.ident.Ident.TheBlock.{end_of-Fill, more_of-Fill}
use Rattle.bp_base.specs.declared.ident.Fill.{Fill}
use Rattle.bp_base.specs.declared.linking.Rename.{Rename}
use Rattle.bp_base.specs.declared.linking.Provision.{Provision}
use Rattle.bp_base.specs.Lists.{Among}
use Rattle.bp_base.specs.Texts.{Text, Rise}
use Rattle.bp_base.proofs.SetLemmas.{among-left, among-right, among-either, among-image, among-map}
use Rattle.bp_base.proofs.IdentLemmas.{EachFill, ident-induction}
use Rattle.unit_identity.specs.Fill.{filled, filled_unit, composed, found, at_hole}
use Rattle.unit_identity.proofs.FillLemmas.{filled-Module}
use Rattle.hole_unify.specs.declared.equation.Equation.{Equation}
use Rattle.hole_unify.specs.Causes.{IsLawful, units_of, units_below, units_of_row, units_in, holes_of}
use Rattle.hole_unify.specs.Occurrence.{Occurs, AreOfEquations}
use Rattle.hole_unify.specs.Table.{terms_in}
use Rattle.hole_unify.proofs.UnitLemmas.{listed-unit}
use Rattle.ident_table.specs.Parts.{terms_of, terms_below, terms_of_row}
use Rattle.mixin_link.specs.Answers.{IsLike}
use denote.Hole.Carrier.{hidden}
use Rattle.hole_unify.specs.Lawful.{units_in_fills}
use Rattle.hole_unify.proofs.UnifyingLemmas.{component-filled, fills-filled}
use Rattle.hole_unify.proofs.LawfulnessLemmas.{units_of-Module, units_below-out}
use Rattle.cabal_component.specs.declared.component.Mixin.{Mixin}
use Rattle.mixin_names.specs.Names.{provided}
use Rattle.mixin_link.specs.declared.open.OpenInclude.{OpenInclude}
use Rattle.mixin_link.specs.declared.summary.Summary.{Summary}
use Rattle.mixin_link.specs.Linkings.{fills_under}
use Rattle.mixin_link.specs.Summaries.{found_summary, units_shown, idents_of, AreLawful}
use Rattle.mixin_link.specs.Opening.{open_in, exposed_by}
use Rattle.mixin_link.specs.Equations.{equations_of}
use Rattle.mixin_link.proofs.HoleLemmas.{found-fill}
use Rattle.mixin_link.proofs.EquationLemmas.{equation-from}
use Rattle.mixin_link.proofs.NameLemmas.{provided-from, found-among}

-- this holds of each unit that occurs
abbrev pub EachUnit : (OfUnit → Type 0) → Ident → Type 0
EachUnit P i = (u : OfUnit) → Among u (units_of i) → P u

pub module-units : (u : OfUnit) (m : Text) → units_of (Module u m) ≡ u ∷ units_in_fills (out-Unit u).fills
module-units u m = units_of-Module u m ∙ ap (λ (l : List OfUnit). u ∷ l) (units_below-out u)

fills-each : (P : OfUnit → Type 0) (fs : List Fill) → ((u : OfUnit) → Among u (units_in_fills fs) → P u)
    → EachFill (EachUnit P) fs
fills-each P [] k = tt
fills-each P (f ∷ fs) k = (
  (λ u a. k u (among-left u (units_of f.ident) (units_in_fills fs) a)),
  fills-each P fs (λ u a. k u (among-right u (units_of f.ident) (units_in_fills fs) a)),
)

each-fills : (P : OfUnit → Type 0) (fs : List Fill) → EachFill (EachUnit P) fs → (u : OfUnit)
    → Among u (units_in_fills fs) → P u
each-fills P [] k u a = absurd a
each-fills P (f ∷ fs) k u a = elim (among-either u (units_of f.ident) (units_in_fills fs) a) [
  | inl h ↦ k.0 u h
  | inr h ↦ each-fills P fs k.1 u h
]

composed-holes : (fs g : List Fill) → map (λ (f : Fill). f.hole) (composed fs g) ≡ map (λ (f : Fill). f.hole) fs
composed-holes [] g = refl
composed-holes (f ∷ fs) g = ap (λ (l : List Text). f.hole ∷ l) (composed-holes fs g)

-- filling keeps the holes of a unit
pub holes-filled : (u : OfUnit) (g : List Fill) → holes_of (filled_unit u g) ≡ holes_of u
holes-filled u g = ap (map (λ (f : Fill). f.hole)) (fills-filled u g) ∙ composed-holes (out-Unit u).fills g

module _ (P : OfUnit → Type 0) (f : List Fill) (moves : (u : OfUnit) → P u → P (filled_unit u f))
    (each : (x : Fill) → Among x f → EachUnit P x.ident) where
  abbrev Moves : Ident → Type 0
  Moves i = EachUnit P i → EachUnit P (filled i f)

  moves-hole : (n : Text) → Moves (Hole n)
  moves-hole n k = by (found n f) refl
    where
      by : (o : Option Ident) → found n f ≡ o → EachUnit P (unwrap_or o (Hole n))
      by None e = λ u a. absurd a
      by (Some i) e = let x = found-fill n f i e in subst (EachUnit P) x.2 (each x.0 x.1)

  moves-fills : (gs : List Fill) → EachFill Moves gs → EachFill (EachUnit P) gs → EachFill (EachUnit P) (composed gs f)
  moves-fills [] h k = tt
  moves-fills (g ∷ gs) h k = (h.0 k.0, moves-fills gs h.1 k.1)

  moves-module : (u : OfUnit) (m : Text) → EachFill Moves (out-Unit u).fills → Moves (Module u m)
  moves-module u m h k = subst (EachUnit P) (sym (filled-Module u m f)) all
    where
      own : P u
      own = k u (subst (λ (l : List OfUnit). Among u l) (sym (module-units u m)) (inl refl))

      below : EachFill (EachUnit P) (composed (out-Unit u).fills f)
      below = moves-fills (out-Unit u).fills h (fills-each P (out-Unit u).fills
          (λ v a. k v (subst (λ (l : List OfUnit). Among v l) (sym (module-units u m)) (inr a))))

      at : (v : OfUnit) → Among v (filled_unit u f ∷ units_in_fills (composed (out-Unit u).fills f)) → P v
      at v (inl e) = subst P e (moves u own)
      at v (inr a) = each-fills P (composed (out-Unit u).fills f) below v a

      all : EachUnit P (Module (filled_unit u f) m)
      all v a = at v (subst (λ (l : List OfUnit). Among v l) (module-units (filled_unit u f) m
          ∙ ap (λ (l : List Fill). filled_unit u f ∷ units_in_fills l) (fills-filled u f)) a)

  -- what holds of each unit, and of what fills holes, holds of each unit of what is filled
  pub units-of-filled : (i : Ident) → EachUnit P i → EachUnit P (filled i f)
  units-of-filled i = ident-induction Moves moves-hole moves-module i

-- ---- the units of the equations

-- a unit with the component and the holes of one that summaries show
pub record IsShown (ss : List Summary) (u : OfUnit) : Type 0 where
  pub source : OfUnit
  pub there : Among source (units_shown ss)
  pub component : (out-Unit source).component ≡ (out-Unit u).component
  pub holes : holes_of source ≡ holes_of u

-- filling keeps the component and the holes of a unit
pub shown-filled : (ss : List Summary) (f : List Fill) (u : OfUnit) → IsShown ss u → IsShown ss (filled_unit u f)
shown-filled ss f u s = record {
  source = s.source;
  there = s.there;
  component = s.component ∙ sym (component-filled u f);
  holes = s.holes ∙ sym (holes-filled u f);
}

-- what stands in the list of an item stands in the joined lists
pub among-flat : {A B : Type 0} (f : A → List B) (b : B) (xs : List A) (a : A) → Among a xs → Among b (f a)
    → Among b (flat_map f xs)
among-flat f b [] a m k = absurd m
among-flat {A} f b (x ∷ xs) a (inl e) k = among-left b (f x) (flat_map f xs)
    (subst (λ (y : A). Among b (f y)) (sym e) k)
among-flat f b (x ∷ xs) a (inr m) k = among-right b (f x) (flat_map f xs) (among-flat f b xs a m k)

-- what stands in joined lists stands in the list of an item
pub flat-among : {A B : Type 0} (f : A → List B) (b : B) (xs : List A) → Among b (flat_map f xs)
    → (a : A) × Among a xs × Among b (f a)
flat-among f b [] m = absurd m
flat-among f b (x ∷ xs) m = elim (among-either b (f x) (flat_map f xs) m) [
  | inl h ↦ (x, inl refl, h)
  | inr h ↦ let r = flat-among f b xs h in (r.0, inr r.1, r.2)
]

-- the units of what a summary provides are shown
pub shown-unit : (ss : List Summary) (s : Summary) (p : Provision) (u : OfUnit) → Among s ss → Among p s.provisions
    → Among u (units_of p.ident) → Among u (units_shown ss)
shown-unit ss s p u a b c = among-flat units_of u (flat_map idents_of ss) p.ident
    (among-flat idents_of p.ident ss s a (inr (among-map (λ (q : Provision). q.ident) p s.provisions b))) c

-- the units of what entries bring are shown
pub entries-shown : (ss : List Summary) (ms : List Mixin) (i : OpenInclude) → Among i (map (open_in ss) ms)
    → (p : Provision) → Among p i.provides → EachUnit (IsShown ss) p.ident
entries-shown ss ms i a p b =
    let m = among-image (open_in ss) i ms a in
    at m.0 (found_summary m.0.dep ss) refl (subst (λ (j : OpenInclude). Among p j.provides) (sym m.2) b)
  where
    at : (m : Mixin) (o : Option Summary) → found_summary m.dep ss ≡ o → Among p (provided m.provides (exposed_by o))
        → EachUnit (IsShown ss) p.ident
    at m None e c = absurd ((provided-from m.provides [] p c).there)
    at m (Some s) e c = λ u d.
        let x = provided-from m.provides s.provisions p c in
        record {
          source = u;
          there = shown-unit ss s x.source u (found-among m.dep ss s e) x.there
              (subst (λ (j : Ident). Among u (units_of j)) (sym x.same) d);
          component = refl;
          holes = refl;
        }

no-units : (rs : List Rename) (P : OfUnit → Type 0) (x : Fill)
    → Among x (fills_under Hole rs) → EachUnit P x.ident
no-units [] P x a = absurd a
no-units (r ∷ rs) P x (inl e) = subst (λ (y : Fill). EachUnit P y.ident) e (λ u a. absurd a)
no-units (r ∷ rs) P x (inr a) = no-units rs P x a

-- a unit of equations occurs in a side of one
unit-side : (P : OfUnit → Type 0) (es : List Equation)
    → ((e : Equation) → Among e es → EachUnit P e.left × EachUnit P e.right) → (u : OfUnit)
    → Among u (units_in es) → P u
unit-side P [] k u a = absurd a
unit-side P (x ∷ es) k u a = elim (among-either u (units_of x.left) (units_of x.right ++ units_in es) a) [
  | inl h ↦ (k x (inl refl)).0 u h
  | inr r ↦ elim (among-either u (units_of x.right) (units_in es) r) [
    | inl h ↦ (k x (inl refl)).1 u h
    | inr h ↦ unit-side P es (λ e b. k e (inr b)) u h
  ]
]

equations-shown : (ss : List Summary) (ms : List Mixin) (required : List Text) (e : Equation)
    → Among e (equations_of required (map (open_in ss) ms))
    → EachUnit (IsShown ss) e.left × EachUnit (IsShown ss) e.right
equations-shown ss ms required e a =
    let w = (equation-from required (map (open_in ss) ms) e a).2 in
    subst (λ (y : Equation). EachUnit (IsShown ss) y.left × EachUnit (IsShown ss) y.right) w.states (
      (λ u b. absurd b),
      units-of-filled (IsShown ss) (fills_under Hole w.source.needs) (shown-filled ss (fills_under Hole w.source.needs))
          (no-units w.source.needs (IsShown ss)) w.provision.ident
          (entries-shown ss ms w.source w.listed w.provision w.provided),
    )

-- the units of the equations are shown
pub equation-units : (ss : List Summary) (ms : List Mixin) (required : List Text) (u : OfUnit)
    → Among u (units_in (equations_of required (map (open_in ss) ms))) → IsShown ss u
equation-units ss ms required u a = unit-side (IsShown ss) (equations_of required (map (open_in ss) ms))
    (equations-shown ss ms required) u a

-- the equations of lawful summaries meet the condition of unification
pub equations-lawful : (ss : List Summary)
    (ms : List Mixin) (required : List Text) → AreLawful ss
    → IsLawful (equations_of required (map (open_in ss) ms))
equations-lawful ss ms required l = record {
  same_holes = λ u v a b e. let p = shown u a in let q = shown v b in
      sym p.holes ∙ l.alike p.source q.source p.there q.there (p.component ∙ e ∙ sym q.component) ∙ q.holes;
  rising = λ u a. let p = shown u a in subst Rise p.holes (l.rising p.source p.there);
}
  where
    shown : (u : OfUnit) → Among u (units_in (equations_of required (map (open_in ss) ms))) → IsShown ss u
    shown u a = equation-units ss ms required u a

-- ---- the units of an answer

-- a unit that occurs stands among the terms, with some module
mutual
  unit-term : (i : Ident) (u : OfUnit) → Among u (units_of i) → (m : Text) × Among (Module u m) (terms_of i)
  unit-term (Hole n) u a = absurd a
  unit-term (Module' s (more_of-Unit v end_of-Unit) n) u (inl e) = (n, inl (ap (λ (w : OfUnit). Module w n) e))
  unit-term (Module' s (more_of-Unit v end_of-Unit) n) u (inr a) = let r = term-below v u a in (r.0, inr r.1)

  term-below : (v u : OfUnit) → Among u (units_below v) → (m : Text) × Among (Module u m) (terms_below v)
  term-below (Unit' c s r) u a = term-row r u a

  term-row : {k : _} (r : Row_of-Fill k) (u : OfUnit) → Among u (units_of_row r)
      → (m : Text) × Among (Module u m) (terms_of_row r)
  term-row end_of-Fill u a = absurd a
  term-row (more_of-Fill n i r) u a = elim (among-either u (units_of i) (units_of_row r) a) [
    | inl h ↦ let x = unit-term i u h in (x.0, among-left (Module u x.0) (terms_of i) (terms_of_row r) x.1)
    | inr h ↦ let x = term-row r u h in (x.0, among-right (Module u x.0) (terms_of i) (terms_of_row r) x.1)
  ]

occurs-is : (es : List Equation) (u : OfUnit) (m : Text) → Occurs es (Module u m)
    → (v : OfUnit) × Among (Module v m) (terms_in es) × ((out-Unit v).component ≡ (out-Unit u).component)
    × (holes_of v ≡ holes_of u)
unfolding hidden-the_row-Unit-0 hidden
occurs-is es u m o = o

-- the units in what an answer puts at a hole are those of the equations, perhaps filled otherwise
pub answer-units : (es : List Equation) (f : List Fill) → AreOfEquations es f → (n : Text) (u : OfUnit)
    → Among u (units_of (at_hole n f)) → IsLike es u
answer-units es f occ n u a = by (found n f) refl a
  where
    by : (o : Option Ident) → found n f ≡ o → Among u (units_of (unwrap_or o (Hole n))) → IsLike es u
    by None e b = absurd b
    by (Some i) e b =
        let x = found-fill n f i e in
        let t = unit-term i u b in
        let o = occurs-is es u t.0 (occ.parts x.0 x.1 (Module u t.0)
        (subst (λ (j : Ident). Among (Module u t.0) (terms_of j)) (sym x.2) t.1)) in
        record { source = o.0; there = listed-unit es o.0 t.0 o.1; component = o.2; holes = o.3 }
