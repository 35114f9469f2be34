-- What a linked component provides meets the condition for the next one.
use Rattle.std.proofs.Common.{◌≡◌, ◌⊎◌, inl, inr, List, [], ◌∷◌, ◌++◌, map, refl, sym, ap, ◌∙◌, subst}
use Rattle.std.specs.List.{flat_map}
use Rattle.bp_base.specs.declared.ident.Ident.{Ident}
use Rattle.bp_base.specs.declared.ident.Ident.TheVariants.{Module}
use Rattle.bp_base.specs.declared.ident.Ident.TheViews.{out-roll-Unit}
use Rattle.bp_base.specs.declared.ident.Unit.{Unit as OfUnit, out-Unit}
use Rattle.bp_base.specs.declared.ident.Fill.{Fill}
use Rattle.bp_base.specs.declared.linking.Include.{Include}
use Rattle.bp_base.specs.declared.linking.Linking.{Linking}
use Rattle.bp_base.specs.declared.linking.Provision.{Provision}
use Rattle.bp_base.specs.declared.linking.Rename.{Rename}
use Rattle.bp_base.specs.Holes.{EachHole}
use Rattle.bp_base.specs.Lists.{Among}
use Rattle.bp_base.specs.Texts.{Text, Rise}
use Rattle.bp_base.proofs.TextLemmas.{same_texts, texts_same}
use Rattle.bp_base.proofs.SetLemmas.{among-either, among-image}
use Rattle.bp_base.proofs.IdentLemmas.{EachFill}
use Rattle.bp_base.proofs.HoleLemmas.{fills-EachHole}
use Rattle.unit_identity.specs.Fill.{filled}
use Rattle.hole_unify.specs.Causes.{units_of, holes_of}
use Rattle.hole_unify.specs.Lawful.{units_in_fills}
use Rattle.cabal_component.specs.declared.component.Component.{Component}
use Rattle.cabal_component.specs.Includes.{includes_of}
use Rattle.mixin_link.specs.declared.open.OpenInclude.{OpenInclude}
use Rattle.mixin_link.specs.declared.summary.Summary.{Summary}
use Rattle.mixin_link.specs.Linkings.{fills_under}
use Rattle.mixin_link.specs.Equations.{AreOpen}
use Rattle.mixin_link.specs.Summaries.{own_fills, own_unit, idents_of, units_shown, AreLawful}
use Rattle.mixin_link.specs.Answers.{is_hole, holes_left, provision_in, include_under, open_includes}
use Rattle.mixin_link.specs.Answers.{required_by, linkage_names, IsLinked, IsLinkingOf}
use Rattle.mixin_link.specs.Laws.{IsProvided, LinkingsAreLawful}
use Rattle.mixin_link.proofs.HoleLemmas.{holes-of-filled}
use Rattle.mixin_link.proofs.EquationLemmas.{has-fills, among-filter}
use Rattle.mixin_link.proofs.NameLemmas.{entries-open, names_are_ordered, filter-rise}
use Rattle.mixin_link.proofs.UnitLemmas.{EachUnit, module-units, units-of-filled, IsShown, shown-filled, among-flat}
use Rattle.mixin_link.proofs.UnitLemmas.{flat-among, entries-shown, equation-units}

-- ---- the own unit

own-component : (c : Text) (hs : List Text) → (out-Unit (own_unit c hs)).component ≡ c
own-component c hs = ap (λ o. o.component) (out-roll-Unit (record { component = c; fills = own_fills hs }))

own-list : (c : Text) (hs : List Text) → (out-Unit (own_unit c hs)).fills ≡ own_fills hs
own-list c hs = ap (λ o. o.fills) (out-roll-Unit (record { component = c; fills = own_fills hs }))

own-names : (hs : List Text) → map (λ (f : Fill). f.hole) (own_fills hs) ≡ hs
own-names [] = refl
own-names (h ∷ hs) = ap (λ (l : List Text). h ∷ l) (own-names hs)

own-holes : (c : Text) (hs : List Text) → holes_of (own_unit c hs) ≡ hs
own-holes c hs = ap (map (λ (f : Fill). f.hole)) (own-list c hs) ∙ own-names hs

no-units : (hs : List Text) (u : OfUnit) → Among u (units_in_fills (own_fills hs)) → ⊥
no-units [] u a = a
no-units (h ∷ hs) u a = no-units hs u a

own-each : (Q : Text → Type 0) (hs : List Text) → ((h : Text) → Among h hs → Q h)
    → EachFill (EachHole Q) (own_fills hs)
own-each Q [] k = tt
own-each Q (h ∷ hs) k = (
  (λ n e. subst Q (same_texts h n e) (k h (inl refl))),
  own-each Q hs (λ n a. k n (inr a)),
)

own-held : (c : Text) (hs : List Text) (m : Text) → EachHole (λ h. Among h hs) (Module (own_unit c hs) m)
own-held c hs m = fills-EachHole (λ h. Among h hs) (own_unit c hs) m
    (subst (EachFill (EachHole (λ h. Among h hs))) (sym (own-list c hs)) (own-each (λ h. Among h hs) hs (λ h a. a)))

-- ---- fills of includes

under-from : (s : Text → Ident) (rs : List Rename) (x : Fill) → Among x (fills_under s rs)
    → (r : Rename) × Among r rs × (s r.to ≡ x.ident)
under-from s [] x a = absurd a
under-from s (r ∷ rs) x (inl e) = (r, inl refl, ap (λ (y : Fill). y.ident) e)
under-from s (r ∷ rs) x (inr a) = let q = under-from s rs x a in (q.0, inr q.1, q.2)

module _ (c : Component) (ss : List Summary) (l : Linking) (lawful : AreLawful ss) (linking : IsLinkingOf c ss l) where
  abbrev required : List Text
  required = required_by c ss

  abbrev is : List OpenInclude
  is = open_includes c ss

  abbrev linked : IsLinked required is l
  linked = linking.linked

  abbrev s : Text → Ident
  s = linked.assigns

  are-open : AreOpen required is
  are-open = entries-open ss (includes_of c) c.signatures lawful

  holes-are : l.holes ≡ holes_left s required
  holes-are = ap (λ (x : Linking). x.holes) linked.written

  holes-rise : Rise l.holes
  holes-rise = subst Rise (sym holes-are) (filter-rise (λ n. is_hole n (s n)) required
      (names_are_ordered (c.signatures ++ linkage_names is)).0)

  -- each hole of what is assigned is one of the linking
  assigned-held : (n : Text) → Among n required → EachHole (λ h. Among h l.holes) (s n)
  assigned-held n r = λ h e.
      let k = linked.principal.left n h r e in
      subst (λ (x : List Text). Among h x) (sym holes-are)
      (among-filter (λ m. is_hole m (s m)) h required k.0 (ap (is_hole h) k.1 ∙ texts_same h))

  assigned-shown : (n : Text) → Among n required → EachUnit (IsShown ss) (s n)
  assigned-shown n r = λ u a.
      let k = linked.parts n r u a in
      let w = equation-units ss (includes_of c) required k.source k.there in
      record {
        source = w.source;
        there = w.there;
        component = w.component ∙ k.component;
        holes = w.holes ∙ k.holes;
      }

  -- what stands at a hole of an include
  fill-assigned : (P : Ident → Type 0) → ((n : Text) → Among n required → P (s n)) → (o : OpenInclude) → Among o is
      → (x : Fill) → Among x (fills_under s o.needs) → P x.ident
  fill-assigned P k o a x b =
      let r = under-from s o.needs x b in subst P r.2 (k r.0.to (are-open.needed o a r.0 r.1))

  -- a provision of an include of the linking
  record Given (q : Provision) : Type 0 where
    source : OpenInclude
    listed : Among source is
    provision : Provision
    provided : Among provision source.provides
    ident : filled provision.ident (fills_under s source.needs) ≡ q.ident

  given : (i : Include) → Among i l.includes → (q : Provision) → Among q i.provides → Given q
  given i a q b =
      let o = among-image (include_under s) i is (subst (λ (x : List Include). Among i x)
      (ap (λ (x : Linking). x.includes) linked.written) a) in
      let p = among-image (provision_in (fills_under s o.0.needs)) q o.0.provides
      (subst (λ (x : Include). Among q x.provides) (sym o.2) b) in
      record {
        source = o.0;
        listed = o.1;
        provision = p.0;
        provided = p.1;
        ident = ap (λ (x : Provision). x.ident) p.2;
      }

  given-held : (q : Provision) → Given q → EachHole (λ h. Among h l.holes) q.ident
  given-held q g = subst (EachHole (λ h. Among h l.holes)) g.ident (holes-of-filled (fills_under s g.source.needs)
      (λ h. Among h l.holes) (fill-assigned (EachHole (λ h. Among h l.holes)) assigned-held g.source g.listed)
      g.provision.ident (has-fills s g.source.needs g.provision.ident
      (are-open.held g.source g.listed g.provision g.provided)))

  given-shown : (q : Provision) → Given q → EachUnit (IsShown ss) q.ident
  given-shown q g = subst (EachUnit (IsShown ss)) g.ident (units-of-filled (IsShown ss) (fills_under s g.source.needs)
      (shown-filled ss (fills_under s g.source.needs))
      (fill-assigned (EachUnit (IsShown ss)) assigned-shown g.source g.listed) g.provision.ident
      (entries-shown ss (includes_of c) g.source g.listed g.provision g.provided))

  -- ---- what is provided

  provided-held : (p : Provision) → IsProvided c.name l p → EachHole (λ h. Among h l.holes) p.ident
  provided-held p (inl o) = subst (EachHole (λ h. Among h l.holes)) (sym o.1) (own-held c.name l.holes o.0)
  provided-held p (inr g) = subst (EachHole (λ h. Among h l.holes)) g.4 (given-held g.2 (given g.0 g.1 g.2 g.3))

  abbrev IsOwn : OfUnit → Type 0
  IsOwn u = ((out-Unit u).component ≡ c.name) × (holes_of u ≡ l.holes)

  abbrev IsKnown : OfUnit → Type 0
  IsKnown u = IsOwn u ⊎ IsShown ss u

  own-known : (m : Text) → EachUnit IsKnown (Module (own_unit c.name l.holes) m)
  own-known m u a = at (subst (λ (x : List OfUnit). Among u x) (module-units (own_unit c.name l.holes) m
      ∙ ap (λ (x : List Fill). own_unit c.name l.holes ∷ units_in_fills x) (own-list c.name l.holes)) a)
    where
      at : Among u (own_unit c.name l.holes ∷ units_in_fills (own_fills l.holes)) → IsKnown u
      at (inl e) = inl (subst IsOwn e (own-component c.name l.holes, own-holes c.name l.holes))
      at (inr b) = absurd (no-units l.holes u b)

  provided-known : (p : Provision) → IsProvided c.name l p → EachUnit IsKnown p.ident
  provided-known p (inl o) = subst (EachUnit IsKnown) (sym o.1) (own-known o.0)
  provided-known p (inr g) = λ u a. inr (subst (EachUnit (IsShown ss)) g.4
      (given-shown g.2 (given g.0 g.1 g.2 g.3)) u a)

  module _ (ps : List Provision) (fresh : (u : OfUnit) → Among u (units_shown ss) → (out-Unit u).component ≡ c.name → ⊥)
      (each : (p : Provision) → Among p ps → IsProvided c.name l p) where
    abbrev own : Summary
    own = record { component = c.name; holes = l.holes; provisions = ps }

    known : (u : OfUnit) → Among u (units_shown (own ∷ ss)) → IsKnown u
    known u a =
        let i = flat-among units_of u (flat_map idents_of (own ∷ ss)) a in
        elim (among-either i.0 (idents_of own) (flat_map idents_of ss) i.1) [
          | inl m ↦ at i.0 m i.2
          | inr m ↦ inr (record {
            source = u;
            there = among-flat units_of u (flat_map idents_of ss) i.0 m i.2;
            component = refl;
            holes = refl;
          })
        ]
      where
        at : (i : Ident) → Among i (idents_of own) → Among u (units_of i) → IsKnown u
        at i (inl e) b = own-known c.name u (subst (λ (x : Ident). Among u (units_of x)) (sym e) b)
        at i (inr m) b =
            let p = among-image (λ (q : Provision). q.ident) i ps m in
            provided-known p.0 (each p.0 p.1) u (subst (λ (x : Ident). Among u (units_of x)) (sym p.2) b)

    new-old : (u : OfUnit) → (out-Unit u).component ≡ c.name → IsShown ss u → ⊥
    new-old u e w = fresh w.source w.there (w.component ∙ e)

    alike : (u v : OfUnit) → IsKnown u → IsKnown v → (out-Unit u).component ≡ (out-Unit v).component
        → holes_of u ≡ holes_of v
    alike u v (inl a) (inl b) e = a.1 ∙ sym b.1
    alike u v (inl a) (inr b) e = absurd (new-old v (sym e ∙ a.0) b)
    alike u v (inr a) (inl b) e = absurd (new-old u (e ∙ b.0) a)
    alike u v (inr a) (inr b) e = sym a.holes
        ∙ lawful.alike a.source b.source a.there b.there (a.component ∙ e ∙ sym b.component) ∙ b.holes

    rising : (u : OfUnit) → IsKnown u → Rise (holes_of u)
    rising u (inl a) = subst Rise (sym a.1) holes-rise
    rising u (inr a) = subst Rise a.holes (lawful.rising a.source a.there)

    held : (x : Summary) → Among x (own ∷ ss) → (p : Provision) → Among p x.provisions
        → EachHole (λ h. Among h x.holes) p.ident
    held x (inl e) = subst (λ (y : Summary). (p : Provision) → Among p y.provisions
        → EachHole (λ h. Among h y.holes) p.ident) e (λ p a. provided-held p (each p a))
    held x (inr a) = lawful.held x a

    next : AreLawful (own ∷ ss)
    next = record {
      held = held;
      alike = λ u v a b e. alike u v (known u a) (known v b) e;
      rising = λ u a. rising u (known u a);
    }

pub linkings_are_lawful : LinkingsAreLawful
linkings_are_lawful c ss l ps lawful linking fresh each = next c ss l lawful linking ps fresh each
