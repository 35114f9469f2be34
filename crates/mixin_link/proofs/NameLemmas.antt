-- Required names and the sources of includes.
use Rattle.std.proofs.Common.{◌≡◌, ◌⊎◌, inl, inr, true, false, Bool, List, [], ◌∷◌, ◌++◌, map, refl, sym, ap}
use Rattle.std.proofs.Common.{◌∙◌, subst}
use Rattle.std.specs.Prelude.{Option, Some, None, cond}
use Rattle.std.specs.List.{flat_map}
use Rattle.std.specs.BTreeSet.{insert_key}
use Rattle.std.specs.Ordering.{nat_cmp, match_ordering, ordering_reverse}
use Rattle.std.specs.Cmp.Lexicographic.{slice_cmp}
use Rattle.std.specs.declared.cmp.Ordering.{Ordering}
use Rattle.std.specs.declared.cmp.Ordering.TheVariants.{Less, Equal, Greater}
use Rattle.std.specs.Str.{bytes_eq}
use Rattle.std.proofs.lemmas.Cmp.{nat_list_cmp_total}
use Rattle.std.specs.List.{filter}
use Rattle.bp_base.proofs.TextLemmas.{Before-transitive, Rise-after}
use Rattle.mixin_link.specs.Laws.{NamesAreOrdered}
use Rattle.bp_base.specs.declared.linking.Rename.{Rename}
use Rattle.bp_base.specs.declared.linking.Provision.{Provision}
use Rattle.bp_base.specs.Holes.{EachHole, has_hole}
use Rattle.bp_base.specs.Lists.{Among}
use Rattle.bp_base.specs.Texts.{Text, Before, Rise, RiseAfter}
use Rattle.bp_base.proofs.TextLemmas.{tied_texts}
use Rattle.bp_base.proofs.SetLemmas.{among-left, among-right, among-either, among-map, among-image}
use Rattle.cabal_component.specs.declared.component.Mixin.{Mixin}
use Rattle.cabal_component.specs.declared.component.Provides.{Provides}
use Rattle.cabal_component.specs.declared.component.Provides.TheVariants.{Whole, Listed, Hiding}
use Rattle.mixin_names.specs.Names.{provided, brought, provisions_of, under, all_linked, linkage_name}
use Rattle.mixin_link.specs.declared.open.OpenInclude.{OpenInclude}
use Rattle.mixin_link.specs.declared.summary.Summary.{Summary}
use Rattle.mixin_link.specs.Summaries.{found_summary, AreLawful}
use Rattle.mixin_link.specs.Opening.{open_in, exposed_by, holes_by}
use Rattle.mixin_link.specs.Equations.{AreOpen}
use Rattle.mixin_link.specs.Answers.{in_order, linkage_names, required_names}
use Rattle.mixin_link.proofs.EquationLemmas.{filter-among}

-- ---- names in order

insert-new : (ks : List Text) (k : Text) → Among k (insert_key (slice_cmp nat_cmp) ks k)
insert-new [] k = inl refl
insert-new (x ∷ xs) k = by (slice_cmp nat_cmp k x) refl (insert-new xs k)
  where
    by : (o : Ordering) → slice_cmp nat_cmp k x ≡ o → Among k (insert_key (slice_cmp nat_cmp) xs k)
        → Among k (match_ordering o (k ∷ x ∷ xs) (x ∷ xs) (x ∷ insert_key (slice_cmp nat_cmp) xs k))
    by Less e h = inl refl
    by Equal e h = inl (sym (tied_texts k x e))
    by Greater e h = inr h

insert-old : (a : Text) (ks : List Text) (k : Text) → Among a ks → Among a (insert_key (slice_cmp nat_cmp) ks k)
insert-old a [] k h = absurd h
insert-old a (x ∷ xs) k h = by (slice_cmp nat_cmp k x) h (insert-old a xs k)
  where
    by : (o : Ordering) → (x ≡ a) ⊎ Among a xs → (Among a xs → Among a (insert_key (slice_cmp nat_cmp) xs k))
        → Among a (match_ordering o (k ∷ x ∷ xs) (x ∷ xs) (x ∷ insert_key (slice_cmp nat_cmp) xs k))
    by Less m r = inr m
    by Equal m r = m
    by Greater (inl p) r = inl p
    by Greater (inr m) r = inr (r m)

ordered-old : (a : Text) (done ns : List Text) → Among a done → Among a (in_order done ns)
ordered-old a done [] h = h
ordered-old a done (n ∷ ns) h = ordered-old a (insert_key (slice_cmp nat_cmp) done n) ns (insert-old a done n h)

-- each name that is put in order stands there
pub ordered-new : (a : Text) (done ns : List Text) → Among a ns → Among a (in_order done ns)
ordered-new a done [] h = absurd h
ordered-new a done (n ∷ ns) (inl e) = subst (λ (t : Text). Among t (in_order done (n ∷ ns))) e
    (ordered-old n (insert_key (slice_cmp nat_cmp) done n) ns (insert-new done n))
ordered-new a done (n ∷ ns) (inr h) = ordered-new a (insert_key (slice_cmp nat_cmp) done n) ns h

-- nothing else is put in
insert-from : (a : Text) (ks : List Text) (k : Text) → Among a (insert_key (slice_cmp nat_cmp) ks k)
    → (k ≡ a) ⊎ Among a ks
insert-from a [] k (inl e) = inl e
insert-from a [] k (inr h) = absurd h
insert-from a (x ∷ xs) k h = by (slice_cmp nat_cmp k x) h (insert-from a xs k)
  where
    by : (o : Ordering) → Among a (match_ordering o (k ∷ x ∷ xs) (x ∷ xs) (x ∷ insert_key (slice_cmp nat_cmp) xs k))
        → (Among a (insert_key (slice_cmp nat_cmp) xs k) → (k ≡ a) ⊎ Among a xs) → (k ≡ a) ⊎ Among a (x ∷ xs)
    by Less (inl e) r = inl e
    by Less (inr m) r = inr m
    by Equal m r = inr m
    by Greater (inl e) r = inr (inl e)
    by Greater (inr m) r = elim (r m) [ inl e ↦ inl e | inr h ↦ inr (inr h) ]

ordered-from : (a : Text) (done ns : List Text) → Among a (in_order done ns) → Among a done ⊎ Among a ns
ordered-from a done [] h = inl h
ordered-from a done (n ∷ ns) h = elim (ordered-from a (insert_key (slice_cmp nat_cmp) done n) ns h) [
  | inl m ↦ elim (insert-from a done n m) [ inl e ↦ inr (inl e) | inr k ↦ inl k ]
  | inr m ↦ inr (inr m)
]

insert-after : (a k : Text) (ks : List Text) → Before a k → RiseAfter a ks
    → RiseAfter a (insert_key (slice_cmp nat_cmp) ks k)
insert-after a k [] b r = (b, tt)
insert-after a k (x ∷ xs) b r = by (slice_cmp nat_cmp k x) refl (λ c. insert-after x k xs c r.1)
  where
    by : (o : Ordering) → slice_cmp nat_cmp k x ≡ o
        → (Before x k → RiseAfter x (insert_key (slice_cmp nat_cmp) xs k))
        → RiseAfter a (match_ordering o (k ∷ x ∷ xs) (x ∷ xs) (x ∷ insert_key (slice_cmp nat_cmp) xs k))
    by Less e more = (b, (e, r.1))
    by Equal e more = r
    by Greater e more = (r.0, more (nat_list_cmp_total.antisymm x k ∙ ap ordering_reverse e))

insert-rise : (k : Text) (ks : List Text) → Rise ks → Rise (insert_key (slice_cmp nat_cmp) ks k)
insert-rise k [] r = tt
insert-rise k (x ∷ xs) r = by (slice_cmp nat_cmp k x) refl
  where
    by : (o : Ordering) → slice_cmp nat_cmp k x ≡ o
        → Rise (match_ordering o (k ∷ x ∷ xs) (x ∷ xs) (x ∷ insert_key (slice_cmp nat_cmp) xs k))
    by Less e = (e, r)
    by Equal e = r
    by Greater e = insert-after x k xs (nat_list_cmp_total.antisymm x k ∙ ap ordering_reverse e) r

ordered-rise : (done ns : List Text) → Rise done → Rise (in_order done ns)
ordered-rise done [] r = r
ordered-rise done (n ∷ ns) r = ordered-rise (insert_key (slice_cmp nat_cmp) done n) ns (insert-rise n done r)

pub names_are_ordered : NamesAreOrdered
names_are_ordered ns = (
  ordered-rise [] ns tt,
  (λ n. (
    (λ h. elim (ordered-from n [] ns h) [ inl none ↦ absurd none | inr m ↦ m ]),
    (λ h. ordered-new n [] ns h),
  )),
)

later : (a x : Text) (xs : List Text) → Before a x → RiseAfter x xs → RiseAfter a xs
later a x [] b r = tt
later a x (y ∷ ys) b r = (Before-transitive a x y b r.0, r.1)

filter-after : (f : Text → Bool) (a : Text) (xs : List Text) → RiseAfter a xs → RiseAfter a (filter f xs)
filter-after f a [] r = tt
filter-after f a (x ∷ xs) r = by (f x) (filter-after f x xs r.1) (filter-after f a xs (later a x xs r.0 r.1))
  where
    by : (b : Bool) → RiseAfter x (filter f xs) → RiseAfter a (filter f xs)
        → RiseAfter a (cond b (x ∷ filter f xs) (filter f xs))
    by true k l = (r.0, k)
    by false k l = l

-- what is kept of names in order is in order
pub filter-rise : (f : Text → Bool) (xs : List Text) → Rise xs → Rise (filter f xs)
filter-rise f [] r = tt
filter-rise f (x ∷ xs) r = by (f x) (filter-after f x xs r) (filter-rise f xs (Rise-after x xs r))
  where
    by : (b : Bool) → RiseAfter x (filter f xs) → Rise (filter f xs) → Rise (cond b (x ∷ filter f xs) (filter f xs))
    by true k l = k
    by false k l = l

linked-name : (is : List OpenInclude) (i : OpenInclude) (r : Rename) → Among i is → Among r i.needs
    → Among r.to (linkage_names is)
linked-name [] i r a b = absurd a
linked-name (x ∷ is) i r (inl e) b = among-left r.to (map (λ (y : Rename). y.to) x.needs) (linkage_names is)
    (subst (λ (y : OpenInclude). Among r.to (map (λ (z : Rename). z.to) y.needs)) (sym e)
    (among-map (λ (z : Rename). z.to) r i.needs b))
linked-name (x ∷ is) i r (inr a) b = among-right r.to (map (λ (y : Rename). y.to) x.needs) (linkage_names is)
    (linked-name is i r a b)

-- ---- what entries bring

-- a summary that is found stands among them
pub found-among : (dep : Text) (ss : List Summary) (s : Summary) → found_summary dep ss ≡ Some s → Among s ss
found-among dep [] s e = cc
found-among dep (x ∷ ss) s e = by (bytes_eq x.component dep) e (found-among dep ss s)
  where
    by : (b : Bool) → cond b (Some x) (found_summary dep ss) ≡ Some s → (found_summary dep ss ≡ Some s → Among s ss)
        → Among s (x ∷ ss)
    by true d k = inl cc
    by false d k = inr (k d)

-- what is brought is exposed, perhaps under another name
pub record Exposed (exposed : List Provision) (p : Provision) : Type 0 where
  pub source : Provision
  pub there : Among source exposed
  pub same : source.ident ≡ p.ident

brought-from : (exposed : List Provision) (items : List Rename) (p : Provision)
    → Among p (flat_map (brought (provisions_of exposed)) items) → Exposed exposed p
brought-from exposed [] p a = absurd a
brought-from exposed (r ∷ rs) p a =
    elim (among-either p (brought (provisions_of exposed) r) (flat_map (brought (provisions_of exposed)) rs) a) [
      | inl h ↦
          let i = among-image (under r.to) p (provisions_of exposed r.from) h in
          record {
            source = i.0;
            there = (filter-among (λ (y : Provision). bytes_eq y.name r.from) i.0 exposed i.1).0;
            same = ap (λ (y : Provision). y.ident) i.2;
          }
      | inr h ↦ brought-from exposed rs p h
    ]

-- what an entry brings is exposed
pub provided-from : (x : Provides) (exposed : List Provision) (p : Provision) → Among p (provided x exposed)
    → Exposed exposed p
provided-from Whole exposed p a = record { source = p; there = a; same = refl }
provided-from (Listed items) exposed p a = brought-from exposed items p a
provided-from (Hiding names) exposed p a = record {
  source = p;
  there = (filter-among _ p exposed a).0;
  same = refl;
}

froms : (f : Text → Text) (holes : List Text) → map (λ (r : Rename). r.from) (all_linked f holes) ≡ holes
froms f [] = refl
froms f (h ∷ holes) = ap (λ (l : List Text). h ∷ l) (froms f holes)

-- the includes of entries over lawful summaries are open
pub entries-open : (ss : List Summary) (ms : List Mixin) (signatures : List Text) → AreLawful ss
    → AreOpen (required_names signatures (map (open_in ss) ms)) (map (open_in ss) ms)
entries-open ss ms signatures l = record {
  needed = λ i a r b. ordered-new r.to [] (signatures ++ linkage_names (map (open_in ss) ms))
      (among-right r.to signatures (linkage_names (map (open_in ss) ms)) (linked-name (map (open_in ss) ms) i r a b));
  held = λ i a p b. each i a p b;
}
  where
    at : (m : Mixin) (o : Option Summary) → found_summary m.dep ss ≡ o → (p : Provision)
        → Among p (provided m.provides (exposed_by o))
        → EachHole (λ h. Among h (map (λ (r : Rename). r.from) (all_linked (linkage_name m.needs) (holes_by o))))
        p.ident
    at m None e p b = absurd ((provided-from m.provides [] p b).there)
    at m (Some s) e p b = λ h k.
        let x = provided-from m.provides s.provisions p b in
        subst (λ (l : List Text). Among h l) (sym (froms (linkage_name m.needs) s.holes))
        (l.held s (found-among m.dep ss s e) x.source x.there h (ap (has_hole h) x.same ∙ k))

    each : (i : OpenInclude) → Among i (map (open_in ss) ms) → (p : Provision) → Among p i.provides
        → EachHole (λ h. Among h (map (λ (r : Rename). r.from) i.needs)) p.ident
    each i a p b =
        let m = among-image (open_in ss) i ms a in
        subst (λ (j : OpenInclude). Among p j.provides
        → EachHole (λ h. Among h (map (λ (r : Rename). r.from) j.needs)) p.ident)
        m.2 (at m.0 (found_summary m.0.dep ss) refl p) b
