-- Inference of patterns, one lemma for each form.
use Rattle.std.proofs.Common.{◌≡◌, refl, sym, ap, ap₂, subst, ◌∙◌, ℕ, List, [], ◌∷◌, ◌++◌, map}
use Rattle.std.proofs.lemmas.List.{append_assoc, append-nil}
use Rattle.std.proofs.lemmas.Option.{slice_get_within}
use Rattle.std.specs.Prelude.{Some, slice_get, length, replicate, ◌↔◌}
use Rattle.bp_base.specs.Texts.{Text}
use Rattle.hs_core.specs.declared.tree.Pat.{Pat}
use Rattle.hs_core.specs.declared.tree.Pat.TheVariants.{PVar, PWild, PInt, PChr, PStr, PAs, PLazy}
use Rattle.hs_core.specs.declared.tree.Pat.TheVariants.{PCon', PTuple', PList', PAs', PLazy'}
use Rattle.hs_core.specs.declared.tree.Pat.TheBlock.{end_of-Pat, more_of-Pat}
use Rattle.hs_core.specs.declared.tree.Pat.TheBlock.{hidden-the_row-Pat-0, hidden-the_row-Pat-1}
use denote.Hole.Carrier.{hidden}
use Rattle.type_terms.specs.Terms.{var}
use Rattle.hs_core.specs.Types.{KindTerm, star, TypeTerm, TypeAssignment, any}
use Rattle.hs_core.specs.Schemes.{Bound}
use Rattle.hs_core.specs.Globals.{Globals}
use Rattle.hs_core.specs.Typing.{Kinds, IsProperType, Binds, BindAll, BindEach}
use Rattle.type_unify.specs.Types.{Plain}
use Rattle.kind_check.proofs.DeclareLemmas.{head_same, tail_same}
use Rattle.type_equations.specs.Coded.{value}
use Rattle.type_equations.specs.States.{State, Guess, Meets, IsReady, Equated, NotEqual}
use Rattle.type_equations.specs.declared.equations.Binder.{Binder}
use Rattle.type_equations.specs.Demands.{typed_names, Agree, Imposes, HasNone, IsLocal, nothing, equal, both}
use Rattle.type_equations.specs.Demands.{HaveKinds}
use Rattle.type_equations.specs.Syntax.{AreStars}
use Rattle.type_equations.proofs.DemandLemmas.{agree-itself, imposed_nothing, imposed_equation, imposed_both}
use Rattle.type_equations.proofs.DemandLemmas.{imposed_so, none_equal, none_first, none_later}
use Rattle.type_equations.proofs.DemandLemmas.{none_so, slice_get-front}
use Rattle.infer_patterns.specs.Patterns.{binds, bind_each, Pushes}

-- ---- patterns in a row

pub bind_all-each : (G : Globals) (kinds : Kinds) (ps : List Pat) (ts : List TypeTerm) (bs : List Bound)
    → BindAll G any kinds (hidden-the_row-Pat-0 ps) ts bs ↔ BindEach G any kinds ps ts bs
unfolding hidden-the_row-Pat-0 hidden
bind_all-each G kinds [] ts bs = (λ h. h, λ h. h)
bind_all-each G kinds (p ∷ ps) ts bs = (
  λ h. (h.0, h.1, h.2, h.3, h.4, h.5, (bind_all-each G kinds ps h.1 h.3).0 h.6, h.7),
  λ h. (h.0, h.1, h.2, h.3, h.4, h.5, (bind_all-each G kinds ps h.1 h.3).1 h.6, h.7),
)

-- a pattern's type is a proper one
pub binds-proper : (G : Globals) (kinds : Kinds) (p : Pat) (t : TypeTerm) (bs : List Bound) → Binds G any kinds p t bs
    → IsProperType G any kinds t
binds-proper G kinds (PVar x) t bs h = h.0
binds-proper G kinds PWild t bs h = h.0
binds-proper G kinds (PInt n i) t bs h = h.0
binds-proper G kinds (PChr c) t bs h = h.0
binds-proper G kinds (PStr cs) t bs h = h.0
binds-proper G kinds (PCon' n s ps) t bs h = h.0
binds-proper G kinds (PTuple' s ps) t bs h = h.0
binds-proper G kinds (PList' s ps) t bs h = h.0
binds-proper G kinds (PAs' x s (more_of-Pat p end_of-Pat)) t bs h = binds-proper G kinds p t h.0 h.1
binds-proper G kinds (PLazy' s (more_of-Pat p end_of-Pat)) t bs h = binds-proper G kinds p t bs h

-- as many types of kind `*` as patterns
pub each-stars : (G : Globals) (g : Guess) (ps : List Pat) (ts : List TypeTerm) (bs : List Bound)
    → BindEach G any g.kinds ps ts bs → HaveKinds G g ts (replicate (length ps) star)
each-stars G g [] ts bs h = subst (λ z. HaveKinds G g z []) (sym h.0) refl
each-stars G g (p ∷ ps) ts bs h = subst (λ z. HaveKinds G g z (star ∷ replicate (length ps) star)) (sym h.4)
    ((binds-proper G g.kinds p h.0 h.2 h.5).1, each-stars G g ps h.1 h.3 h.6)

-- ---- locality

pub types-agree : (ks : List KindTerm) (vs : List ℕ) (g h : Guess) → AreStars ks vs → Agree (length ks) g h
    → map g.types vs ≡ map h.types vs
types-agree ks [] g h s a = refl
types-agree ks (v ∷ vs) g h s a = ap₂ (λ t ts. t ∷ ts) (a.types v (slice_get_within ks v star s.0))
    (types-agree ks vs g h s.1 a)

pub binds-local : (G : Globals) (ks : List KindTerm) (p : Pat) (v : ℕ) → slice_get ks v ≡ Some star
    → IsLocal (length ks) (binds G p v)
binds-local G ks p v s g h bs a t = subst (λ z. Binds G any h.kinds p z bs)
    (a.types v (slice_get_within ks v star s)) (subst (λ z. Binds G any z p (g.types v) bs) a.kinds t)

pub bind_each-local : (G : Globals) (ks : List KindTerm) (ps : List Pat) (vs : List ℕ) → AreStars ks vs
    → IsLocal (length ks) (bind_each G ps vs)
bind_each-local G ks ps vs s g h bs a t = subst (λ z. BindEach G any h.kinds ps z bs) (types-agree ks vs g h s a)
    (subst (λ z. BindEach G any z ps (map g.types vs) bs) a.kinds t)

-- ---- patterns without parts

module _ (G : Globals) where
  pub proper : (state : State) (g : Guess) (v : ℕ) → Meets G g state → slice_get state.kinds v ≡ Some star
      → IsProperType G any g.kinds (g.types v)
  proper state g v m s = (refl, m.kinded v star s)

  pub variable_imposes : (state : State) (x : Text) (v : ℕ) → IsReady G state → slice_get state.kinds v ≡ Some star
      → Imposes G (binds G (PVar x) v) (binds G (PVar x) v) (record { name = x; unknown = v } ∷ []) state state
  variable_imposes state x v r s = record {
    ready = r;
    more = [];
    grows = sym (append-nil state.kinds);
    stars = (s, tt);
    sound = λ g m. (m, (proper state g v m s, refl));
    complete = λ g bs m t. (g, agree-itself (length state.kinds) g, m, t.1);
  }

  pub wild_imposes : (state : State) (v : ℕ) → IsReady G state → slice_get state.kinds v ≡ Some star
      → Imposes G (binds G PWild v) (binds G PWild v) [] state state
  wild_imposes state v r s = imposed_so G nothing (binds G PWild v) nothing (binds G PWild v) [] state state
      (λ g bs m t. (proper state g v m s, t)) (λ g bs m t. t.1) (imposed_nothing G state r)

  -- a literal of a type
  pub literal_imposes : (old new : State) (p : Pat) (v : ℕ) (t : Plain) (u : TypeTerm)
      → slice_get old.kinds v ≡ Some star
      → ((kinds : Kinds) (w : TypeTerm) (bs : List Bound) → Binds G any kinds p w bs
      ↔ IsProperType G any kinds w × (w ≡ u) × (bs ≡ []))
      → ((g : TypeAssignment) → value g t ≡ u) → Equated G old new (var v) t
      → Imposes G (binds G p v) (binds G p v) [] old new
  literal_imposes old new p v t u s is val e =
      imposed_so G (equal (var v) t) (binds G p v) (equal (var v) t) (binds G p v) [] old new
      (λ g bs m h. (is g.kinds (g.types v) bs).1 (proper old g v m s, h.0 ∙ val g.types, h.1))
      (λ g bs m h. let a = (is g.kinds (g.types v) bs).0 h in (a.1 ∙ sym (val g.types), a.2))
      (imposed_equation G old new (var v) t e)

  pub literal_none : (old : State) (p : Pat) (v : ℕ) (t : Plain) (u : TypeTerm)
      → ((kinds : Kinds) (w : TypeTerm) (bs : List Bound) → Binds G any kinds p w bs
      ↔ IsProperType G any kinds w × (w ≡ u) × (bs ≡ []))
      → ((g : TypeAssignment) → value g t ≡ u) → NotEqual G old (var v) t → HasNone G (binds G p v) old
  literal_none old p v t u is val e = none_so G (equal (var v) t) (binds G p v) old
      (λ g bs m h. let a = (is g.kinds (g.types v) bs).0 h in (a.1 ∙ sym (val g.types), a.2))
      (none_equal G old (var v) t e)

  -- ---- `x@p` and `~p`

  pub as_imposes : (old new : State) (x : Text) (p : Pat) (v : ℕ) (binders : List Binder)
      → slice_get old.kinds v ≡ Some star → Imposes G (binds G p v) (binds G p v) binders old new
      → Imposes G (binds G (PAs x p) v) (binds G (PAs x p) v) (record { name = x; unknown = v } ∷ binders) old new
  unfolding hidden-the_row-Pat-1 hidden
  as_imposes old new x p v binders s h = record {
    ready = h.ready;
    more = h.more;
    grows = h.grows;
    stars = (subst (λ z. slice_get z v ≡ Some star) (sym h.grows) (slice_get-front old.kinds h.more v star s), h.stars);
    sound = λ g m. let a = h.sound g m in (a.0, (typed_names g binders, a.1, refl));
    complete = λ g bs m t. let a = h.complete g t.0 m t.1 in (
      a.0,
      a.1,
      a.2,
      t.2 ∙ ap₂ (λ u l. record { name = x; type = u } ∷ l) (a.1.types v (slice_get_within old.kinds v star s)) a.3,
    );
  }

  pub as_none : (old : State) (x : Text) (p : Pat) (v : ℕ) → HasNone G (binds G p v) old
      → HasNone G (binds G (PAs x p) v) old
  unfolding hidden-the_row-Pat-1 hidden
  as_none old x p v h g bs m t = h g t.0 m t.1

  pub lazy_imposes : (old new : State) (p : Pat) (v : ℕ) (binders : List Binder)
      → Imposes G (binds G p v) (binds G p v) binders old new
      → Imposes G (binds G (PLazy p) v) (binds G (PLazy p) v) binders old new
  unfolding hidden-the_row-Pat-1 hidden
  lazy_imposes old new p v binders h = h

  pub lazy_none : (old : State) (p : Pat) (v : ℕ) → HasNone G (binds G p v) old → HasNone G (binds G (PLazy p) v) old
  unfolding hidden-the_row-Pat-1 hidden
  lazy_none old p v h = h

  -- ---- patterns in a row

  pub none_imposes : (state : State) → IsReady G state
      → Imposes G (bind_each G [] []) (bind_each G [] []) [] state state
  none_imposes state r = imposed_so G nothing (bind_each G [] []) nothing (bind_each G [] []) [] state state
      (λ g bs m t. (refl, t)) (λ g bs m t. t.1) (imposed_nothing G state r)

  -- the rest of a row of patterns is left
  pub record Remains (ps : List Pat) (vs : List ℕ) (rest : List Pat) (left : List ℕ) (before after : List Binder)
      (old now : State) : Type 0 where
    pub binders : List Binder
    pub pushed : after ≡ before ++ binders
    pub ready : IsReady G now
    pub more : List KindTerm
    pub grows : now.kinds ≡ old.kinds ++ more
    pub finish : (bs : List Binder) (new : State) → Imposes G (bind_each G rest left) (bind_each G rest left) bs now new
        → Imposes G (bind_each G ps vs) (bind_each G ps vs) (binders ++ bs) old new
    pub refuse : HasNone G (bind_each G rest left) now → HasNone G (bind_each G ps vs) old

  pub all_remain : (ps : List Pat) (vs : List ℕ) (before : List Binder) (old : State) → IsReady G old
      → Remains ps vs ps vs before before old old
  all_remain ps vs before old r = record {
    binders = [];
    pushed = sym (append-nil before);
    ready = r;
    more = [];
    grows = sym (append-nil old.kinds);
    finish = λ bs new h. h;
    refuse = λ h. h;
  }

  next_gives : (p : Pat) (ps : List Pat) (v : ℕ) (vs : List ℕ) (g : Guess) (bs : List Bound)
      → both (binds G p v) (bind_each G ps vs) g bs → bind_each G (p ∷ ps) (v ∷ vs) g bs
  next_gives p ps v vs g bs t = (g.types v, map g.types vs, t.0, t.1, refl, t.2, t.3, t.4)

  next_takes : (p : Pat) (ps : List Pat) (v : ℕ) (vs : List ℕ) (g : Guess) (bs : List Bound)
      → bind_each G (p ∷ ps) (v ∷ vs) g bs → both (binds G p v) (bind_each G ps vs) g bs
  next_takes p ps v vs g bs t = (
    t.2,
    t.3,
    subst (λ z. Binds G any g.kinds p z t.2) (sym (head_same _ _ _ _ t.4)) t.5,
    subst (λ z. BindEach G any g.kinds ps z t.3) (sym (tail_same _ _ _ _ t.4)) t.6,
    t.7,
  )

  pub next_remains : (ps : List Pat) (vs : List ℕ) (p : Pat) (rest : List Pat) (v : ℕ) (left : List ℕ)
      (before middle after : List Binder) (old now new : State)
      → AreStars now.kinds (v ∷ left) → Remains ps vs (p ∷ rest) (v ∷ left) before middle old now
      → Pushes G (binds G p v) middle after now new
      → Remains ps vs rest left before after old new
  next_remains ps vs p rest v left before middle after old now new s h q = record {
    binders = h.binders ++ q.binders;
    pushed = q.pushed ∙ ap (λ z. z ++ q.binders) h.pushed ∙ append_assoc before h.binders q.binders;
    ready = q.imposes.ready;
    more = h.more ++ q.imposes.more;
    grows = q.imposes.grows ∙ ap (λ z. z ++ q.imposes.more) h.grows ∙ append_assoc old.kinds h.more q.imposes.more;
    finish = λ bs final i. subst (λ z. Imposes G (bind_each G ps vs) (bind_each G ps vs) z old final)
        (sym (append_assoc h.binders q.binders bs))
        (h.finish (q.binders ++ bs) final
        (imposed_so G (both (binds G p v) (bind_each G rest left)) (bind_each G (p ∷ rest) (v ∷ left))
        (both (binds G p v) (bind_each G rest left)) (bind_each G (p ∷ rest) (v ∷ left)) (q.binders ++ bs) now final
        (λ g xs m t. next_gives p rest v left g xs t) (λ g xs m t. next_takes p rest v left g xs t)
        (imposed_both G (binds G p v) (binds G p v) (bind_each G rest left) (bind_each G rest left) q.binders bs now new
        final (bind_each-local G now.kinds rest left s.1) q.imposes i)));
    refuse = λ n. h.refuse
        (none_so G (both (binds G p v) (bind_each G rest left)) (bind_each G (p ∷ rest) (v ∷ left)) now
        (λ g xs m t. next_takes p rest v left g xs t)
        (none_later G (binds G p v) (binds G p v) (bind_each G rest left) q.binders now new
        (bind_each-local G now.kinds rest left s.1) q.imposes n));
  }

  pub next_none : (ps : List Pat) (vs : List ℕ) (p : Pat) (rest : List Pat) (v : ℕ) (left : List ℕ)
      (before middle : List Binder) (old now : State) → Remains ps vs (p ∷ rest) (v ∷ left) before middle old now
      → HasNone G (binds G p v) now → HasNone G (bind_each G ps vs) old
  next_none ps vs p rest v left before middle old now h n = h.refuse
      (none_so G (both (binds G p v) (bind_each G rest left)) (bind_each G (p ∷ rest) (v ∷ left)) now
      (λ g xs m t. next_takes p rest v left g xs t) (none_first G (binds G p v) (bind_each G rest left) now n))
