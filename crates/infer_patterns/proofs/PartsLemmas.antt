-- Inference of tuples and lists of patterns.
use Rattle.std.proofs.Common.{◌≡◌, refl, sym, ap, ap₂, subst, ◌∙◌, ℕ, zero, suc, ◌≤◌, List, [], ◌∷◌, ◌++◌, map}
use Rattle.std.proofs.lemmas.List.{length-replicate}
use Rattle.std.proofs.lemmas.Option.{slice_get_within}
use Rattle.std.specs.Prelude.{Some, slice_get, length, replicate, ◌≢◌}
use Rattle.std.specs.List.{range_with_len}
use Rattle.bp_base.specs.Specials.{special_name}
use Rattle.bp_base.specs.declared.special.Special.TheVariants as s
use Rattle.bp_base.specs.declared.ty.Space.TheVariants.{Types}
use Rattle.hs_core.specs.declared.tree.Pat.{Pat}
use Rattle.hs_core.specs.declared.tree.Pat.TheVariants.{PTuple, PList}
use Rattle.type_terms.specs.Terms.{var}
use Rattle.hs_core.specs.Types.{KindTerm, star, arrow, arrows, TypeTerm, any, list_of, tuple_of, special_type, count}
use Rattle.hs_core.specs.Kinds.{HasKind}
use Rattle.hs_core.specs.Schemes.{Bound}
use Rattle.hs_core.specs.Globals.{Globals, plain_names}
use Rattle.hs_core.specs.Typing.{AllAre, BindEach}
use Rattle.type_unify.specs.Types.{Plain}
use Rattle.kind_check.proofs.ScopeLemmas.{count-length}
use Rattle.kind_check.proofs.DeclareLemmas.{head_same}
use Rattle.type_equations.specs.Coded.{value}
use Rattle.type_equations.specs.States.{State, Guess, Meets, IsReady, Equated, NotEqual}
use Rattle.type_equations.specs.declared.equations.Binder.{Binder}
use Rattle.type_equations.specs.Demands.{Demand, Imposes, HasNone, equal, both, with_types, HaveKinds, some}
use Rattle.type_equations.specs.Demands.{with_unknowns}
use Rattle.type_equations.specs.Syntax.{plain_list, plain_tuple, unknowns, AreStars, KnowsSyntax}
use Rattle.type_equations.proofs.CodedLemmas.{kind_under-is}
use Rattle.type_equations.proofs.DemandLemmas.{imposed_equation, imposed_both, imposed_unknowns, imposed_so, none_equal}
use Rattle.type_equations.proofs.DemandLemmas.{none_first, none_later, none_some, none_so, spliced-front}
use Rattle.type_equations.proofs.SyntaxLemmas.{value-tuple, value-unknowns}
use Rattle.type_equations.proofs.UnknownLemmas.{unknowns_read, new_stars, have-length, applied-kind}
use Rattle.infer_patterns.specs.Patterns.{binds, bind_each}
use Rattle.infer_patterns.proofs.PatternLemmas.{bind_all-each, each-stars, bind_each-local, proper}

-- an equation that binds nothing, and what stands behind it
pub behind_equal : (t u : Plain) (rest : Demand) (g : Guess) (xs : List Bound) → both (equal t u) rest g xs
    → (value g.types t ≡ value g.types u) × rest g xs
behind_equal t u rest g xs h = (h.2.0, subst (λ z. rest g z) (sym (h.4 ∙ ap (λ z. z ++ h.1) h.2.1)) h.3)

pub before_rest : (t u : Plain) (rest : Demand) (g : Guess) (xs : List Bound) → value g.types t ≡ value g.types u
    → rest g xs → both (equal t u) rest g xs
before_rest t u rest g xs e h = ([], xs, (e, refl), h, refl)

module _ (G : Globals) where
  -- ---- tuples

  abbrev pub parts : State → List Pat → List ℕ
  parts state ps = range_with_len (length state.kinds) (length ps)

  abbrev pub stars : List Pat → List KindTerm
  stars ps = replicate (length ps) star

  abbrev pub tuple : State → List Pat → Demand
  tuple state ps = bind_each G ps (parts state ps)

  abbrev pub tuple_type : State → List Pat → Plain
  tuple_type state ps = plain_tuple (unknowns (parts state ps))

  parts_read : (state : State) (ps : List Pat) (us : List TypeTerm) (g : Guess) → HaveKinds G g us (stars ps)
      → map (with_types state.kinds us g).types (parts state ps) ≡ us
  parts_read state ps us g h = ap
      (λ n. map (with_types state.kinds us g).types (range_with_len (length state.kinds) n))
      (sym (have-length G g us (stars ps) h ∙ length-replicate (length ps) star))
      ∙ unknowns_read state.kinds us g.types

  tuple_gives : (state : State) (ps : List Pat) (v : ℕ) → slice_get state.kinds v ≡ Some star
      → (g : Guess) (xs : List Bound) → Meets G g state → both (equal (var v) (tuple_type state ps))
      (tuple state ps) g xs
      → binds G (PTuple ps) v g xs
  tuple_gives state ps v s g xs m t =
      let q = behind_equal (var v) (tuple_type state ps) (tuple state ps) g xs t in (
        proper G state g v m s,
        map g.types (parts state ps),
        q.0 ∙ value-tuple g.types (unknowns (parts state ps)) ∙ ap tuple_of (value-unknowns g.types (parts state ps)),
        (bind_all-each G g.kinds ps (map g.types (parts state ps)) xs).1 q.1,
      )

  tuple_takes : (state : State) (ps : List Pat) (v : ℕ) → slice_get state.kinds v ≡ Some star
      → (g : Guess) (xs : List Bound) → Meets G g state → binds G (PTuple ps) v g xs
      → some G state.kinds (stars ps) (both (equal (var v) (tuple_type state ps)) (tuple state ps)) g xs
  tuple_takes state ps v s g xs m t =
      let row = (bind_all-each G g.kinds ps t.1 xs).0 t.3 in
      let have = each-stars G g ps t.1 xs row in
      let read = parts_read state ps t.1 g have in
      let h = with_types state.kinds t.1 g in (
        t.1,
        have,
        before_rest (var v) (tuple_type state ps) (tuple state ps) h xs
            (sym (spliced-front state.kinds t.1 g.types v (slice_get_within state.kinds v star s)) ∙ t.2
            ∙ ap tuple_of (sym read ∙ sym (value-unknowns h.types (parts state ps)))
            ∙ sym (value-tuple h.types (unknowns (parts state ps))))
            (subst (λ z. BindEach G any g.kinds ps z xs) (sym read) row),
      )

  pub tuple_imposes : (state middle new : State) (ps : List Pat) (v : ℕ) (bs : List Binder) → IsReady G state
      → slice_get state.kinds v ≡ Some star
      → Equated G (with_unknowns state (stars ps)) middle (var v) (tuple_type state ps)
      → Imposes G (tuple state ps) (tuple state ps) bs middle new
      → Imposes G (binds G (PTuple ps) v) (binds G (PTuple ps) v) bs state new
  tuple_imposes state middle new ps v bs r s e h =
      imposed_so G (both (equal (var v) (tuple_type state ps)) (tuple state ps)) (binds G (PTuple ps) v)
      (some G state.kinds (stars ps) (both (equal (var v) (tuple_type state ps)) (tuple state ps)))
      (binds G (PTuple ps) v) bs state new
      (λ g xs m t. tuple_gives state ps v s g xs m t) (λ g xs m t. tuple_takes state ps v s g xs m t)
      (imposed_unknowns G (both (equal (var v) (tuple_type state ps)) (tuple state ps))
      (both (equal (var v) (tuple_type state ps)) (tuple state ps)) bs state new (stars ps) r
      (imposed_both G (equal (var v) (tuple_type state ps)) (equal (var v) (tuple_type state ps)) (tuple state ps)
      (tuple state ps) [] bs (with_unknowns state (stars ps)) middle new
      (bind_each-local G (state.kinds ++ stars ps) ps (parts state ps) (new_stars state.kinds (length ps)))
      (imposed_equation G (with_unknowns state (stars ps)) middle (var v) (tuple_type state ps) e) h))

  pub tuple_none : (state : State) (ps : List Pat) (v : ℕ) → IsReady G state → slice_get state.kinds v ≡ Some star
      → NotEqual G (with_unknowns state (stars ps)) (var v) (tuple_type state ps)
      → HasNone G (binds G (PTuple ps) v) state
  tuple_none state ps v r s n =
      none_so G (some G state.kinds (stars ps) (both (equal (var v) (tuple_type state ps)) (tuple state ps)))
      (binds G (PTuple ps) v) state (λ g xs m t. tuple_takes state ps v s g xs m t)
      (none_some G (both (equal (var v) (tuple_type state ps)) (tuple state ps)) state (stars ps) r
      (none_first G (equal (var v) (tuple_type state ps)) (tuple state ps) (with_unknowns state (stars ps))
      (none_equal G (with_unknowns state (stars ps)) (var v) (tuple_type state ps) n)))

  pub tuple_parts_none : (state middle : State) (ps : List Pat) (v : ℕ) → IsReady G state
      → slice_get state.kinds v ≡ Some star
      → Equated G (with_unknowns state (stars ps)) middle (var v) (tuple_type state ps)
      → HasNone G (tuple state ps) middle → HasNone G (binds G (PTuple ps) v) state
  tuple_parts_none state middle ps v r s e n =
      none_so G (some G state.kinds (stars ps) (both (equal (var v) (tuple_type state ps)) (tuple state ps)))
      (binds G (PTuple ps) v) state (λ g xs m t. tuple_takes state ps v s g xs m t)
      (none_some G (both (equal (var v) (tuple_type state ps)) (tuple state ps)) state (stars ps) r
      (none_later G (equal (var v) (tuple_type state ps)) (equal (var v) (tuple_type state ps)) (tuple state ps) []
      (with_unknowns state (stars ps)) middle
      (bind_each-local G (state.kinds ++ stars ps) ps (parts state ps) (new_stars state.kinds (length ps)))
      (imposed_equation G (with_unknowns state (stars ps)) middle (var v) (tuple_type state ps) e) n))

  -- there are no tuples of one part, nor of more than 15
  pub tuple_count : KnowsSyntax G → (state : State) (ps : List Pat) (v : ℕ)
      → ((length ps ≤ 15) × (length ps ≢ 1) → ⊥) → HasNone G (binds G (PTuple ps) v) state
  tuple_count K state ps v n g xs m t =
      let row = (bind_all-each G g.kinds ps t.1 xs).0 t.3 in
      let have = each-stars G g ps t.1 xs row in
      let many : length t.1 ≡ length ps = have-length G g t.1 (stars ps) have ∙ length-replicate (length ps) star in
      n (subst (λ k. (k ≤ 15) × (k ≢ 1)) (count-length t.1 ∙ many)
      ((K.tuple (count t.1)).0
      (subst (λ k. plain_names G (special_name Types (s.Tuple (count t.1))) (arrows (replicate k star) star))
      (sym (count-length t.1))
      (applied-kind G g t.1 (special_type (s.Tuple (count t.1)))
      (subst (λ k. HaveKinds G g t.1 (replicate k star)) (sym many) have)
      (subst (λ z. HasKind (plain_names G) g.kinds z star) t.2 t.0.1)))))

  -- ---- lists

  abbrev pub items : State → List Pat → List ℕ
  items state ps = replicate (length ps) (length state.kinds)

  abbrev pub list : State → List Pat → Demand
  list state ps = bind_each G ps (items state ps)

  abbrev pub list_type : State → Plain
  list_type state = plain_list (var (length state.kinds))

  pub all_same : (f : ℕ → TypeTerm) (n m : ℕ) → AllAre (f n) (map f (replicate m n))
  all_same f n zero = tt
  all_same f n (suc m) = (refl, all_same f n m)

  pub same_all : (f : ℕ → TypeTerm) (n : ℕ) (u : TypeTerm) (us : List TypeTerm) → u ≡ f n → AllAre u us
      → map f (replicate (length us) n) ≡ us
  same_all f n u [] e h = refl
  same_all f n u (t ∷ us) e h = ap₂ (λ x xs. x ∷ xs) (sym e ∙ sym h.0) (same_all f n u us e h.1)

  pub item_read : (state : State) (u : TypeTerm) (g : Guess)
      → (with_types state.kinds (u ∷ []) g).types (length state.kinds) ≡ u
  item_read state u g = head_same _ _ _ _ (unknowns_read state.kinds (u ∷ []) g.types)

  list_gives : (state : State) (ps : List Pat) (v : ℕ) → slice_get state.kinds v ≡ Some star
      → (g : Guess) (xs : List Bound) → Meets G g state → both (equal (var v) (list_type state)) (list state ps) g xs
      → binds G (PList ps) v g xs
  list_gives state ps v s g xs m t =
      let q = behind_equal (var v) (list_type state) (list state ps) g xs t in (
        proper G state g v m s,
        g.types (length state.kinds),
        map g.types (items state ps),
        q.0,
        all_same g.types (length state.kinds) (length ps),
        (bind_all-each G g.kinds ps (map g.types (items state ps)) xs).1 q.1,
      )

  -- the items of a list have kind `*`
  pub item_kind : KnowsSyntax G → (g : Guess) (u : TypeTerm) → HasKind (plain_names G) g.kinds (list_of u) star
      → HasKind (plain_names G) g.kinds u star
  item_kind K g u h = subst (λ j. HasKind (plain_names G) g.kinds u j)
      (ap parameter (sym (kind_under-is G g.kinds (special_type s.List) (arrow h.0 star) h.1)
      ∙ kind_under-is G g.kinds (special_type s.List) (arrow star star) K.list)) h.2
    where
      parameter : KindTerm → KindTerm
      parameter star = star
      parameter (arrow j k) = j

  list_takes : KnowsSyntax G → (state : State) (ps : List Pat) (v : ℕ) → slice_get state.kinds v ≡ Some star
      → (g : Guess) (xs : List Bound) → Meets G g state → binds G (PList ps) v g xs
      → some G state.kinds (star ∷ []) (both (equal (var v) (list_type state)) (list state ps)) g xs
  list_takes K state ps v s g xs m t =
      let row = (bind_all-each G g.kinds ps t.2 xs).0 t.5 in
      let many : length t.2 ≡ length ps = have-length G g t.2 (stars ps) (each-stars G g ps t.2 xs row)
      ∙ length-replicate (length ps) star in
      let h = with_types state.kinds (t.1 ∷ []) g in
      let item = item_read state t.1 g in
      let read : map h.types (items state ps) ≡ t.2 =
      ap (λ n. map h.types (replicate n (length state.kinds))) (sym many)
      ∙ same_all h.types (length state.kinds) t.1 t.2 (sym item) t.4 in (
        t.1 ∷ [],
        (item_kind K g t.1 (subst (λ z. HasKind (plain_names G) g.kinds z star) t.3 t.0.1), refl),
        before_rest (var v) (list_type state) (list state ps) h xs
            (sym (spliced-front state.kinds (t.1 ∷ []) g.types v (slice_get_within state.kinds v star s)) ∙ t.3
            ∙ ap list_of (sym item))
            (subst (λ z. BindEach G any g.kinds ps z xs) (sym read) row),
      )

  abbrev pub one_star : List KindTerm
  one_star = star ∷ []

  pub item_stars : (state : State) (m : ℕ) → AreStars (state.kinds ++ one_star) (replicate m (length state.kinds))
  item_stars state zero = tt
  item_stars state (suc m) = ((new_stars state.kinds 1).0, item_stars state m)

  pub list_imposes : KnowsSyntax G → (state middle new : State) (ps : List Pat) (v : ℕ) (bs : List Binder)
      → IsReady G state → slice_get state.kinds v ≡ Some star
      → Equated G (with_unknowns state one_star) middle (var v) (list_type state)
      → Imposes G (list state ps) (list state ps) bs middle new
      → Imposes G (binds G (PList ps) v) (binds G (PList ps) v) bs state new
  list_imposes K state middle new ps v bs r s e h =
      imposed_so G (both (equal (var v) (list_type state)) (list state ps)) (binds G (PList ps) v)
      (some G state.kinds one_star (both (equal (var v) (list_type state)) (list state ps)))
      (binds G (PList ps) v) bs state new
      (λ g xs m t. list_gives state ps v s g xs m t) (λ g xs m t. list_takes K state ps v s g xs m t)
      (imposed_unknowns G (both (equal (var v) (list_type state)) (list state ps))
      (both (equal (var v) (list_type state)) (list state ps)) bs state new one_star r
      (imposed_both G (equal (var v) (list_type state)) (equal (var v) (list_type state)) (list state ps)
      (list state ps) [] bs (with_unknowns state one_star) middle new
      (bind_each-local G (state.kinds ++ one_star) ps (items state ps) (item_stars state (length ps)))
      (imposed_equation G (with_unknowns state one_star) middle (var v) (list_type state) e) h))

  pub list_none : KnowsSyntax G → (state : State) (ps : List Pat) (v : ℕ) → IsReady G state
      → slice_get state.kinds v ≡ Some star
      → NotEqual G (with_unknowns state one_star) (var v) (list_type state) → HasNone G (binds G (PList ps) v) state
  list_none K state ps v r s n =
      none_so G (some G state.kinds one_star (both (equal (var v) (list_type state)) (list state ps)))
      (binds G (PList ps) v) state (λ g xs m t. list_takes K state ps v s g xs m t)
      (none_some G (both (equal (var v) (list_type state)) (list state ps)) state one_star r
      (none_first G (equal (var v) (list_type state)) (list state ps) (with_unknowns state one_star)
      (none_equal G (with_unknowns state one_star) (var v) (list_type state) n)))

  pub list_items_none : KnowsSyntax G → (state middle : State) (ps : List Pat) (v : ℕ) → IsReady G state
      → slice_get state.kinds v ≡ Some star
      → Equated G (with_unknowns state one_star) middle (var v) (list_type state)
      → HasNone G (list state ps) middle → HasNone G (binds G (PList ps) v) state
  list_items_none K state middle ps v r s e n =
      none_so G (some G state.kinds one_star (both (equal (var v) (list_type state)) (list state ps)))
      (binds G (PList ps) v) state (λ g xs m t. list_takes K state ps v s g xs m t)
      (none_some G (both (equal (var v) (list_type state)) (list state ps)) state one_star r
      (none_later G (equal (var v) (list_type state)) (equal (var v) (list_type state)) (list state ps) []
      (with_unknowns state one_star) middle
      (bind_each-local G (state.kinds ++ one_star) ps (items state ps) (item_stars state (length ps)))
      (imposed_equation G (with_unknowns state one_star) middle (var v) (list_type state) e) n))
