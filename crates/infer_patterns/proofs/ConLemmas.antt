-- Inference of constructor patterns.
use Rattle.std.proofs.Common.{◌≡◌, refl, sym, ap, ap₂, subst, ◌∙◌, ℕ, zero, suc, ◌<◌, ◌+◌, true, List, [], ◌∷◌}
use Rattle.std.proofs.Common.{◌++◌, map, true≢false, arith}
use Rattle.std.proofs.lemmas.Bool.{or_left, or_right, eq-eqb}
use Rattle.std.proofs.lemmas.List.{length-replicate, length-append, length-map}
use Rattle.std.proofs.lemmas.Option.{slice_get_within, same_Some}
use Rattle.std.specs.Prelude.{Option, Some, None, slice_get, length, replicate}
use Rattle.std.specs.List.{range_with_len}
use Rattle.bp_base.specs.declared.ty.OrigName.{OrigName}
use Rattle.bp_base.specs.declared.ty.Ty.{Ty}
use Rattle.bp_base.specs.declared.ty.Ty.TheVariants.{Var, Con, App'}
use Rattle.bp_base.specs.declared.ty.Ty.TheBlock.{more_of-Ty, end_of-Ty}
use Rattle.hs_core.specs.declared.tree.Pat.{Pat}
use Rattle.hs_core.specs.declared.tree.Pat.TheVariants.{PCon}
use Rattle.type_terms.specs.Terms.{var, con, app, applied, occurs_in}
use Rattle.hs_core.specs.Types.{KindTerm, star, arrow, TypeTerm, TypeAssignment, any, functions, count, kind_term}
use Rattle.hs_core.specs.Types.{type_term}
use Rattle.hs_core.specs.Kinds.{HasKind, AreLeast, kind_at}
use Rattle.hs_core.specs.Schemes.{TypeScheme, IsInstance, IsDeclared, Bound}
use Rattle.hs_core.specs.Globals.{NameMeaning, type_name, synonym_name, value_name, constructor_name, Constructor}
use Rattle.hs_core.specs.Globals.{Globals, plain_names, type_in}
use Rattle.hs_core.specs.Globals.{HasConstructor}
use Rattle.hs_core.specs.Typing.{BindEach}
use Rattle.type_unify.specs.Types.{Plain}
use Rattle.kind_check.specs.Forms.{code}
use Rattle.kind_check.proofs.ScopeLemmas.{count-length}
use Rattle.kind_check.proofs.DeclareLemmas.{Below-both}
use Rattle.type_meaning.proofs.MeaningLemmas.{agreeing}
use Rattle.type_equations.specs.Coded.{IsForm, value, result_kind}
use Rattle.type_equations.specs.States.{State, Guess, Meets, IsReady, Equated, NotEqual}
use Rattle.type_equations.specs.declared.equations.Binder.{Binder}
use Rattle.type_equations.specs.Demands.{Demand, Imposes, HasNone, IsLocal, equal, both, with_types, HaveKinds, some}
use Rattle.type_equations.specs.Demands.{with_unknowns}
use Rattle.type_equations.specs.Syntax.{plain_functions, unknowns}
use Rattle.type_equations.proofs.CodedLemmas.{kind_under-is}
use Rattle.type_equations.proofs.DemandLemmas.{imposed_equation, imposed_both, imposed_unknowns, imposed_so, none_equal}
use Rattle.type_equations.proofs.DemandLemmas.{none_first, none_later, none_some, none_so, spliced-front, ready-with}
use Rattle.type_equations.proofs.DemandLemmas.{slice_get-front, meets-without}
use Rattle.type_equations.proofs.SyntaxLemmas.{value-functions, value-unknowns}
use Rattle.type_equations.proofs.UnknownLemmas.{new_stars, have-length, slice_get-behind, spliced-some, unknowns_read}
use Rattle.infer_patterns.specs.Names.{IsNoted, HasShape, kinds_of_declared, Tells, noted_kind, argument_kind, instance}
use Rattle.infer_patterns.specs.Patterns.{binds, bind_each, con_state, con_parts}
use Rattle.infer_patterns.specs.declared.names.Declared.{Declared}
use Rattle.infer_patterns.proofs.PatternLemmas.{bind_all-each, each-stars, bind_each-local, proper}
use Rattle.infer_patterns.proofs.PartsLemmas.{behind_equal, before_rest}

-- ---- a declared type at new unknowns

length-range : (a m : ℕ) → length (range_with_len a m) ≡ m
length-range a zero = refl
length-range a (suc m) = ap suc (length-range (a + 1) m)

pub zero-plus : (w : ℕ) → 0 + w ≡ w
zero-plus w = omega arith

pub kind_at-some : (ks : List KindTerm) (i : ℕ) → i < length ks → slice_get ks i ≡ Some (kind_at ks i)
kind_at-some [] i l = absurd (omega (arith, l))
kind_at-some (k ∷ ks) zero l = refl
kind_at-some (k ∷ ks) (suc i) l = kind_at-some ks i (omega (arith, l))

pub instance-value : (g : TypeAssignment) (ks : List KindTerm) (first : ℕ) (ty : Ty)
    → value g (instance ks first ty) ≡ applied (λ i. g (first + i)) (type_term ty)
instance-value g ks first (Var i) = refl
instance-value g ks first (Con n j) = refl
instance-value g ks first (App' s (more_of-Ty f end_of-Ty) z (more_of-Ty a end_of-Ty)) =
    ap₂ app (instance-value g ks first f) (instance-value g ks first a)

module _ (G : Globals) where
  noted_kind-is : (ks : List KindTerm) (ty : Ty) (k : KindTerm) → HasKind (plain_names G) (kind_at ks) (type_term ty) k
      → IsNoted G ty → noted_kind ks ty ≡ k
  noted_kind-is ks (Var i) k h n = h
  noted_kind-is ks (Con m j) k h n = sym (kind_under-is G (kind_at ks) (con m) (kind_term j) n)
      ∙ kind_under-is G (kind_at ks) (con m) k h
  noted_kind-is ks (App' s (more_of-Ty f end_of-Ty) z (more_of-Ty a end_of-Ty)) k h n =
      ap result_kind (noted_kind-is ks f (arrow h.0 k) h.1 n.0)

  pub instance-form : (old ks : List KindTerm) (ty : Ty) (k : KindTerm)
      → HasKind (plain_names G) (kind_at ks) (type_term ty) k → IsNoted G ty
      → ((i : ℕ) → occurs_in i (type_term ty) ≡ true → i < length ks)
      → IsForm G (old ++ ks) (instance ks (length old) ty) k
  instance-form old ks (Var i) k h n v = slice_get-behind old ks i ∙ kind_at-some ks i (v i (eq-eqb i i refl))
      ∙ ap Some h
  instance-form old ks (Con m j) k h n v = h
  instance-form old ks (App' s (more_of-Ty f end_of-Ty) z (more_of-Ty a end_of-Ty)) k h n v = (
    h.0,
    ap (λ j. code (argument_kind j)) (noted_kind-is ks f (arrow h.0 k) h.1 n.0),
    instance-form old ks f (arrow h.0 k) h.1 n.0
        (λ i o. v i (or_left (occurs_in i (type_term f)) (occurs_in i (type_term a)) o)),
    instance-form old ks a h.0 h.2 n.1
        (λ i o. v i (or_right (occurs_in i (type_term f)) (occurs_in i (type_term a)) o)),
  )

  -- ---- kinds of the types that a choice gives

  pub choice-kinds : (g : Guess) (choice : TypeAssignment) (a : ℕ) (ks : List KindTerm)
      → ((i : ℕ) (k : KindTerm) → slice_get ks i ≡ Some k → HasKind (plain_names G) g.kinds (choice (a + i)) k)
      → HaveKinds G g (map choice (range_with_len a (length ks))) ks
  choice-kinds g choice a [] h = refl
  choice-kinds g choice a (k ∷ ks) h = (
    (let e : a + 0 ≡ a = omega arith in subst (λ j. HasKind (plain_names G) g.kinds (choice j) k) e (h 0 k refl)),
    choice-kinds g choice (a + 1) ks (λ i j p. let e : a + suc i ≡ a + 1 + i = omega arith in
        subst (λ m. HasKind (plain_names G) g.kinds (choice m) j) e (h (suc i) j p)),
  )

  pub slice_get-range : (choice : TypeAssignment) (a m i : ℕ) → i < m
      → slice_get (map choice (range_with_len a m)) i ≡ Some (choice (a + i))
  slice_get-range choice a zero i l = absurd (omega (arith, l))
  slice_get-range choice a (suc m) zero l = let e : a + 0 ≡ a = omega arith in ap (λ j. Some (choice j)) (sym e)
  slice_get-range choice a (suc m) (suc i) l = let e : a + 1 + i ≡ a + suc i = omega arith in
      slice_get-range choice (a + 1) m i (omega (arith, l)) ∙ ap (λ j. Some (choice j)) e

  -- a constructor's declared type is the function from its fields
  type-is : (d : Declared) (c : Constructor) → Tells G d → HasConstructor G d.name c
      → type_term d.ty ≡ functions c.fields c.result
  type-is d c T h = same_Some (type_term d.ty) (functions c.fields c.result) (sym T.has ∙ ap type_in h)

  fields_in : Option NameMeaning → ℕ
  fields_in None = 0
  fields_in (Some (type_name k)) = 0
  fields_in (Some (synonym_name k s)) = 0
  fields_in (Some (value_name t)) = 0
  fields_in (Some (constructor_name c)) = count c.fields

  pub shape-fields : (n : OrigName) (o : Option ℕ) (k : ℕ) (c : Constructor) → HasShape G n o → o ≡ Some k
      → HasConstructor G n c → count c.fields ≡ k
  unfolding fields_in
  shape-fields n o k c s e h =
      let a = subst (λ z. HasShape G n z) e s in ap fields_in (sym h ∙ a.1) ∙ a.2

  shape-con : (n : OrigName) (o : Option ℕ) (k : ℕ) → HasShape G n o → o ≡ Some k
      → (c : Constructor) × HasConstructor G n c × (count c.fields ≡ k)
  shape-con n o k s e = subst (λ z. HasShape G n z) e s

  -- the kinds of a scheme of the declared type are the least ones
  scheme-kinds : (d : Declared) → Tells G d → (c : TypeScheme) → IsDeclared (plain_names G) (type_term d.ty) c → (i : ℕ)
      → occurs_in i (type_term d.ty) ≡ true → c.kinds i ≡ kind_at (kinds_of_declared d) i
  scheme-kinds d T c h i o = Below-both (c.kinds i) (kind_at (kinds_of_declared d) i)
      (h.kinds.least (kind_at (kinds_of_declared d)) T.least.fit i o) (T.least.least c.kinds h.kinds.fit i o)

  pub chosen-kinds : (d : Declared) → Tells G d → (g : Guess) (c : TypeScheme) (t : TypeTerm)
      → IsDeclared (plain_names G) (type_term d.ty) c
      → (b : IsInstance (plain_names G) g.kinds c t) → (i : ℕ) (k : KindTerm)
      → slice_get (kinds_of_declared d) i ≡ Some k → HasKind (plain_names G) g.kinds (b.choice (0 + i)) k
  chosen-kinds d T g c t h b i k e =
      let ks = kinds_of_declared d in
      let o = (T.variables i).1 (slice_get_within ks i k e) in
      let z : 0 + i ≡ i = omega arith in
      subst (λ j. HasKind (plain_names G) g.kinds (b.choice j) k) (sym z)
      (subst (λ j. HasKind (plain_names G) g.kinds (b.choice i) j)
      (scheme-kinds d T c h i o ∙ same_Some (kind_at ks i) k (sym (kind_at-some ks i (slice_get_within ks i k e)) ∙ e))
      (b.kinded i (subst (λ y. occurs_in i y ≡ true) (sym h.body) o) (h.generic i)))

  module _ (state : State) (d : Declared) (T : Tells G d) (ps : List Pat) (f : d.fields ≡ Some (length ps)) (v : ℕ)
      (s : slice_get state.kinds v ≡ Some star) where
    abbrev ks : List KindTerm
    ks = kinds_of_declared d

    abbrev own : Plain
    own = instance ks (length state.kinds) d.ty

    abbrev parts : List ℕ
    parts = con_parts state d (length ps)

    abbrev wanted : Plain
    wanted = plain_functions (unknowns parts) (var v)

    abbrev row : Demand
    row = bind_each G ps parts

    abbrev stars : List KindTerm
    stars = replicate (length ps) star

    abbrev outer : State
    outer = with_unknowns state ks

    abbrev inner : State
    inner = con_state state d (length ps)

    wanted-value : (g : Guess) → value g.types wanted ≡ functions (map g.types parts) (g.types v)
    wanted-value g = value-functions g.types (unknowns parts) (var v)
        ∙ ap (λ ts. functions ts (g.types v)) (value-unknowns g.types parts)

    con_gives : (g : Guess) (xs : List Bound) → Meets G g inner → both (equal own wanted) row g xs
        → binds G (PCon d.name ps) v g xs
    con_gives g xs m t =
        let q = behind_equal own wanted row g xs t in
        let c = shape-con d.name d.fields (length ps) T.shape f in
        let is = type-is d c.0 T c.1 in
        let outside = meets-without G state ks g (meets-without G outer stars g m) in (
          proper G state g v outside s,
          c.0,
          c.1,
          map g.types parts,
          record {
            scheme = record { generic = λ w. true; kinds = kind_at ks; body = type_term d.ty };
            declared = record {
              generic = λ w. refl;
              kinds = subst (λ z. AreLeast (plain_names G) z (kind_at ks)) is T.least;
              body = is;
            };
            many = count-length (map g.types parts)
                ∙ have-length G g (map g.types parts) stars (each-stars G g ps (map g.types parts) xs q.1)
                ∙ length-replicate (length ps) star ∙ sym c.2;
            built = record {
              choice = λ i. g.types (length state.kinds + i);
              fixed = λ w e. absurd (true≢false e);
              kinded = λ w o e. m.kinded (length state.kinds + w) (kind_at ks w)
                  (slice_get-front (state.kinds ++ ks) stars (length state.kinds + w) (kind_at ks w)
                  (slice_get-behind state.kinds ks w ∙ kind_at-some ks w ((T.variables w).0 o)));
              gives = sym (instance-value g.types ks (length state.kinds) d.ty) ∙ q.0 ∙ wanted-value g;
            };
          },
          (bind_all-each G g.kinds ps (map g.types parts) xs).1 q.1,
        )

    con_takes : (g : Guess) (xs : List Bound) → Meets G g state → binds G (PCon d.name ps) v g xs
        → some G state.kinds ks (some G outer.kinds stars (both (equal own wanted) row)) g xs
    con_takes g xs m t =
        let each = (bind_all-each G g.kinds ps t.3 xs).0 t.5 in
        let have = each-stars G g ps t.3 xs each in
        let many : length t.3 ≡ length ps = have-length G g t.3 stars have ∙ length-replicate (length ps) star in
        let declared = subst (λ z. IsDeclared (plain_names G) z t.4.scheme) (sym (type-is d t.1 T t.2)) t.4.declared in
        let choice = t.4.built.choice in
        let us = map choice (range_with_len 0 (length ks)) in
        let middle = with_types state.kinds us g in
        let h = with_types outer.kinds t.3 middle in
        let below : length (state.kinds ++ ks) ≡ length state.kinds + length ks = length-append state.kinds ks in
        let at : (w : ℕ) → occurs_in w (type_term d.ty) ≡ true → h.types (length state.kinds + w) ≡ choice w =
        (λ w o. let l = (T.variables w).0 o in
        sym (spliced-front outer.kinds t.3 middle.types (length state.kinds + w) (omega (arith, below, l)))
        ∙ same_Some _ _ (sym (spliced-some state.kinds us g.types w
        (let n = length-map (range_with_len 0 (length ks)) choice ∙ length-range 0 (length ks) in omega (arith, n, l)))
        ∙ slice_get-range choice 0 (length ks) w l)
        ∙ ap choice (zero-plus w)) in
        let read : map h.types parts ≡ t.3 =
        ap (λ n. map h.types (range_with_len (length outer.kinds) n)) (sym many)
        ∙ unknowns_read outer.kinds t.3 middle.types in
        let keeps : h.types v ≡ g.types v =
        let l = slice_get_within state.kinds v star s in
        sym (spliced-front outer.kinds t.3 middle.types v (omega (arith, below, l)))
        ∙ sym (spliced-front state.kinds us g.types v l) in (
          us,
          choice-kinds g choice 0 ks (λ i k e. chosen-kinds d T g t.4.scheme _ declared t.4.built i k e),
          (
            t.3,
            have,
            before_rest own wanted row h xs
                (instance-value h.types ks (length state.kinds) d.ty
                ∙ agreeing (λ i. h.types (length state.kinds + i)) choice (type_term d.ty) at
                ∙ ap (applied choice) (sym declared.body) ∙ t.4.built.gives
                ∙ sym (wanted-value h ∙ ap₂ functions read keeps))
                (subst (λ z. BindEach G any g.kinds ps z xs) (sym read) each),
          ),
        )

    row-local : IsLocal (length inner.kinds) row
    row-local = bind_each-local G inner.kinds ps parts (new_stars outer.kinds (length ps))

    pub con_imposes : (middle new : State) (bs : List Binder) → IsReady G state → Equated G inner middle own wanted
        → Imposes G row row bs middle new
        → Imposes G (binds G (PCon d.name ps) v) (binds G (PCon d.name ps) v) bs state new
    con_imposes middle new bs r e h =
        imposed_so G (binds G (PCon d.name ps) v) (binds G (PCon d.name ps) v)
        (some G state.kinds ks (some G outer.kinds stars (both (equal own wanted) row)))
        (binds G (PCon d.name ps) v) bs state new (λ g xs m t. t) con_takes
        (imposed_unknowns G (binds G (PCon d.name ps) v)
        (some G outer.kinds stars (both (equal own wanted) row)) bs state new ks r
        (imposed_unknowns G (binds G (PCon d.name ps) v) (both (equal own wanted) row) bs outer new stars
        (ready-with G state ks r)
        (imposed_so G (both (equal own wanted) row) (binds G (PCon d.name ps) v) (both (equal own wanted) row)
        (both (equal own wanted) row) bs inner new con_gives (λ g xs m t. t)
        (imposed_both G (equal own wanted) (equal own wanted) row row [] bs inner middle new row-local
        (imposed_equation G inner middle own wanted e) h))))

    pub con_none : IsReady G state → HasNone G (both (equal own wanted) row) inner
        → HasNone G (binds G (PCon d.name ps) v) state
    con_none r n =
        none_so G (some G state.kinds ks (some G outer.kinds stars (both (equal own wanted) row)))
        (binds G (PCon d.name ps) v) state con_takes
        (none_some G (some G outer.kinds stars (both (equal own wanted) row)) state ks r
        (none_some G (both (equal own wanted) row) outer stars (ready-with G state ks r) n))

    pub con_not_equal : IsReady G state → NotEqual G inner own wanted → HasNone G (binds G (PCon d.name ps) v) state
    con_not_equal r n = con_none r (none_first G (equal own wanted) row inner (none_equal G inner own wanted n))

    pub con_parts_none : (middle : State) → IsReady G state → Equated G inner middle own wanted → HasNone G row middle
        → HasNone G (binds G (PCon d.name ps) v) state
    con_parts_none middle r e n = con_none r
        (none_later G (equal own wanted) (equal own wanted) row [] inner middle row-local
        (imposed_equation G inner middle own wanted e) n)
