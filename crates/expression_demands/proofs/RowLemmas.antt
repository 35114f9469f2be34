-- Expressions in a row, and tuples.
use Rattle.std.proofs.Common.{◌≡◌, refl, sym, ap, ap₂, subst, ◌∙◌, ℕ, ◌+◌, ◌≤◌, List, [], ◌∷◌, ◌++◌, map}
use Rattle.std.proofs.lemmas.List.{length-replicate}
use Rattle.std.proofs.lemmas.Option.{slice_get_within}
use Rattle.std.specs.Prelude.{Some, slice_get, length, replicate, ◌≢◌}
use Rattle.std.specs.List.{range_with_len}
use denote.Hole.Carrier.{hidden}
use Rattle.bp_base.specs.Specials.{special_name}
use Rattle.bp_base.specs.declared.special.Special.TheVariants as s
use Rattle.bp_base.specs.declared.ty.Space.TheVariants.{Types}
use Rattle.hs_core.specs.declared.tree.Exp.{Exp}
use Rattle.hs_core.specs.declared.tree.Exp.TheVariants.{Apply, Tuple, Local, Global, Int, Chr, Str, Apply', Lambda'}
use Rattle.hs_core.specs.declared.tree.Exp.TheVariants.{Let', If'}
use Rattle.hs_core.specs.declared.tree.Exp.TheVariants.{Case', Tuple', List' as ListOf', RightSection', Annot'}
use Rattle.hs_core.specs.declared.tree.Decl.TheBlock.{end_of-Exp, more_of-Exp, hidden-the_row-Exp-0}
use Rattle.hs_core.specs.declared.tree.Decl.TheBlock.{hidden-the_row-Exp-1}
use Rattle.type_terms.specs.Terms.{var}
use Rattle.hs_core.specs.Types.{star, arrows, TypeTerm, any, functions, tuple_of, special_type, count}
use Rattle.hs_core.specs.Kinds.{HasKind}
use Rattle.hs_core.specs.Schemes.{Assumption, Bound, monomorphic}
use Rattle.hs_core.specs.Globals.{Globals, plain_names}
use Rattle.hs_core.specs.Typing.{Kinds, IsProperType, HasType, HaveTypes}
use Rattle.type_meaning.specs.Meanings.{LocalTypes, only, MeantType, MeantTypes}
use Rattle.type_equations.specs.States.{State, Guess, Meets, IsReady, Equated}
use Rattle.type_equations.specs.declared.equations.Binder.{Binder}
use Rattle.type_equations.specs.Demands.{typed_names, AllStar, Imposes, HasNone, IsLocal, equal, both}
use Rattle.type_equations.specs.Demands.{HaveKinds, with_types, some, with_unknowns}
use Rattle.kind_check.proofs.DeclareLemmas.{head_same, tail_same}
use Rattle.kind_check.proofs.ScopeLemmas.{count-length}
use Rattle.type_equations.specs.Syntax.{KnowsSyntax, plain_functions, plain_tuple, unknowns}
use Rattle.type_equations.proofs.SyntaxLemmas.{value-functions, value-tuple, value-unknowns}
use Rattle.type_equations.proofs.DemandLemmas.{imposed_both, imposed_so, none_first, none_later, none_so}
use Rattle.type_equations.proofs.DemandLemmas.{agree-with, typed_names-agree}
use Rattle.type_equations.proofs.UnknownLemmas.{have-length, unknowns_read, applied-kind}
use Rattle.infer_patterns.proofs.PartsLemmas.{behind_equal, before_rest}
use Rattle.expression_demands.proofs.FormLemmas.{form_imposes}
use Rattle.expression_demands.specs.Expressions.{has_type, meant_type, EachHasType, EachIsMeant, have_types}
use Rattle.expression_demands.specs.Expressions.{meant_types}

-- an expression's type is a proper one
pub meant-proper : (G : Globals) (kinds : Kinds) (e : Exp) (ls : List LocalTypes) (t : TypeTerm)
    → MeantType G kinds e ls t → IsProperType G any kinds t
meant-proper G kinds (Local x) ls t h = h.0
meant-proper G kinds (Global n) ls t h = h.0
meant-proper G kinds (Int n) ls t h = h.0
meant-proper G kinds (Chr c) ls t h = h.0
meant-proper G kinds (Str cs) ls t h = h.0
meant-proper G kinds (Apply' s (more_of-Exp f end_of-Exp) z es) ls t h = h.0
meant-proper G kinds (Lambda' ps s (more_of-Exp e end_of-Exp)) ls t h = h.0
meant-proper G kinds (Let' s ds z (more_of-Exp e end_of-Exp)) ls t h = h.0
meant-proper G kinds (If' s (more_of-Exp a end_of-Exp) y (more_of-Exp b end_of-Exp) z
    (more_of-Exp c end_of-Exp)) ls t h =
    h.0
meant-proper G kinds (Case' s (more_of-Exp e end_of-Exp) z alts) ls t h = h.0
meant-proper G kinds (Tuple' s es) ls t h = h.0
meant-proper G kinds (ListOf' s es) ls t h = h.0
meant-proper G kinds (RightSection' s (more_of-Exp op end_of-Exp) z (more_of-Exp a end_of-Exp)) ls t h = h.0
meant-proper G kinds (Annot' s (more_of-Exp e end_of-Exp) w) ls t h = h.0

-- as many types of kind `*` as expressions
pub each-stars : (G : Globals) (g : Guess) (es : List Exp) (ls : List LocalTypes) (ts : List TypeTerm)
    → EachIsMeant G g.kinds es ls ts → HaveKinds G g ts (replicate (length es) star)
each-stars G g [] ls ts h = subst (λ z. HaveKinds G g z []) (sym h) refl
each-stars G g (e ∷ es) ls ts h = subst (λ z. HaveKinds G g z (star ∷ replicate (length es) star)) (sym h.2)
    ((meant-proper G g.kinds e ls h.0 h.3).1, each-stars G g es ls h.1 h.4)

-- the list of a node's parts and their row
pub have-each : (G : Globals) (kinds : Kinds) (es : List Exp) (env : List Assumption) (ts : List TypeTerm)
    → EachHasType G kinds es env ts → HaveTypes G any (hidden-the_row-Exp-1 es) kinds env ts
unfolding hidden-the_row-Exp-1 hidden
have-each G kinds [] env ts h = h
have-each G kinds (e ∷ es) env ts h = (h.0, h.1, h.2, h.3, have-each G kinds es env h.1 h.4)

pub meant-each : (G : Globals) (kinds : Kinds) (es : List Exp) (ls : List LocalTypes) (ts : List TypeTerm)
    → MeantTypes G kinds (hidden-the_row-Exp-1 es) ls ts → EachIsMeant G kinds es ls ts
unfolding hidden-the_row-Exp-1 hidden
meant-each G kinds [] ls ts h = h
meant-each G kinds (e ∷ es) ls ts h = (h.0, h.1, h.2, h.3, meant-each G kinds es ls h.1 h.4)

module _ (G : Globals) where
  -- one more expression in front of a row
  pub next_gives : (e : Exp) (es : List Exp) (env : List Binder) (v : ℕ) (vs : List ℕ) (g : Guess) (xs : List Bound)
      → both (has_type G e env v) (have_types G es env vs) g xs → have_types G (e ∷ es) env (v ∷ vs) g xs
  next_gives e es env v vs g xs t =
      ((g.types v, map g.types vs, refl, t.2.0, t.3.0), t.4 ∙ ap₂ (λ a b. a ++ b) t.2.1 t.3.1)

  pub next_takes : (e : Exp) (es : List Exp) (env : List Binder) (v : ℕ) (vs : List ℕ) (g : Guess) (xs : List Bound)
      → meant_types G (e ∷ es) env (v ∷ vs) g xs → both (meant_type G e env v) (meant_types G es env vs) g xs
  next_takes e es env v vs g xs t = (
    [],
    [],
    (subst (λ z. MeantType G g.kinds e (only (typed_names g env) []) z) (sym (head_same _ _ _ _ t.0.2)) t.0.3, refl),
    (subst (λ z. EachIsMeant G g.kinds es (only (typed_names g env) []) z) (sym (tail_same _ _ _ _ t.0.2)) t.0.4, refl),
    t.1,
  )

  pub row_imposes : (e : Exp) (es : List Exp) (env : List Binder) (v : ℕ) (vs : List ℕ) (old middle new : State)
      → IsLocal (length old.kinds) (meant_types G es env vs)
      → Imposes G (has_type G e env v) (meant_type G e env v) [] old middle
      → Imposes G (have_types G es env vs) (meant_types G es env vs) [] middle new
      → Imposes G (have_types G (e ∷ es) env (v ∷ vs)) (meant_types G (e ∷ es) env (v ∷ vs)) [] old new
  row_imposes e es env v vs old middle new l p q =
      imposed_so G (both (has_type G e env v) (have_types G es env vs)) (have_types G (e ∷ es) env (v ∷ vs))
      (both (meant_type G e env v) (meant_types G es env vs)) (meant_types G (e ∷ es) env (v ∷ vs)) [] old new
      (λ g xs m t. next_gives e es env v vs g xs t) (λ g xs m t. next_takes e es env v vs g xs t)
      (imposed_both G (has_type G e env v) (meant_type G e env v) (have_types G es env vs)
      (meant_types G es env vs) [] []
      old middle new l p q)

  pub row_first_none : (e : Exp) (es : List Exp) (env : List Binder) (v : ℕ) (vs : List ℕ) (old : State)
      → HasNone G (meant_type G e env v) old → HasNone G (meant_types G (e ∷ es) env (v ∷ vs)) old
  row_first_none e es env v vs old n =
      none_so G (both (meant_type G e env v) (meant_types G es env vs)) (meant_types G (e ∷ es) env (v ∷ vs)) old
      (λ g xs m t. next_takes e es env v vs g xs t)
      (none_first G (meant_type G e env v) (meant_types G es env vs) old n)

  pub row_later_none : (e : Exp) (es : List Exp) (env : List Binder) (v : ℕ) (vs : List ℕ) (old middle : State)
      → IsLocal (length old.kinds) (meant_types G es env vs)
      → Imposes G (has_type G e env v) (meant_type G e env v) [] old middle
      → HasNone G (meant_types G es env vs) middle → HasNone G (meant_types G (e ∷ es) env (v ∷ vs)) old
  row_later_none e es env v vs old middle l p n =
      none_so G (both (meant_type G e env v) (meant_types G es env vs)) (meant_types G (e ∷ es) env (v ∷ vs)) old
      (λ g xs m t. next_takes e es env v vs g xs t)
      (none_later G (has_type G e env v) (meant_type G e env v) (meant_types G es env vs) [] old middle l p n)

  -- a tuple promises its type where its parts have theirs
  pub tuple_gives : (state : State) (es : List Exp) (env : List Binder) (v : ℕ) (is : List ℕ)
      → slice_get state.kinds v ≡ Some star → (g : Guess) (xs : List Bound) → Meets G g state
      → both (equal (var v) (plain_tuple (unknowns is))) (have_types G es env is) g xs
      → has_type G (Tuple es) env v g xs
  tuple_gives state es env v is s g xs m t =
      let q = behind_equal (var v) (plain_tuple (unknowns is)) (have_types G es env is) g xs t in (
        (
          (refl, m.kinded v star s),
          map g.types is,
          q.0 ∙ value-tuple g.types (unknowns is) ∙ ap tuple_of (value-unknowns g.types is),
          have-each G g.kinds es (monomorphic (typed_names g env)) (map g.types is) q.1.0,
        ),
        q.1.1,
      )

  -- an application promises its type where its function takes its arguments' types to it
  pub application_gives : (state : State) (f : Exp) (es : List Exp) (env : List Binder) (v w : ℕ) (is : List ℕ)
      → slice_get state.kinds v ≡ Some star → (g : Guess) (xs : List Bound) → Meets G g state
      → both (equal (var w) (plain_functions (unknowns is) (var v)))
      (both (has_type G f env w) (have_types G es env is)) g xs
      → has_type G (Apply f es) env v g xs
  unfolding hidden-the_row-Exp-0 hidden
  application_gives state f es env v w is s g xs m t =
      let q = behind_equal (var w) (plain_functions (unknowns is) (var v))
      (both (has_type G f env w) (have_types G es env is)) g xs t in (
        (
          (refl, m.kinded v star s),
          map g.types is,
          subst (λ z. HasType G any f g.kinds (monomorphic (typed_names g env)) z)
              (q.0 ∙ value-functions g.types (unknowns is) (var v)
              ∙ ap (λ ts. functions ts (g.types v)) (value-unknowns g.types is)) q.1.2.0,
          have-each G g.kinds es (monomorphic (typed_names g env)) (map g.types is) q.1.3.0,
        ),
        q.1.4 ∙ ap₂ (λ a b. a ++ b) q.1.2.1 q.1.3.1,
      )

  -- a typing of an application gives types for new unknowns: its function's, and its arguments'
  pub application_takes : (state : State) (f : Exp) (es : List Exp) (env : List Binder) (v : ℕ)
      → AllStar state.kinds env → slice_get state.kinds v ≡ Some star
      → (g : Guess) (xs : List Bound) → Meets G g state → meant_type G (Apply f es) env v g xs
      → some G state.kinds (star ∷ replicate (length es) star)
      (both (equal (var (length state.kinds))
      (plain_functions (unknowns (range_with_len (length state.kinds + 1) (length es))) (var v)))
      (both (meant_type G f env (length state.kinds))
      (meant_types G es env (range_with_len (length state.kinds + 1) (length es))))) g xs
  unfolding hidden-the_row-Exp-0 hidden
  application_takes state f es env v b s g xs m t =
      let w = length state.kinds in
      let is = range_with_len (w + 1) (length es) in
      let us = t.0.1 in
      let whole = functions us (g.types v) in
      let ls = only (typed_names g env) [] in
      let each = meant-each G g.kinds es ls us t.0.3 in
      let have = each-stars G g es ls us each in
      let many : length us ≡ length es =
      have-length G g us (replicate (length es) star) have ∙ length-replicate (length es) star in
      let h = with_types state.kinds (whole ∷ us) g in
      let all = unknowns_read state.kinds (whole ∷ us) g.types in
      let own : h.types w ≡ whole = head_same _ _ _ _ all in
      let rest : map h.types is ≡ us =
      ap (λ n. map h.types (range_with_len (w + 1) n)) (sym many) ∙ tail_same _ _ _ _ all in
      let a = agree-with state.kinds (whole ∷ us) g in
      let names : typed_names g env ≡ typed_names h env = typed_names-agree state.kinds env g h b a in (
        whole ∷ us,
        ((meant-proper G g.kinds f ls whole t.0.2).1, have),
        before_rest (var w) (plain_functions (unknowns is) (var v))
            (both (meant_type G f env w) (meant_types G es env is)) h xs
            (own ∙ ap₂ functions (sym rest) (a.types v (slice_get_within state.kinds v star s))
            ∙ sym (value-functions h.types (unknowns is) (var v)
            ∙ ap (λ ts. functions ts (h.types v)) (value-unknowns h.types is))) (
              [],
              [],
              (
                subst (λ z. MeantType G g.kinds f (only z []) (h.types w)) names
                    (subst (λ z. MeantType G g.kinds f ls z) (sym own) t.0.2),
                refl,
              ),
              (
                subst (λ z. EachIsMeant G g.kinds es (only z []) (map h.types is)) names
                    (subst (λ z. EachIsMeant G g.kinds es ls z) (sym rest) each),
                refl,
              ),
              t.1,
            ),
      )

  -- an application, from its function at a new unknown and its arguments at others
  pub application_imposes : (state middle new : State) (f : Exp) (es : List Exp) (env : List Binder) (v : ℕ)
      → IsReady G state → AllStar state.kinds env → slice_get state.kinds v ≡ Some star
      → IsLocal (length (state.kinds ++ star ∷ replicate (length es) star))
      (both (meant_type G f env (length state.kinds))
      (meant_types G es env (range_with_len (length state.kinds + 1) (length es))))
      → Equated G (with_unknowns state (star ∷ replicate (length es) star)) middle (var (length state.kinds))
      (plain_functions (unknowns (range_with_len (length state.kinds + 1) (length es))) (var v))
      → Imposes G
      (both (has_type G f env (length state.kinds))
      (have_types G es env (range_with_len (length state.kinds + 1) (length es))))
      (both (meant_type G f env (length state.kinds))
      (meant_types G es env (range_with_len (length state.kinds + 1) (length es)))) [] middle new
      → Imposes G (has_type G (Apply f es) env v) (meant_type G (Apply f es) env v) [] state new
  application_imposes state middle new f es env v r b s l e p =
      let is = range_with_len (length state.kinds + 1) (length es) in
      form_imposes G (has_type G (Apply f es) env v) (meant_type G (Apply f es) env v)
      (both (has_type G f env (length state.kinds)) (have_types G es env is))
      (both (meant_type G f env (length state.kinds)) (meant_types G es env is)) (var (length state.kinds))
      (plain_functions (unknowns is) (var v)) [] state middle new (star ∷ replicate (length es) star) r l
      (λ g xs m t. application_gives state f es env v (length state.kinds) is s g xs m t)
      (λ g xs m t. application_takes state f es env v b s g xs m t) e p

  -- a typing of a tuple gives types for new unknowns of its parts
  pub tuple_takes : (state : State) (es : List Exp) (env : List Binder) (v : ℕ) → AllStar state.kinds env
      → slice_get state.kinds v ≡ Some star → (g : Guess) (xs : List Bound) → Meets G g state
      → meant_type G (Tuple es) env v g xs
      → some G state.kinds (replicate (length es) star)
      (both (equal (var v) (plain_tuple (unknowns (range_with_len (length state.kinds) (length es)))))
      (meant_types G es env (range_with_len (length state.kinds) (length es)))) g xs
  tuple_takes state es env v b s g xs m t =
      let is = range_with_len (length state.kinds) (length es) in
      let us = t.0.1 in
      let ls = only (typed_names g env) [] in
      let each = meant-each G g.kinds es ls us t.0.3 in
      let have = each-stars G g es ls us each in
      let many : length us ≡ length es =
      have-length G g us (replicate (length es) star) have ∙ length-replicate (length es) star in
      let h = with_types state.kinds us g in
      let read : map h.types is ≡ us = ap (λ n. map h.types (range_with_len (length state.kinds) n)) (sym many)
      ∙ unknowns_read state.kinds us g.types in
      let a = agree-with state.kinds us g in
      let names : typed_names g env ≡ typed_names h env = typed_names-agree state.kinds env g h b a in (
        us,
        have,
        before_rest (var v) (plain_tuple (unknowns is)) (meant_types G es env is) h xs
            (sym (a.types v (slice_get_within state.kinds v star s)) ∙ t.0.2
            ∙ ap tuple_of (sym read ∙ sym (value-unknowns h.types is)) ∙ sym (value-tuple h.types (unknowns is))) (
              subst (λ z. EachIsMeant G g.kinds es (only z []) (map h.types is)) names
                  (subst (λ z. EachIsMeant G g.kinds es ls z) (sym read) each),
              t.1,
            ),
      )

  pub tuple_imposes : (state middle new : State) (es : List Exp) (env : List Binder) (v : ℕ) → IsReady G state
      → AllStar state.kinds env → slice_get state.kinds v ≡ Some star
      → IsLocal (length (state.kinds ++ replicate (length es) star))
      (meant_types G es env (range_with_len (length state.kinds) (length es)))
      → Equated G (with_unknowns state (replicate (length es) star)) middle (var v)
      (plain_tuple (unknowns (range_with_len (length state.kinds) (length es))))
      → Imposes G (have_types G es env (range_with_len (length state.kinds) (length es)))
      (meant_types G es env (range_with_len (length state.kinds) (length es))) [] middle new
      → Imposes G (has_type G (Tuple es) env v) (meant_type G (Tuple es) env v) [] state new
  tuple_imposes state middle new es env v r b s l e p =
      let is = range_with_len (length state.kinds) (length es) in
      form_imposes G (has_type G (Tuple es) env v) (meant_type G (Tuple es) env v) (have_types G es env is)
      (meant_types G es env is) (var v) (plain_tuple (unknowns is)) [] state middle new (replicate (length es) star) r l
      (λ g xs m t. tuple_gives state es env v is s g xs m t) (λ g xs m t. tuple_takes state es env v b s g xs m t) e p

  -- there are no tuples of one part, nor of more than 15
  pub tuple_count_none : KnowsSyntax G → (state : State) (es : List Exp) (env : List Binder) (v : ℕ)
      → ((length es ≤ 15) × (length es ≢ 1) → ⊥) → HasNone G (meant_type G (Tuple es) env v) state
  tuple_count_none K state es env v n g xs m t =
      let us = t.0.1 in
      let ls = only (typed_names g env) [] in
      let have = each-stars G g es ls us (meant-each G g.kinds es ls us t.0.3) in
      let many : length us ≡ length es =
      have-length G g us (replicate (length es) star) have ∙ length-replicate (length es) star in
      n (subst (λ k. (k ≤ 15) × (k ≢ 1)) (count-length us ∙ many)
      ((K.tuple (count us)).0
      (subst (λ k. plain_names G (special_name Types (s.Tuple (count us))) (arrows (replicate k star) star))
      (sym (count-length us))
      (applied-kind G g us (special_type (s.Tuple (count us)))
      (subst (λ k. HaveKinds G g us (replicate k star)) (sym many) have)
      (subst (λ z. HasKind (plain_names G) g.kinds z star) t.0.2 t.0.0.1)))))
