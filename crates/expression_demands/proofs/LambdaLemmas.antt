-- Lambdas (Haskell 2010 Report, section 3.3), lists (3.7) and right sections (3.5).
use Rattle.std.proofs.Common.{◌≡◌, refl, sym, ap, ap₂, subst, ◌∙◌, ℕ, ◌+◌, List, [], ◌∷◌, ◌++◌, map}
use Rattle.std.proofs.lemmas.List.{length-replicate}
use Rattle.std.proofs.lemmas.Option.{slice_get_within}
use Rattle.std.specs.Prelude.{Some, slice_get, length, replicate}
use Rattle.std.specs.List.{range_with_len}
use denote.Hole.Carrier.{hidden}
use Rattle.bp_base.specs.declared.special.Special.TheVariants as s
use Rattle.hs_core.specs.declared.tree.Exp.{Exp}
use Rattle.hs_core.specs.declared.tree.Exp.TheVariants.{Lambda, List as ListOf, RightSection}
use Rattle.hs_core.specs.declared.tree.Pat.{Pat}
use Rattle.hs_core.specs.declared.tree.Decl.TheBlock.{hidden-the_row-Exp-0}
use Rattle.type_terms.specs.Terms.{var}
use Rattle.hs_core.specs.Types.{KindTerm, star, arrow, TypeTerm, any, function, functions, list_of, special_type}
use Rattle.hs_core.specs.Kinds.{HasKind}
use Rattle.hs_core.specs.Schemes.{Bound, monomorphic}
use Rattle.hs_core.specs.Globals.{Globals, plain_names}
use Rattle.hs_core.specs.Typing.{HasType, BindEach}
use Rattle.type_meaning.specs.Meanings.{only, MeantType}
use Rattle.type_unify.specs.Types.{Plain}
use Rattle.kind_check.proofs.DeclareLemmas.{head_same, tail_same}
use Rattle.type_equations.specs.States.{State, Guess, Meets}
use Rattle.type_equations.specs.declared.equations.Binder.{Binder}
use Rattle.type_equations.specs.Demands.{Demand, typed_names, AllStar, equal, both, with_types, some}
use Rattle.type_equations.specs.Syntax.{KnowsSyntax, plain_function, plain_functions, plain_list, unknowns}
use Rattle.type_equations.proofs.CodedLemmas.{kind_under-is}
use Rattle.type_equations.proofs.SyntaxLemmas.{value-functions, value-unknowns}
use Rattle.type_equations.proofs.DemandLemmas.{agree-with, typed_names-agree}
use Rattle.type_equations.proofs.UnknownLemmas.{have-length, unknowns_read}
use Rattle.infer_patterns.specs.Patterns.{bind_each}
use Rattle.infer_patterns.proofs.PatternLemmas.{each-stars as pattern-stars}
use Rattle.infer_patterns.proofs.PartsLemmas.{behind_equal, before_rest, all_same, same_all, item_read, item_kind}
use Rattle.expression_demands.specs.Expressions.{has_type, meant_type, EachIsMeant, have_types, meant_types}
use Rattle.expression_demands.proofs.RowLemmas.{meant-proper, each-stars, have-each, meant-each}
use Rattle.expression_demands.specs.Leaving.{under}
use Rattle.expression_demands.proofs.LeaveLemmas.{monomorphic-append, only-append}

-- an expression where names stand in front of others
abbrev pub has_under : Globals → Exp → List Binder → ℕ → List Bound → Guess → Type 0
has_under G e env w xs g = HasType G any e g.kinds (monomorphic (xs ++ typed_names g env)) (g.types w)

abbrev pub meant_under : Globals → Exp → List Binder → ℕ → List Bound → Guess → Type 0
meant_under G e env w xs g = MeantType G g.kinds e (only (xs ++ typed_names g env) []) (g.types w)

parameter : KindTerm → KindTerm
parameter star = star
parameter (arrow j k) = j

behind : KindTerm → KindTerm
behind star = star
behind (arrow j k) = k

module _ (G : Globals) where
  -- ---- lambdas

  pub lambda_gives : (state : State) (ps : List Pat) (e : Exp) (env : List Binder) (v w : ℕ) (is : List ℕ)
      → slice_get state.kinds v ≡ Some star → (g : Guess) (xs : List Bound) → Meets G g state
      → both (equal (var v) (plain_functions (unknowns is) (var w)))
      (under (bind_each G ps is) (has_under G e env w)) g xs → has_type G (Lambda ps e) env v g xs
  unfolding hidden-the_row-Exp-0 hidden
  lambda_gives state ps e env v w is s g xs m t =
      let q = behind_equal (var v) (plain_functions (unknowns is) (var w))
      (under (bind_each G ps is) (has_under G e env w)) g xs t in
      let bs = q.1.0 in (
        (
          (refl, m.kinded v star s),
          map g.types is,
          g.types w,
          bs,
          q.0 ∙ value-functions g.types (unknowns is) (var w)
              ∙ ap (λ ts. functions ts (g.types w)) (value-unknowns g.types is),
          q.1.1,
          subst (λ z. HasType G any e g.kinds z (g.types w)) (monomorphic-append bs (typed_names g env)) q.1.2,
        ),
        q.1.3,
      )

  pub lambda_takes : (state : State) (ps : List Pat) (e : Exp) (env : List Binder) (v : ℕ) → AllStar state.kinds env
      → slice_get state.kinds v ≡ Some star → (g : Guess) (xs : List Bound) → Meets G g state
      → meant_type G (Lambda ps e) env v g xs
      → some G state.kinds (star ∷ replicate (length ps) star)
      (both (equal (var v)
      (plain_functions (unknowns (range_with_len (length state.kinds + 1) (length ps))) (var (length state.kinds))))
      (under (bind_each G ps (range_with_len (length state.kinds + 1) (length ps)))
      (meant_under G e env (length state.kinds)))) g xs
  unfolding hidden-the_row-Exp-0 hidden
  lambda_takes state ps e env v b s g xs m t =
      let w = length state.kinds in
      let is = range_with_len (w + 1) (length ps) in
      let us = t.0.1 in
      let u = t.0.2 in
      let bs = t.0.3 in
      let names = typed_names g env in
      let have = pattern-stars G g ps us bs t.0.5 in
      let many : length us ≡ length ps =
      have-length G g us (replicate (length ps) star) have ∙ length-replicate (length ps) star in
      let h = with_types state.kinds (u ∷ us) g in
      let all = unknowns_read state.kinds (u ∷ us) g.types in
      let own : h.types w ≡ u = head_same _ _ _ _ all in
      let rest : map h.types is ≡ us =
      ap (λ n. map h.types (range_with_len (w + 1) n)) (sym many) ∙ tail_same _ _ _ _ all in
      let a = agree-with state.kinds (u ∷ us) g in
      let same : names ≡ typed_names h env = typed_names-agree state.kinds env g h b a in
      let body : MeantType G g.kinds e (only (bs ++ names) []) u =
      subst (λ z. MeantType G g.kinds e z u) (sym (only-append bs names [])) t.0.6 in (
        u ∷ us,
        ((meant-proper G g.kinds e (only (bs ++ names) []) u body).1, have),
        before_rest (var v) (plain_functions (unknowns is) (var w))
            (under (bind_each G ps is) (meant_under G e env w)) h xs
            (sym (a.types v (slice_get_within state.kinds v star s)) ∙ t.0.4 ∙ ap₂ functions (sym rest) (sym own)
            ∙ sym (value-functions h.types (unknowns is) (var w)
            ∙ ap (λ ts. functions ts (h.types w)) (value-unknowns h.types is))) (
              bs,
              subst (λ z. BindEach G any g.kinds ps z bs) (sym rest) t.0.5,
              subst (λ z. MeantType G g.kinds e (only (bs ++ z) []) (h.types w)) same
                  (subst (λ z. MeantType G g.kinds e (only (bs ++ names) []) z) (sym own) body),
              t.1,
            ),
      )

  -- ---- lists

  pub list_gives : (state : State) (es : List Exp) (env : List Binder) (v w : ℕ)
      → slice_get state.kinds v ≡ Some star → (g : Guess) (xs : List Bound) → Meets G g state
      → both (equal (var v) (plain_list (var w))) (have_types G es env (replicate (length es) w)) g xs
      → has_type G (ListOf es) env v g xs
  list_gives state es env v w s g xs m t =
      let is = replicate (length es) w in
      let q = behind_equal (var v) (plain_list (var w)) (have_types G es env is) g xs t in (
        (
          (refl, m.kinded v star s),
          g.types w,
          map g.types is,
          q.0,
          all_same G g.types w (length es),
          have-each G g.kinds es (monomorphic (typed_names g env)) (map g.types is) q.1.0,
        ),
        q.1.1,
      )

  pub list_takes : KnowsSyntax G → (state : State) (es : List Exp) (env : List Binder) (v : ℕ) → AllStar state.kinds env
      → slice_get state.kinds v ≡ Some star → (g : Guess) (xs : List Bound) → Meets G g state
      → meant_type G (ListOf es) env v g xs
      → some G state.kinds (star ∷ []) (both (equal (var v) (plain_list (var (length state.kinds))))
      (meant_types G es env (replicate (length es) (length state.kinds)))) g xs
  list_takes K state es env v b s g xs m t =
      let w = length state.kinds in
      let is = replicate (length es) w in
      let u = t.0.1 in
      let us = t.0.2 in
      let names = typed_names g env in
      let each = meant-each G g.kinds es (only names []) us t.0.5 in
      let many : length us ≡ length es =
      have-length G g us (replicate (length es) star) (each-stars G g es (only names []) us each)
      ∙ length-replicate (length es) star in
      let h = with_types state.kinds (u ∷ []) g in
      let item = item_read G state u g in
      let read : map h.types is ≡ us = ap (λ n. map h.types (replicate n w)) (sym many)
      ∙ same_all G h.types w u us (sym item) t.0.4 in
      let a = agree-with state.kinds (u ∷ []) g in
      let same : names ≡ typed_names h env = typed_names-agree state.kinds env g h b a in (
        u ∷ [],
        (item_kind G K g u (subst (λ z. HasKind (plain_names G) g.kinds z star) t.0.3 t.0.0.1), refl),
        before_rest (var v) (plain_list (var w)) (meant_types G es env is) h xs
            (sym (a.types v (slice_get_within state.kinds v star s)) ∙ t.0.3 ∙ ap list_of (sym item)) (
              subst (λ z. EachIsMeant G g.kinds es (only z []) (map h.types is)) same
                  (subst (λ z. EachIsMeant G g.kinds es (only names []) z) (sym read) each),
              t.1,
            ),
      )

  -- ---- right sections

  -- both sides of a function's type have kind `*`
  function_kinds : KnowsSyntax G → (g : Guess) (t u : TypeTerm)
      → HasKind (plain_names G) g.kinds (function t u) star
      → HasKind (plain_names G) g.kinds t star × HasKind (plain_names G) g.kinds u star
  unfolding parameter behind
  function_kinds K g t u (j, (i, p, q), r) =
      let e : arrow i (arrow j star) ≡ arrow star (arrow star star) =
      sym (kind_under-is G g.kinds (special_type s.Arrow) (arrow i (arrow j star)) p)
      ∙ kind_under-is G g.kinds (special_type s.Arrow) (arrow star (arrow star star)) K.function in (
        subst (λ z. HasKind (plain_names G) g.kinds t z) (ap parameter e) q,
        subst (λ z. HasKind (plain_names G) g.kinds u z) (ap (λ z. parameter (behind z)) e) r,
      )

  -- the operator at an unknown that is a function of the left and the right operand
  abbrev pub operands : ℕ → ℕ → ℕ → Plain
  operands l r u = plain_function (var l) (plain_function (var r) (var u))

  abbrev pub section_has : Exp → Exp → List Binder → ℕ → ℕ → ℕ → ℕ → Demand
  section_has op e env l r u w =
      both (equal (var w) (operands l r u)) (both (has_type G op env w) (has_type G e env r))

  abbrev pub section_meant : Exp → Exp → List Binder → ℕ → ℕ → ℕ → ℕ → Demand
  section_meant op e env l r u w =
      both (equal (var w) (operands l r u)) (both (meant_type G op env w) (meant_type G e env r))

  pub section_gives : (state : State) (op e : Exp) (env : List Binder) (v l r u w : ℕ)
      → slice_get state.kinds v ≡ Some star → (g : Guess) (xs : List Bound) → Meets G g state
      → both (equal (var v) (plain_function (var l) (var u))) (section_has op e env l r u w) g xs
      → has_type G (RightSection op e) env v g xs
  unfolding hidden-the_row-Exp-0 hidden
  section_gives state op e env v l r u w s g xs m t =
      let q = behind_equal (var v) (plain_function (var l) (var u)) (section_has op e env l r u w) g xs t in
      let p = behind_equal (var w) (operands l r u) (both (has_type G op env w) (has_type G e env r)) g xs q.1 in (
        (
          (refl, m.kinded v star s),
          g.types l,
          g.types r,
          g.types u,
          q.0,
          subst (λ z. HasType G any op g.kinds (monomorphic (typed_names g env)) z) p.0 p.1.2.0,
          p.1.3.0,
        ),
        p.1.4 ∙ ap₂ (λ a b. a ++ b) p.1.2.1 p.1.3.1,
      )

  pub section_takes : KnowsSyntax G → (state : State) (op e : Exp) (env : List Binder) (v : ℕ) → AllStar state.kinds env
      → slice_get state.kinds v ≡ Some star → (g : Guess) (xs : List Bound) → Meets G g state
      → meant_type G (RightSection op e) env v g xs
      → some G state.kinds (star ∷ star ∷ star ∷ star ∷ [])
      (both (equal (var v) (plain_function (var (length state.kinds)) (var (length state.kinds + 1 + 1))))
      (section_meant op e env (length state.kinds) (length state.kinds + 1) (length state.kinds + 1 + 1)
      (length state.kinds + 1 + 1 + 1))) g xs
  unfolding hidden-the_row-Exp-0 hidden
  section_takes K state op e env v b s g xs m t =
      let n = length state.kinds in
      let l = t.0.1 in
      let r = t.0.2 in
      let u = t.0.3 in
      let whole = function l (function r u) in
      let us = l ∷ r ∷ u ∷ whole ∷ [] in
      let names = typed_names g env in
      let h = with_types state.kinds us g in
      let all : h.types n ∷ h.types (n + 1) ∷ h.types (n + 1 + 1) ∷ h.types (n + 1 + 1 + 1) ∷ [] ≡ us =
      unknowns_read state.kinds us g.types in
      let one = tail_same _ _ _ _ all in
      let two = tail_same _ _ _ _ one in
      let three = tail_same _ _ _ _ two in
      let at_l : h.types n ≡ l = head_same _ _ _ _ all in
      let at_r : h.types (n + 1) ≡ r = head_same _ _ _ _ one in
      let at_u : h.types (n + 1 + 1) ≡ u = head_same _ _ _ _ two in
      let at_w : h.types (n + 1 + 1 + 1) ≡ whole = head_same _ _ _ _ three in
      let a = agree-with state.kinds us g in
      let same : names ≡ typed_names h env = typed_names-agree state.kinds env g h b a in
      let op_kind = (meant-proper G g.kinds op (only names []) whole t.0.5).1 in
      let outer = function_kinds K g l (function r u) op_kind in
      let inner = function_kinds K g r u outer.1 in (
        us,
        (outer.0, (inner.0, (inner.1, (op_kind, refl)))),
        before_rest (var v) (plain_function (var n) (var (n + 1 + 1)))
            (section_meant op e env n (n + 1) (n + 1 + 1) (n + 1 + 1 + 1)) h xs
            (sym (a.types v (slice_get_within state.kinds v star s)) ∙ t.0.4 ∙ ap₂ function (sym at_l) (sym at_u))
            (before_rest (var (n + 1 + 1 + 1)) (operands n (n + 1) (n + 1 + 1))
            (both (meant_type G op env (n + 1 + 1 + 1)) (meant_type G e env (n + 1))) h xs
            (at_w ∙ ap₂ function (sym at_l) (ap₂ function (sym at_r) (sym at_u))) (
              [],
              [],
              (
                subst (λ z. MeantType G g.kinds op (only z []) (h.types (n + 1 + 1 + 1))) same
                    (subst (λ z. MeantType G g.kinds op (only names []) z) (sym at_w) t.0.5),
                refl,
              ),
              (
                subst (λ z. MeantType G g.kinds e (only z []) (h.types (n + 1))) same
                    (subst (λ z. MeantType G g.kinds e (only names []) z) (sym at_r) t.0.6),
                refl,
              ),
              t.1,
            )),
      )
