-- Clauses of functions (Haskell 2010 Report, section 4.4.3.1).
use Rattle.std.proofs.Common.{◌≡◌, refl, sym, ap, ap₂, subst, ◌∙◌, ℕ, ◌+◌, List, [], ◌∷◌, ◌++◌, map}
use Rattle.std.proofs.lemmas.List.{length-replicate}
use Rattle.std.proofs.lemmas.Option.{slice_get_within}
use Rattle.std.specs.Prelude.{Some, slice_get, length, replicate}
use Rattle.std.specs.List.{range_with_len}
use Rattle.bp_base.specs.Texts.{Text}
use Rattle.hs_core.specs.declared.tree.Pat.{Pat}
use Rattle.hs_core.specs.declared.tree.Rhs.{Rhs, Rhs'}
use Rattle.type_terms.specs.Terms.{var}
use Rattle.hs_core.specs.Types.{star, TypeTerm, any, functions}
use Rattle.hs_core.specs.Schemes.{Bound, monomorphic}
use Rattle.hs_core.specs.Globals.{Globals}
use Rattle.hs_core.specs.Typing.{Kinds, IsProperType, BindEach, IsRightSide}
use Rattle.type_meaning.specs.Meanings.{LocalTypes, only, MeantRightSide}
use Rattle.kind_check.proofs.DeclareLemmas.{head_same, tail_same}
use Rattle.type_equations.specs.States.{State, Guess, Meets}
use Rattle.type_equations.specs.declared.equations.Binder.{Binder}
use Rattle.type_equations.specs.Demands.{typed_names, AllStar, equal, both, with_types, some}
use Rattle.type_equations.specs.Syntax.{plain_functions, unknowns}
use Rattle.type_equations.proofs.SyntaxLemmas.{value-functions, value-unknowns}
use Rattle.type_equations.proofs.DemandLemmas.{agree-with, typed_names-agree}
use Rattle.type_equations.proofs.UnknownLemmas.{have-length, unknowns_read}
use Rattle.infer_patterns.specs.Patterns.{bind_each}
use Rattle.infer_patterns.proofs.PatternLemmas.{each-stars}
use Rattle.infer_patterns.proofs.PartsLemmas.{behind_equal, before_rest}
use Rattle.clause_demands.specs.Clauses.{is_clause, meant_clause}
use Rattle.expression_demands.specs.Leaving.{under}
use Rattle.expression_demands.proofs.CaseLemmas.{right_under, meant_right_under}
use Rattle.expression_demands.proofs.LeaveLemmas.{monomorphic-append, only-append}

-- the type of the first name
first_type : List Bound → TypeTerm
first_type [] = var 0
first_type (b ∷ bs) = b.type

right-proper : (G : Globals) (kinds : Kinds) (r : Rhs) (ls : List LocalTypes) (t : TypeTerm)
    → MeantRightSide G kinds r ls t → IsProperType G any kinds t
right-proper G kinds (Rhs' s cs z ds) ls t h = h.0

module _ (G : Globals) where
  pub clause_gives : (state : State) (x : Text) (ps : List Pat) (r : Rhs) (env : List Binder) (v w : ℕ) (is : List ℕ)
      → slice_get state.kinds v ≡ Some star → (g : Guess) (xs : List Bound) → Meets G g state
      → both (equal (var v) (plain_functions (unknowns is) (var w)))
      (under (bind_each G ps is) (right_under G r env w)) g xs → is_clause G x ps r env v g xs
  clause_gives state x ps r env v w is s g xs m t =
      let q = behind_equal (var v) (plain_functions (unknowns is) (var w))
      (under (bind_each G ps is) (right_under G r env w)) g xs t in
      let bs = q.1.0 in
      let whole : g.types v ≡ functions (map g.types is) (g.types w) =
      q.0 ∙ value-functions g.types (unknowns is) (var w)
      ∙ ap (λ ts. functions ts (g.types w)) (value-unknowns g.types is) in (
        (
          map g.types is,
          g.types w,
          bs,
          ap (λ z. record { name = x; type = z } ∷ []) whole,
          subst (IsProperType G any g.kinds) whole (refl, m.kinded v star s),
          q.1.1,
          subst (λ z. IsRightSide G any r g.kinds z (g.types w)) (monomorphic-append bs (typed_names g env)) q.1.2,
        ),
        q.1.3,
      )

  pub clause_takes : (state : State) (x : Text) (ps : List Pat) (r : Rhs) (env : List Binder) (v : ℕ)
      → AllStar state.kinds env → slice_get state.kinds v ≡ Some star → (g : Guess) (xs : List Bound)
      → meant_clause G x ps r env v g xs
      → some G state.kinds (star ∷ replicate (length ps) star)
      (both (equal (var v)
      (plain_functions (unknowns (range_with_len (length state.kinds + 1) (length ps))) (var (length state.kinds))))
      (under (bind_each G ps (range_with_len (length state.kinds + 1) (length ps)))
      (meant_right_under G r env (length state.kinds)))) g xs
  unfolding first_type
  clause_takes state x ps r env v b s g xs t =
      let w = length state.kinds in
      let is = range_with_len (w + 1) (length ps) in
      let us = t.0.0 in
      let u = t.0.1 in
      let bs = t.0.2 in
      let names = typed_names g env in
      let have = each-stars G g ps us bs t.0.5 in
      let many : length us ≡ length ps =
      have-length G g us (replicate (length ps) star) have ∙ length-replicate (length ps) star in
      let h = with_types state.kinds (u ∷ us) g in
      let all = unknowns_read state.kinds (u ∷ us) g.types in
      let own : h.types w ≡ u = head_same _ _ _ _ all in
      let rest : map h.types is ≡ us =
      ap (λ n. map h.types (range_with_len (w + 1) n)) (sym many) ∙ tail_same _ _ _ _ all in
      let a = agree-with state.kinds (u ∷ us) g in
      let same : names ≡ typed_names h env = typed_names-agree state.kinds env g h b a in
      let whole : g.types v ≡ functions us u = ap first_type t.0.3 in
      let body : MeantRightSide G g.kinds r (only (bs ++ names) []) u =
      subst (λ z. MeantRightSide G g.kinds r z u) (sym (only-append bs names [])) t.0.6 in (
        u ∷ us,
        ((right-proper G g.kinds r (only (bs ++ names) []) u body).1, have),
        before_rest (var v) (plain_functions (unknowns is) (var w))
            (under (bind_each G ps is) (meant_right_under G r env w)) h xs
            (sym (a.types v (slice_get_within state.kinds v star s)) ∙ whole ∙ ap₂ functions (sym rest) (sym own)
            ∙ sym (value-functions h.types (unknowns is) (var w)
            ∙ ap (λ ts. functions ts (h.types w)) (value-unknowns h.types is))) (
              bs,
              subst (λ z. BindEach G any g.kinds ps z bs) (sym rest) t.0.5,
              subst (λ z. MeantRightSide G g.kinds r (only (bs ++ z) []) (h.types w)) same
                  (subst (λ z. MeantRightSide G g.kinds r (only (bs ++ names) []) z) (sym own) body),
              t.1,
            ),
      )
