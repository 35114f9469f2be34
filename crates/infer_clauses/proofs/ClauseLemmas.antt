-- A clause from its patterns and its right side.
use Rattle.std.proofs.Common.{◌≡◌, sym, ap, ap₂, subst, ◌∙◌, ℕ, suc, ◌+◌, List, [], ◌∷◌, ◌++◌, map}
use Rattle.std.proofs.lemmas.List.{length-map}
use Rattle.std.specs.Prelude.{length}
use Rattle.std.specs.List.{range_with_len}
use Rattle.bp_base.specs.Texts.{Text}
use Rattle.hs_core.specs.declared.tree.Pat.{Pat}
use Rattle.hs_core.specs.declared.tree.Rhs.{Rhs}
use Rattle.type_terms.specs.Terms.{var}
use Rattle.hs_core.specs.Types.{kind_term, any}
use Rattle.hs_core.specs.Schemes.{monomorphic}
use Rattle.hs_core.specs.Globals.{Globals}
use Rattle.hs_core.specs.Typing.{IsRightSide}
use Rattle.type_meaning.specs.Meanings.{only, MeantRightSide}
use Rattle.type_equations.specs.States.{State, state_of}
use Rattle.type_equations.specs.declared.equations.Binder.{Binder}
use Rattle.type_equations.specs.declared.equations.Equations.{Equations}
use Rattle.type_equations.specs.Demands.{Demand}
use Rattle.type_equations.proofs.UnknownLemmas.{new_stars}
use Rattle.infer_patterns.specs.Patterns.{bind_each, PatternsInferred, PatternsRefused}
use Rattle.infer_patterns.specs.declared.names.Declared.{Declared}
use Rattle.infer_patterns.proofs.PatternLemmas.{bind_each-local}
use Rattle.expression_demands.specs.Leaving.{under}
use Rattle.expression_demands.specs.Expressions.{is_right_side, meant_right_side}
use Rattle.expression_demands.proofs.CaseLemmas.{right_under, meant_right_under}
use Rattle.expression_demands.proofs.LeaveLemmas.{names-append, under-local}
use Rattle.expression_demands.proofs.LocalLemmas.{local-under}
use Rattle.clause_demands.specs.Clauses.{is_clause, meant_clause}
use Rattle.clause_demands.proofs.ClauseLemmas.{clause_gives, clause_takes}
use Rattle.infer_expressions.specs.Inferred.{SideInferred, SideRefused}
use Rattle.infer_expressions.specs.Entered.{Leads, function_kinds, function_parts, function_to, FunctionEntered}
use Rattle.infer_expressions.specs.Entered.{FunctionRefused}
use Rattle.infer_expressions.proofs.LeadLemmas.{AsksOnly, head_leads, head_none, leads_end, leads_none, leads_under}
use Rattle.infer_expressions.proofs.LeadLemmas.{leads_under_none}
use Rattle.infer_clauses.specs.Inferred.{ClauseInferred, ClauseRefused}

module _ (names : List Declared) (env : List Binder) (ps : List Pat) (r : Rhs) (v : ℕ) (x : Text) where
  abbrev has : Globals → Demand
  has = λ G. is_clause G x ps r env v

  abbrev meant : Globals → Demand
  meant = λ G. meant_clause G x ps r env v

  abbrev behind_have : ℕ → List ℕ → Globals → Demand
  behind_have w is = λ G. under (bind_each G ps is) (right_under G r env w)

  abbrev behind_meant : ℕ → List ℕ → Globals → Demand
  behind_meant w is = λ G. under (bind_each G ps is) (meant_right_under G r env w)

  clause_asks : (w : ℕ) (is : List ℕ) → AsksOnly (behind_meant w is) env (w ∷ is)
  clause_asks w is G ks o s = under-local (length ks) (bind_each G ps is) (meant_right_under G r env w)
      (bind_each-local G ks ps is s.1) (local-under ks env w (λ k n t. MeantRightSide G k r (only n []) t) o s.0)

  pub clause_head : (old middle : State) → FunctionEntered old middle v (length ps)
      → Leads names env (v ∷ []) has meant (behind_have (length old.kinds) (function_parts old (length ps)))
      (behind_meant (length old.kinds) (function_parts old (length ps))) env
      (length old.kinds ∷ function_parts old (length ps)) old middle
  clause_head old middle h =
      let w = length old.kinds in
      let is = function_parts old (length ps) in
      head_leads names env v has meant (behind_have w is) (behind_meant w is) old middle (function_kinds (length ps))
      (var v) (function_to old (length ps) w) (w ∷ is) (λ G s. new_stars old.kinds (suc (length ps))) (clause_asks w is)
      (λ G s g xs m t. clause_gives G old x ps r env v w is s g xs m t)
      (λ G K o s g xs m t. clause_takes G old x ps r env v o s g xs t) h

pub clause_function_err : (names : List Declared) (env : List Binder) (old : State) (ps : List Pat) (r : Rhs) (v m : ℕ)
    → m ≡ length ps → FunctionRefused old v m → ClauseRefused names env old ps r v
clause_function_err names env old ps r v m many h x =
    let w = length old.kinds in
    let is = function_parts old (length ps) in
    head_none names env v (λ G. is_clause G x ps r env v) (λ G. meant_clause G x ps r env v)
    (λ G. under (bind_each G ps is) (meant_right_under G r env w)) old (function_kinds (length ps)) (var v)
    (function_to old (length ps) w) (λ G K o s g xs q t. clause_takes G old x ps r env v o s g xs t)
    (subst (λ k. FunctionRefused old v k) many h)

module _ (names : List Declared) (env : List Binder) (old : Equations) (middle : State) (ps : List Pat) (r : Rhs)
    (v m own : ℕ) (parts slice : List ℕ) (own_is : own ≡ length old.kinds.items)
    (parts_are : parts ≡ range_with_len (length old.kinds.items + 1) m) (slice_is : slice ≡ parts)
    (many : m ≡ length ps)
    (h : FunctionEntered (state_of old) middle v m) where
  abbrev w : ℕ
  w = length (map kind_term old.kinds.items)

  abbrev ids : List ℕ
  ids = function_parts (state_of old) (length ps)

  known : length old.kinds.items ≡ w
  known = sym (length-map old.kinds.items kind_term)

  slice_are : slice ≡ ids
  slice_are = slice_is ∙ parts_are ∙ ap₂ (λ a k. range_with_len (a + 1) k) known many

  entered : FunctionEntered (state_of old) middle v (length ps)
  entered = subst (λ k. FunctionEntered (state_of old) middle v k) many h

  side_leads : (x : Text) (start pushed scope : List Binder) (next : State) → start ≡ [] → scope ≡ pushed ++ env
      → PatternsInferred names start pushed middle next ps slice
      → Leads names env (v ∷ []) (λ G. is_clause G x ps r env v) (λ G. meant_clause G x ps r env v)
      (λ G. is_right_side G r scope w) (λ G. meant_right_side G r scope w) scope (w ∷ []) (state_of old) next
  side_leads x start pushed scope next e a rows =
      leads_under names env (v ∷ []) (λ G. is_clause G x ps r env v) (λ G. meant_clause G x ps r env v)
      (λ G. bind_each G ps ids) (λ G. bind_each G ps ids) (λ G. right_under G r env w)
      (λ G. meant_right_under G r env w) (λ G z. is_right_side G r z w) (λ G z. meant_right_side G r z w) env scope
      (w ∷ ids) (w ∷ []) (state_of old) middle next
      (λ G ks o s. (local-under ks env w (λ k n t. MeantRightSide G k r (only n []) t) o s.0, (s.0, tt)))
      (λ G binders g xs t.
      (subst (λ z. IsRightSide G any r g.kinds (monomorphic z) (g.types w)) (names-append g binders env) t.0, t.1))
      (λ G binders g xs t.
      (subst (λ z. MeantRightSide G g.kinds r (only z []) (g.types w)) (sym (names-append g binders env)) t.0, t.1))
      (clause_head names env ps r v x (state_of old) middle entered)
      (λ G K q o s. let p = subst (λ z. PatternsInferred names start pushed middle next ps z) slice_are rows G K q s.1
      in
      (p.binders, a ∙ ap (λ z. z ++ env) (p.pushed ∙ ap (λ z. z ++ p.binders) e), p.imposes))

  pub clause_patterns_err : PatternsRefused names middle ps slice → ClauseRefused names env (state_of old) ps r v
  clause_patterns_err rows x =
      leads_under_none names env (v ∷ []) (λ G. is_clause G x ps r env v) (λ G. meant_clause G x ps r env v)
      (λ G. bind_each G ps ids) (λ G. bind_each G ps ids) (λ G. right_under G r env w)
      (λ G. meant_right_under G r env w) env (w ∷ ids) (state_of old) middle
      (clause_head names env ps r v x (state_of old) middle entered)
      (λ G K q o s. subst (λ z. PatternsRefused names middle ps z) slice_are rows G K q s.1)

  pub clause_ok : (start pushed scope seen : List Binder) (next new : State) → start ≡ [] → scope ≡ pushed ++ env
      → seen ≡ scope → PatternsInferred names start pushed middle next ps slice
      → SideInferred names seen next new r own → ClauseInferred names env (state_of old) new ps r v
  clause_ok start pushed scope seen next new e a q rows i x =
      leads_end names env (v ∷ []) (λ G. is_clause G x ps r env v) (λ G. meant_clause G x ps r env v)
      (λ G. is_right_side G r scope w) (λ G. meant_right_side G r scope w) scope (w ∷ []) (state_of old) next new
      (side_leads x start pushed scope next e a rows)
      (subst (λ z. SideInferred names z next new r w) q
      (subst (λ z. SideInferred names seen next new r z) (own_is ∙ known) i))

  pub clause_side_err : (start pushed scope seen : List Binder) (next : State) → start ≡ [] → scope ≡ pushed ++ env
      → seen ≡ scope → PatternsInferred names start pushed middle next ps slice
      → SideRefused names seen next r own → ClauseRefused names env (state_of old) ps r v
  clause_side_err start pushed scope seen next e a q rows n x =
      leads_none names env (v ∷ []) (λ G. is_clause G x ps r env v) (λ G. meant_clause G x ps r env v)
      (λ G. is_right_side G r scope w) (λ G. meant_right_side G r scope w) scope (w ∷ []) (state_of old) next
      (side_leads x start pushed scope next e a rows)
      (subst (λ z. SideRefused names z next r w) q
      (subst (λ z. SideRefused names seen next r z) (own_is ∙ known) n))
