-- What is left of each form of expression once its head was entered.
use Rattle.std.proofs.Common.{sym, subst, inl, inr, ℕ, suc, ◌+◌, List, [], ◌∷◌, ◌++◌}
use Rattle.std.specs.Prelude.{length, replicate}
use Rattle.std.specs.List.{range_with_len}
use Rattle.hs_core.specs.declared.tree.Exp.{Exp}
use Rattle.hs_core.specs.declared.tree.Exp.TheVariants.{Apply, Lambda, If, Case, Tuple, List as ListOf, RightSection}
use Rattle.hs_core.specs.declared.tree.Pat.{Pat}
use Rattle.hs_core.specs.declared.tree.Alt.{Alt}
use Rattle.type_terms.specs.Terms.{var}
use Rattle.hs_core.specs.Types.{KindTerm, star}
use Rattle.hs_core.specs.Globals.{Globals}
use Rattle.type_meaning.specs.Meanings.{only, MeantType}
use Rattle.type_equations.specs.States.{State, IsReady, Equated}
use Rattle.type_equations.specs.declared.equations.Binder.{Binder}
use Rattle.type_equations.specs.Demands.{Demand, AllStar, equal, both, with_unknowns}
use Rattle.type_equations.specs.Syntax.{AreStars, KnowsSyntax, plain_boolean, plain_list, plain_tuple, unknowns}
use Rattle.type_equations.proofs.DemandLemmas.{stars-front, slice_get-front}
use Rattle.type_equations.proofs.UnknownLemmas.{new_stars}
use Rattle.infer_patterns.specs.Patterns.{bind_each, TupleEntered, TupleRefused, ListEntered, ListRefused}
use Rattle.infer_patterns.specs.declared.names.Declared.{Declared}
use Rattle.infer_patterns.proofs.PatternLemmas.{bind_each-local}
use Rattle.infer_patterns.proofs.PartsLemmas.{item_stars}
use Rattle.expression_demands.specs.Leaving.{Leaves, under}
use Rattle.expression_demands.specs.Expressions.{has_type, meant_type, have_types, meant_types, have_alternatives}
use Rattle.expression_demands.specs.Expressions.{meant_alternatives, EachMeantAlternative}
use Rattle.expression_demands.proofs.FormLemmas.{meant-local}
use Rattle.expression_demands.proofs.RowLemmas.{application_gives, application_takes, tuple_gives, tuple_takes}
use Rattle.expression_demands.proofs.RowLemmas.{tuple_count_none}
use Rattle.expression_demands.proofs.IfLemmas.{if_gives, if_takes}
use Rattle.expression_demands.proofs.LambdaLemmas.{has_under, meant_under, lambda_gives, lambda_takes, list_gives}
use Rattle.expression_demands.proofs.LambdaLemmas.{list_takes, section_has, section_meant, section_gives, section_takes}
use Rattle.expression_demands.proofs.CaseLemmas.{case_gives, case_takes}
use Rattle.expression_demands.proofs.LeaveLemmas.{both-local, under-local, all_left, left_so, left_unknowns, head_left}
use Rattle.expression_demands.proofs.LeaveLemmas.{left_equal, left_unequal}
use Rattle.expression_demands.proofs.FormLemmas.{form_none}
use Rattle.expression_demands.proofs.LocalLemmas.{local-two, local-under, meant_types-local, operands-local}
use Rattle.infer_expressions.specs.Inferred.{ExpRefused}
use Rattle.infer_expressions.specs.Entered.{Leads, function_kinds, function_parts, function_to}
use Rattle.infer_expressions.specs.Entered.{ApplicationEntered, ApplicationRefused, FunctionEntered, FunctionRefused}
use Rattle.infer_expressions.specs.Entered.{TestEntered, TestRefused, section_kinds, section_type, operator_type}
use Rattle.infer_expressions.specs.Entered.{SectionEntered, SectionRefused}
use Rattle.infer_expressions.proofs.LeadLemmas.{AsksOnly, head_leads, head_none}

-- demands for all names

abbrev pub exp_has : Exp → List Binder → ℕ → Globals → Demand
exp_has e env v = λ G. has_type G e env v

abbrev pub exp_meant : Exp → List Binder → ℕ → Globals → Demand
exp_meant e env v = λ G. meant_type G e env v

abbrev pub exps_have : List Exp → List Binder → List ℕ → Globals → Demand
exps_have es env vs = λ G. have_types G es env vs

abbrev pub exps_meant : List Exp → List Binder → List ℕ → Globals → Demand
exps_meant es env vs = λ G. meant_types G es env vs

abbrev pub alts_have : List Alt → List Binder → ℕ → ℕ → Globals → Demand
alts_have alts env u v = λ G. have_alternatives G alts env u v

abbrev pub alts_meant : List Alt → List Binder → ℕ → ℕ → Globals → Demand
alts_meant alts env u v = λ G. meant_alternatives G alts env u v

abbrev pub and_then : (Globals → Demand) → (Globals → Demand) → Globals → Demand
and_then a b = λ G. both (a G) (b G)

-- ---- what is asked of parts speaks of their unknowns

pub exp_asks : (e : Exp) (env : List Binder) (v : ℕ) → AsksOnly (exp_meant e env v) env (v ∷ [])
exp_asks e env v G ks o s = meant-local G ks e env v o s.0

pub exps_ask : (es : List Exp) (env : List Binder) (vs : List ℕ) → AsksOnly (exps_meant es env vs) env vs
exps_ask es env vs G ks o s = meant_types-local G ks es env vs o s

pub alts_ask : (alts : List Alt) (env : List Binder) (u v : ℕ) → AsksOnly (alts_meant alts env u v) env (u ∷ v ∷ [])
alts_ask alts env u v G ks o s =
    local-two ks env u v (λ k n w t. EachMeantAlternative G k alts n w t) o s.0 s.1.0

pub pair_asks : (a b : Globals → Demand) (env : List Binder) (left first rest : List ℕ) → AsksOnly a env first
    → AsksOnly b env rest
    → ((ks : List KindTerm) → AreStars ks left → AreStars ks first × AreStars ks rest)
    → AsksOnly (and_then a b) env left
pair_asks a b env left first rest p q pick G ks o s =
    let w = pick ks s in both-local (length ks) (a G) (b G) (p G ks o w.0) (q G ks o w.1)

module _ (names : List Declared) (env : List Binder) (v : ℕ) where
  -- ---- applications

  application_asks : (f : Exp) (es : List Exp) (w : ℕ) (is : List ℕ)
      → AsksOnly (and_then (exp_meant f env w) (exps_meant es env is)) env (w ∷ is)
  application_asks f es w is = pair_asks (exp_meant f env w) (exps_meant es env is) env (w ∷ is) (w ∷ []) is
      (exp_asks f env w) (exps_ask es env is) (λ ks s. ((s.0, tt), s.1))

  pub application_leads : (old new : State) (f : Exp) (es : List Exp) → ApplicationEntered old new v (length es)
      → Leads names env (v ∷ []) (exp_has (Apply f es) env v) (exp_meant (Apply f es) env v)
      (and_then (exp_has f env (length old.kinds)) (exps_have es env (function_parts old (length es))))
      (and_then (exp_meant f env (length old.kinds)) (exps_meant es env (function_parts old (length es)))) env
      (length old.kinds ∷ function_parts old (length es)) old new
  application_leads old new f es h =
      let w = length old.kinds in
      let is = function_parts old (length es) in
      head_leads names env v (exp_has (Apply f es) env v) (exp_meant (Apply f es) env v)
      (and_then (exp_has f env w) (exps_have es env is)) (and_then (exp_meant f env w) (exps_meant es env is)) old new
      (function_kinds (length es)) (var w) (function_to old (length es) v) (w ∷ is)
      (λ G s. new_stars old.kinds (suc (length es))) (application_asks f es w is)
      (λ G s g xs m t. application_gives G old f es env v w is s g xs m t)
      (λ G K o s g xs m t. application_takes G old f es env v o s g xs m t) h

  pub application_none : (old : State) (f : Exp) (es : List Exp) → ApplicationRefused old v (length es)
      → ExpRefused names env old (Apply f es) v
  application_none old f es h =
      let w = length old.kinds in
      let is = function_parts old (length es) in
      head_none names env v (exp_has (Apply f es) env v) (exp_meant (Apply f es) env v)
      (and_then (exp_meant f env w) (exps_meant es env is)) old (function_kinds (length es)) (var w)
      (function_to old (length es) v) (λ G K o s g xs m t. application_takes G old f es env v o s g xs m t) h

  -- ---- lambdas

  lambda_asks : (ps : List Pat) (e : Exp) (w : ℕ) (is : List ℕ)
      → AsksOnly (λ G. under (bind_each G ps is) (meant_under G e env w)) env (w ∷ is)
  lambda_asks ps e w is G ks o s = under-local (length ks) (bind_each G ps is) (meant_under G e env w)
      (bind_each-local G ks ps is s.1)
      (local-under ks env w (λ k n t. MeantType G k e (only n []) t) o s.0)

  pub lambda_leads : (old new : State) (ps : List Pat) (e : Exp) → FunctionEntered old new v (length ps)
      → Leads names env (v ∷ []) (exp_has (Lambda ps e) env v) (exp_meant (Lambda ps e) env v)
      (λ G. under (bind_each G ps (function_parts old (length ps))) (has_under G e env (length old.kinds)))
      (λ G. under (bind_each G ps (function_parts old (length ps))) (meant_under G e env (length old.kinds))) env
      (length old.kinds ∷ function_parts old (length ps)) old new
  lambda_leads old new ps e h =
      let w = length old.kinds in
      let is = function_parts old (length ps) in
      head_leads names env v (exp_has (Lambda ps e) env v) (exp_meant (Lambda ps e) env v)
      (λ G. under (bind_each G ps is) (has_under G e env w)) (λ G. under (bind_each G ps is) (meant_under G e env w))
      old new (function_kinds (length ps)) (var v) (function_to old (length ps) w) (w ∷ is)
      (λ G s. new_stars old.kinds (suc (length ps))) (lambda_asks ps e w is)
      (λ G s g xs m t. lambda_gives G old ps e env v w is s g xs m t)
      (λ G K o s g xs m t. lambda_takes G old ps e env v o s g xs m t) h

  pub lambda_none : (old : State) (ps : List Pat) (e : Exp) → FunctionRefused old v (length ps)
      → ExpRefused names env old (Lambda ps e) v
  lambda_none old ps e h =
      let w = length old.kinds in
      let is = function_parts old (length ps) in
      head_none names env v (exp_has (Lambda ps e) env v) (exp_meant (Lambda ps e) env v)
      (λ G. under (bind_each G ps is) (meant_under G e env w)) old (function_kinds (length ps)) (var v)
      (function_to old (length ps) w) (λ G K o s g xs m t. lambda_takes G old ps e env v o s g xs m t) h

  -- ---- conditionals

  pub if_leads : (old new : State) (a b c : Exp) → TestEntered old new
      → Leads names env (v ∷ []) (exp_has (If a b c) env v) (exp_meant (If a b c) env v)
      (and_then (exp_has a env (length old.kinds)) (and_then (exp_has b env v) (exp_has c env v)))
      (and_then (exp_meant a env (length old.kinds)) (and_then (exp_meant b env v) (exp_meant c env v))) env
      (length old.kinds ∷ v ∷ []) old new
  if_leads old new a b c h =
      let w = length old.kinds in
      head_leads names env v (exp_has (If a b c) env v) (exp_meant (If a b c) env v)
      (and_then (exp_has a env w) (and_then (exp_has b env v) (exp_has c env v)))
      (and_then (exp_meant a env w) (and_then (exp_meant b env v) (exp_meant c env v))) old new (star ∷ []) (var w)
      plain_boolean (w ∷ v ∷ []) (λ G s. (
        (new_stars old.kinds 1).0,
        (slice_get-front old.kinds (star ∷ []) v star s, tt),
      ))
      (pair_asks (exp_meant a env w) (and_then (exp_meant b env v) (exp_meant c env v)) env (w ∷ v ∷ []) (w ∷ [])
      (v ∷ []) (exp_asks a env w)
      (pair_asks (exp_meant b env v) (exp_meant c env v) env (v ∷ []) (v ∷ []) (v ∷ []) (exp_asks b env v)
      (exp_asks c env v) (λ ks s. (s, s))) (λ ks s. ((s.0, tt), s.1)))
      (λ G s g xs m t. if_gives G a b c env v old s g xs m t)
      (λ G K o s g xs m t. if_takes G a b c env v old s o g xs m t) (λ G K r s. h G K r)

  pub if_none : (old : State) (a b c : Exp) → TestRefused old → ExpRefused names env old (If a b c) v
  if_none old a b c h =
      let w = length old.kinds in
      head_none names env v (exp_has (If a b c) env v) (exp_meant (If a b c) env v)
      (and_then (exp_meant a env w) (and_then (exp_meant b env v) (exp_meant c env v))) old (star ∷ []) (var w)
      plain_boolean (λ G K o s g xs m t. if_takes G a b c env v old s o g xs m t) (λ G K r s. h G K r)

  -- ---- tuples and lists

  pub tuple_leads : (old new : State) (es : List Exp) → TupleEntered old new v (length es)
      → Leads names env (v ∷ []) (exp_has (Tuple es) env v) (exp_meant (Tuple es) env v)
      (exps_have es env (range_with_len (length old.kinds) (length es)))
      (exps_meant es env (range_with_len (length old.kinds) (length es))) env
      (range_with_len (length old.kinds) (length es)) old new
  tuple_leads old new es h =
      let is = range_with_len (length old.kinds) (length es) in
      head_leads names env v (exp_has (Tuple es) env v) (exp_meant (Tuple es) env v) (exps_have es env is)
      (exps_meant es env is) old new (replicate (length es) star) (var v) (plain_tuple (unknowns is)) is
      (λ G s. new_stars old.kinds (length es)) (exps_ask es env is)
      (λ G s g xs m t. tuple_gives G old es env v is s g xs m t)
      (λ G K o s g xs m t. tuple_takes G old es env v o s g xs m t) (λ G K r s. h G K r s.0)

  pub tuple_none : (old : State) (es : List Exp) → TupleRefused old v (length es)
      → ExpRefused names env old (Tuple es) v
  tuple_none old es h G K r o s =
      let is = range_with_len (length old.kinds) (length es) in
      elim (h G K.syntax r s.0) [
        | inl n ↦ tuple_count_none G K.syntax old es env v n
        | inr n ↦ form_none G (meant_type G (Tuple es) env v) (meant_types G es env is) (var v)
            (plain_tuple (unknowns is)) old (replicate (length es) star) r
            (λ g xs m t. tuple_takes G old es env v o s.0 g xs m t) n
      ]

  pub list_leads : (old new : State) (es : List Exp) → ListEntered old new v
      → Leads names env (v ∷ []) (exp_has (ListOf es) env v) (exp_meant (ListOf es) env v)
      (exps_have es env (replicate (length es) (length old.kinds)))
      (exps_meant es env (replicate (length es) (length old.kinds))) env
      (replicate (length es) (length old.kinds)) old new
  list_leads old new es h =
      let w = length old.kinds in
      let is = replicate (length es) w in
      head_leads names env v (exp_has (ListOf es) env v) (exp_meant (ListOf es) env v) (exps_have es env is)
      (exps_meant es env is) old new (star ∷ []) (var v) (plain_list (var w)) is
      (λ G s. item_stars G old (length es)) (exps_ask es env is)
      (λ G s g xs m t. list_gives G old es env v w s g xs m t)
      (λ G K o s g xs m t. list_takes G K old es env v o s g xs m t) (λ G K r s. h G K r s.0)

  pub list_none : (old : State) (es : List Exp) → ListRefused old v → ExpRefused names env old (ListOf es) v
  list_none old es h =
      let w = length old.kinds in
      head_none names env v (exp_has (ListOf es) env v) (exp_meant (ListOf es) env v)
      (exps_meant es env (replicate (length es) w)) old (star ∷ []) (var v) (plain_list (var w))
      (λ G K o s g xs m t. list_takes G K old es env v o s g xs m t) (λ G K r s. h G K r s.0)

  -- ---- case expressions

  pub case_leads : (old : State) (e : Exp) (alts : List Alt)
      → Leads names env (v ∷ []) (exp_has (Case e alts) env v) (exp_meant (Case e alts) env v)
      (and_then (exp_has e env (length old.kinds)) (alts_have alts env (length old.kinds) v))
      (and_then (exp_meant e env (length old.kinds)) (alts_meant alts env (length old.kinds) v)) env
      (length old.kinds ∷ v ∷ []) old (with_unknowns old (star ∷ []))
  case_leads old e alts G K r o s =
      let w = length old.kinds in
      let a = both (has_type G e env w) (have_alternatives G alts env w v) in
      let b = both (meant_type G e env w) (meant_alternatives G alts env w v) in
      let whole = has_type G (Case e alts) env v in
      let meant = meant_type G (Case e alts) env v in (
        left_unknowns G whole meant a b old old (star ∷ [])
            (left_so G whole meant whole meant a _ old old
            (λ g xs m t. case_gives G old e alts env v w s.0 g xs m t)
            (λ g xs m t. case_takes G old e alts env v o s.0 g xs m t) (all_left G whole meant old r)),
        stars-front old.kinds (star ∷ []) env o,
        ((new_stars old.kinds 1).0, (slice_get-front old.kinds (star ∷ []) v star s.0, tt)),
      )

  -- ---- right sections

  abbrev parts_have : Exp → Exp → ℕ → Globals → Demand
  parts_have op e n G = both (has_type G op env (n + 1 + 1 + 1)) (has_type G e env (n + 1))

  abbrev parts_meant : Exp → Exp → ℕ → Globals → Demand
  parts_meant op e n G = both (meant_type G op env (n + 1 + 1 + 1)) (meant_type G e env (n + 1))

  abbrev parts_at : ℕ → List ℕ
  parts_at n = (n + 1 + 1 + 1) ∷ (n + 1) ∷ []

  parts_local : (op e : Exp) (n : ℕ) → AsksOnly (parts_meant op e n) env (parts_at n)
  parts_local op e n = pair_asks (exp_meant op env (n + 1 + 1 + 1)) (exp_meant e env (n + 1)) env (parts_at n)
      ((n + 1 + 1 + 1) ∷ []) ((n + 1) ∷ []) (exp_asks op env (n + 1 + 1 + 1)) (exp_asks e env (n + 1))
      (λ ks s. ((s.0, tt), s.1))

  section_stars : (old : State) → AreStars (old.kinds ++ section_kinds) (parts_at (length old.kinds))
  section_stars old = let s = new_stars old.kinds 4 in (s.1.1.1.0, (s.1.0, tt))

  section_first : (G : Globals) → KnowsSyntax G → (old middle : State) (op e : Exp) → IsReady G old
      → AllStar old.kinds env → AreStars old.kinds (v ∷ [])
      → Equated G (with_unknowns old section_kinds) middle (var v) (section_type old)
      → Leaves G (has_type G (RightSection op e) env v) (meant_type G (RightSection op e) env v)
      (section_has G op e env (length old.kinds) (length old.kinds + 1) (length old.kinds + 1 + 1)
      (length old.kinds + 1 + 1 + 1))
      (section_meant G op e env (length old.kinds) (length old.kinds + 1) (length old.kinds + 1 + 1)
      (length old.kinds + 1 + 1 + 1)) old middle
  section_first G K old middle op e r o s q =
      let n = length old.kinds in
      let ks = old.kinds ++ section_kinds in
      let stars = new_stars old.kinds 4 in
      head_left G (has_type G (RightSection op e) env v) (meant_type G (RightSection op e) env v)
      (section_has G op e env n (n + 1) (n + 1 + 1) (n + 1 + 1 + 1))
      (section_meant G op e env n (n + 1) (n + 1 + 1) (n + 1 + 1 + 1)) (var v) (section_type old) old middle
      section_kinds r
      (both-local (length ks) (equal (var (n + 1 + 1 + 1)) (operator_type old)) (parts_meant op e n G)
      (operands-local ks (n + 1 + 1 + 1) n (n + 1) (n + 1 + 1)
      (stars.1.1.1.0, (stars.0, (stars.1.0, (stars.1.1.0, tt)))))
      (parts_local op e n G ks (stars-front old.kinds section_kinds env o) (section_stars old)))
      (λ g xs m t. section_gives G old op e env v n (n + 1) (n + 1 + 1) (n + 1 + 1 + 1) s.0 g xs m t)
      (λ g xs m t. section_takes G K old op e env v o s.0 g xs m t) q

  pub section_leads : (old new : State) (op e : Exp) → SectionEntered old new v
      → Leads names env (v ∷ []) (exp_has (RightSection op e) env v) (exp_meant (RightSection op e) env v)
      (and_then (exp_has op env (length old.kinds + 1 + 1 + 1)) (exp_has e env (length old.kinds + 1)))
      (and_then (exp_meant op env (length old.kinds + 1 + 1 + 1)) (exp_meant e env (length old.kinds + 1))) env
      ((length old.kinds + 1 + 1 + 1) ∷ (length old.kinds + 1) ∷ []) old new
  section_leads old new op e h G K r o s =
      let n = length old.kinds in
      let q = h G K.syntax r s in
      let kinds = q.1.same in
      let at_middle = subst (λ z. AllStar z env) (sym kinds) (stars-front old.kinds section_kinds env o) in
      let stars_middle = subst (λ z. AreStars z (parts_at n)) (sym kinds) (section_stars old) in (
        left_equal G (has_type G (RightSection op e) env v) (meant_type G (RightSection op e) env v)
            (parts_have op e n G) (parts_meant op e n G) (var (n + 1 + 1 + 1)) (operator_type old) old q.0 new
            (parts_local op e n G q.0.kinds at_middle stars_middle) q.2
            (section_first G K.syntax old q.0 op e r o s q.1),
        subst (λ z. AllStar z env) (sym q.2.same) at_middle,
        subst (λ z. AreStars z (parts_at n)) (sym q.2.same) stars_middle,
      )

  pub section_none : (old : State) (op e : Exp) → SectionRefused old v → ExpRefused names env old (RightSection op e) v
  section_none old op e h G K r o s =
      let n = length old.kinds in
      elim (h G K.syntax r s) [
        | inl q ↦ form_none G (meant_type G (RightSection op e) env v)
            (section_meant G op e env n (n + 1) (n + 1 + 1) (n + 1 + 1 + 1)) (var v) (section_type old) old
            section_kinds r (λ g xs m t. section_takes G K.syntax old op e env v o s.0 g xs m t) q
        | inr q ↦ left_unequal G (has_type G (RightSection op e) env v) (meant_type G (RightSection op e) env v)
            (section_has G op e env n (n + 1) (n + 1 + 1) (n + 1 + 1 + 1)) (parts_meant op e n G) (var (n + 1 + 1 + 1))
            (operator_type old) old q.0 q.2
            (section_first G K.syntax old q.0 op e r o s q.1)
      ]
