-- Expressions, alternatives and choices in a row, one after another.
use Rattle.std.proofs.Common.{◌≡◌, refl, subst, inl, inr, ℕ, zero, suc, ◌+◌, ◌<◌, ◌≤◌, List, [], ◌∷◌, drop, get_or}
use Rattle.std.proofs.Common.{arith}
use Rattle.std.proofs.lemmas.List.{drop_more, drop_all}
use Rattle.std.specs.Prelude.{length}
use Rattle.hs_core.specs.declared.tree.Exp.{Exp}
use Rattle.hs_core.specs.declared.tree.Alt.{Alt}
use Rattle.hs_core.specs.declared.tree.Choice.{Choice}
use Rattle.hs_core.specs.declared.tree.Guard.{Guard}
use Rattle.hs_core.specs.Globals.{Globals}
use Rattle.type_equations.specs.States.{State}
use Rattle.type_equations.specs.declared.equations.Binder.{Binder}
use Rattle.type_equations.specs.Demands.{Demand, nothing}
use Rattle.type_equations.proofs.DemandLemmas.{imposed_nothing, imposed_so}
use Rattle.infer_patterns.specs.declared.names.Declared.{Declared}
use Rattle.expression_demands.specs.Expressions.{has_guarded, meant_guarded, have_choices, meant_choices}
use Rattle.expression_demands.specs.Expressions.{EachMeantChoice}
use Rattle.expression_demands.specs.Expressions.{is_alternative, meant_alternative, have_types, meant_types}
use Rattle.expression_demands.specs.Expressions.{have_alternatives, meant_alternatives}
use Rattle.expression_demands.proofs.RowLemmas.{next_gives, next_takes}
use Rattle.expression_demands.proofs.CaseLemmas.{alternatives_give, alternatives_take}
use Rattle.expression_demands.proofs.GuardLemmas.{choices_give, choices_take}
use Rattle.expression_demands.proofs.LocalLemmas.{local-one}
use Rattle.infer_expressions.specs.Covered.{IsUncovered, SomeUncovered, SomeAltUncovered, IsAltUncovered}
use Rattle.infer_expressions.specs.Covered.{SomeGuardUncovered, IsGuardUncovered, SomeChoiceUncovered}
use Rattle.infer_expressions.specs.Covered.{IsChoiceUncovered}
use Rattle.infer_expressions.specs.Inferred.{Imposed, ExpInferred, ExpRefused, ExpsInferred, ExpsRefused}
use Rattle.infer_expressions.specs.Inferred.{AltInferred, AltRefused, AltsInferred, AltsRefused, ChoicesInferred}
use Rattle.infer_expressions.specs.Inferred.{ChoicesRefused}
use Rattle.infer_expressions.specs.Entered.{Leads, GuardsInferred, GuardsRefused}
use Rattle.infer_expressions.proofs.LeadLemmas.{AsksOnly, leads_end, leads_none, leads_part, leads_part_none, leads_so}
use Rattle.infer_expressions.proofs.HeadLemmas.{exp_has, exp_meant, exps_have, exps_meant, alts_have, alts_meant}
use Rattle.infer_expressions.proofs.HeadLemmas.{and_then}
use Rattle.infer_expressions.proofs.HeadLemmas.{exps_ask, alts_ask}
use Rattle.infer_expressions.proofs.ScopeLemmas.{leads_all}

-- one of a row is not covered
pub uncovered_at : (es : List Exp) (i : ℕ) (d : Exp) → i < length es → IsUncovered (get_or es i d) → SomeUncovered es
uncovered_at [] i d l h = absurd (omega (arith, l))
uncovered_at (e ∷ es) zero d l h = inl h
uncovered_at (e ∷ es) (suc i) d l h = inr (uncovered_at es i d (omega (arith, l)) h)

pub uncovered_alt_at : (alts : List Alt) (i : ℕ) (d : Alt) → i < length alts → IsAltUncovered (get_or alts i d)
    → SomeAltUncovered alts
uncovered_alt_at [] i d l h = absurd (omega (arith, l))
uncovered_alt_at (a ∷ alts) zero d l h = inl h
uncovered_alt_at (a ∷ alts) (suc i) d l h = inr (uncovered_alt_at alts i d (omega (arith, l)) h)

pub uncovered_guard_at : (guards : List Guard) (i : ℕ) (d : Guard) → i < length guards
    → IsGuardUncovered (get_or guards i d) → SomeGuardUncovered guards
uncovered_guard_at [] i d l h = absurd (omega (arith, l))
uncovered_guard_at (g ∷ guards) zero d l h = inl h
uncovered_guard_at (g ∷ guards) (suc i) d l h = inr (uncovered_guard_at guards i d (omega (arith, l)) h)

pub uncovered_choice_at : (choices : List Choice) (i : ℕ) (d : Choice) → i < length choices
    → IsChoiceUncovered (get_or choices i d) → SomeChoiceUncovered choices
uncovered_choice_at [] i d l h = absurd (omega (arith, l))
uncovered_choice_at (c ∷ choices) zero d l h = inl h
uncovered_choice_at (c ∷ choices) (suc i) d l h = inr (uncovered_choice_at choices i d (omega (arith, l)) h)

-- ---- expressions

-- the expressions from a number on are left
abbrev pub ExpsLeft : List Declared → List Binder → List Exp → List ℕ → ℕ → State → State → Type 0
ExpsLeft names env es vs i old now = Leads names env vs (exps_have es env vs) (exps_meant es env vs)
    (exps_have (drop i es) env (drop i vs)) (exps_meant (drop i es) env (drop i vs)) env (drop i vs) old now

pub exps_start : (names : List Declared) (env : List Binder) (es : List Exp) (vs : List ℕ) (old : State)
    → ExpsLeft names env es vs 0 old old
exps_start names env es vs old = leads_all names env vs (exps_have es env vs) (exps_meant es env vs) old

module _ (names : List Declared) (env : List Binder) (es : List Exp) (vs : List ℕ) (i : ℕ) (d : Exp) (k : ℕ)
    (old now : State) (l : i < length es) (n : length es ≡ length vs) (h : ExpsLeft names env es vs i old now) where
  abbrev e : Exp
  e = get_or es i d

  abbrev v : ℕ
  v = get_or vs i k

  abbrev rest : List Exp
  rest = drop (i + 1) es

  abbrev left : List ℕ
  left = drop (i + 1) vs

  exps_split : Leads names env vs (exps_have es env vs) (exps_meant es env vs)
      (and_then (exp_has e env v) (exps_have rest env left)) (and_then (exp_meant e env v) (exps_meant rest env left))
      env
      (v ∷ left) old now
  exps_split = leads_so names env vs (exps_have es env vs) (exps_meant es env vs) (exps_have (e ∷ rest) env (v ∷ left))
      (exps_meant (e ∷ rest) env (v ∷ left)) (and_then (exp_has e env v) (exps_have rest env left))
      (and_then (exp_meant e env v) (exps_meant rest env left)) env (v ∷ left) old now
      (λ G g xs s m t. next_gives G e rest env v left g xs t) (λ G g xs t. next_takes G e rest env v left g xs t)
      (subst (λ z. Leads names env vs (exps_have es env vs) (exps_meant es env vs) (exps_have (e ∷ rest) env z)
      (exps_meant (e ∷ rest) env z) env z old now) (drop_more vs i k (omega (arith, l, n)))
      (subst (λ z. Leads names env vs (exps_have es env vs) (exps_meant es env vs) (exps_have z env (drop i vs))
      (exps_meant z env (drop i vs)) env (drop i vs) old now) (drop_more es i d l) h))

  pub exps_next : (new : State) → ExpInferred names env now new e v → ExpsLeft names env es vs (i + 1) old new
  exps_next new p = leads_part names env vs (exps_have es env vs) (exps_meant es env vs) (exp_has e env v)
      (exp_meant e env v) (exps_have rest env left) (exps_meant rest env left) env (v ∷ left) (v ∷ []) left old now new
      (λ ks s. ((s.0, tt), s.1)) (exps_ask rest env left) exps_split p

  pub exps_none : ExpRefused names env now e v → ExpsRefused names env old es vs
  exps_none p = leads_part_none names env vs (exps_have es env vs) (exps_meant es env vs) (exp_has e env v)
      (exp_meant e env v) (exps_have rest env left) (exps_meant rest env left) env (v ∷ left) (v ∷ []) left old now
      (λ ks s. ((s.0, tt), s.1)) exps_split p

pub exps_end : (names : List Declared) (env : List Binder) (es : List Exp) (vs : List ℕ) (i : ℕ) (old now : State)
    → length es ≤ i → length es ≡ length vs → ExpsLeft names env es vs i old now
    → ExpsInferred names env old now es vs
exps_end names env es vs i old now l n h =
    leads_end names env vs (exps_have es env vs) (exps_meant es env vs) (exps_have [] env []) (exps_meant [] env [])
    env []
    old now now
    (subst (λ z. Leads names env vs (exps_have es env vs) (exps_meant es env vs) (exps_have [] env z)
    (exps_meant [] env z) env z old now) (drop_all i vs (omega (arith, l, n)))
    (subst (λ z. Leads names env vs (exps_have es env vs) (exps_meant es env vs) (exps_have z env (drop i vs))
    (exps_meant z env (drop i vs)) env (drop i vs) old now) (drop_all i es l) h))
    (λ G K r o s. imposed_so G nothing (have_types G [] env []) nothing (meant_types G [] env []) [] now now
    (λ g xs m t. (refl, t)) (λ g xs m t. t.1) (imposed_nothing G now r))

-- ---- alternatives

abbrev pub AltsLeft : List Declared → List Binder → List Alt → ℕ → ℕ → ℕ → State → State → Type 0
AltsLeft names env alts u v i old now = Leads names env (u ∷ v ∷ []) (alts_have alts env u v) (alts_meant alts env u v)
    (alts_have (drop i alts) env u v) (alts_meant (drop i alts) env u v) env (u ∷ v ∷ []) old now

pub alts_start : (names : List Declared) (env : List Binder) (alts : List Alt) (u v : ℕ) (old : State)
    → AltsLeft names env alts u v 0 old old
alts_start names env alts u v old =
    leads_all names env (u ∷ v ∷ []) (alts_have alts env u v) (alts_meant alts env u v) old

module _ (names : List Declared) (env : List Binder) (alts : List Alt) (u v i : ℕ) (d : Alt)
    (old now : State) (l : i < length alts) (h : AltsLeft names env alts u v i old now) where
  abbrev a : Alt
  a = get_or alts i d

  abbrev others : List Alt
  others = drop (i + 1) alts

  abbrev one_has : Globals → Demand
  one_has = λ G. is_alternative G a env u v

  abbrev one_meant : Globals → Demand
  one_meant = λ G. meant_alternative G a env u v

  alts_split : Leads names env (u ∷ v ∷ []) (alts_have alts env u v) (alts_meant alts env u v)
      (and_then one_has (alts_have others env u v)) (and_then one_meant (alts_meant others env u v)) env (u ∷ v ∷ [])
      old
      now
  alts_split = leads_so names env (u ∷ v ∷ []) (alts_have alts env u v) (alts_meant alts env u v)
      (alts_have (a ∷ others) env u v) (alts_meant (a ∷ others) env u v)
      (and_then one_has (alts_have others env u v)) (and_then one_meant (alts_meant others env u v)) env (u ∷ v ∷ [])
      old
      now (λ G g xs s m t. alternatives_give G a others env u v g xs t)
      (λ G g xs t. alternatives_take G a others env u v g xs t)
      (subst (λ z. Leads names env (u ∷ v ∷ []) (alts_have alts env u v) (alts_meant alts env u v)
      (alts_have z env u v) (alts_meant z env u v) env (u ∷ v ∷ []) old now) (drop_more alts i d l) h)

  pub alts_next : (new : State) → AltInferred names env now new a u v → AltsLeft names env alts u v (i + 1) old new
  alts_next new p = leads_part names env (u ∷ v ∷ []) (alts_have alts env u v) (alts_meant alts env u v) one_has
      one_meant (alts_have others env u v) (alts_meant others env u v) env (u ∷ v ∷ []) (u ∷ v ∷ []) (u ∷ v ∷ []) old
      now
      new (λ ks s. (s, s)) (alts_ask others env u v) alts_split p

  pub alts_none : AltRefused names env now a u v → AltsRefused names env old alts u v
  alts_none p = leads_part_none names env (u ∷ v ∷ []) (alts_have alts env u v) (alts_meant alts env u v) one_has
      one_meant (alts_have others env u v) (alts_meant others env u v) env (u ∷ v ∷ []) (u ∷ v ∷ []) (u ∷ v ∷ []) old
      now
      (λ ks s. (s, s)) alts_split p

pub alts_end : (names : List Declared) (env : List Binder) (alts : List Alt) (u v i : ℕ) (old now : State)
    → length alts ≤ i → AltsLeft names env alts u v i old now → AltsInferred names env old now alts u v
alts_end names env alts u v i old now l h =
    leads_end names env (u ∷ v ∷ []) (alts_have alts env u v) (alts_meant alts env u v) (alts_have [] env u v)
    (alts_meant [] env u v) env (u ∷ v ∷ []) old now now
    (subst (λ z. Leads names env (u ∷ v ∷ []) (alts_have alts env u v) (alts_meant alts env u v)
    (alts_have z env u v) (alts_meant z env u v) env (u ∷ v ∷ []) old now) (drop_all i alts l) h)
    (λ G K r o s. imposed_so G nothing (have_alternatives G [] env u v) nothing (meant_alternatives G [] env u v) [] now
    now (λ g xs m t. (tt, t)) (λ g xs m t. t.1) (imposed_nothing G now r))

-- ---- choices

abbrev pub choices_have : List Choice → List Binder → ℕ → Globals → Demand
choices_have choices env v = λ G. have_choices G choices env v

abbrev pub choices_meant : List Choice → List Binder → ℕ → Globals → Demand
choices_meant choices env v = λ G. meant_choices G choices env v

choices_ask : (choices : List Choice) (env : List Binder) (v : ℕ) → AsksOnly (choices_meant choices env v) env (v ∷ [])
choices_ask choices env v G ks o s = local-one ks env v (λ k n t. EachMeantChoice G k choices n t) o s.0

abbrev pub ChoicesLeft : List Declared → List Binder → List Choice → ℕ → ℕ → State → State → Type 0
ChoicesLeft names env choices v i old now = Leads names env (v ∷ []) (choices_have choices env v)
    (choices_meant choices env v) (choices_have (drop i choices) env v) (choices_meant (drop i choices) env v) env
    (v ∷ [])
    old now

pub choices_start : (names : List Declared) (env : List Binder) (choices : List Choice) (v : ℕ) (old : State)
    → ChoicesLeft names env choices v 0 old old
choices_start names env choices v old =
    leads_all names env (v ∷ []) (choices_have choices env v) (choices_meant choices env v) old

module _ (names : List Declared) (env : List Binder) (choices : List Choice) (v i : ℕ) (d : Choice)
    (old now : State) (l : i < length choices) (h : ChoicesLeft names env choices v i old now) where
  abbrev c : Choice
  c = get_or choices i d

  abbrev behind : List Choice
  behind = drop (i + 1) choices

  abbrev this_has : Globals → Demand
  this_has = λ G. has_guarded G c.guards c.exp env v

  abbrev this_meant : Globals → Demand
  this_meant = λ G. meant_guarded G c.guards c.exp env v

  choices_split : Leads names env (v ∷ []) (choices_have choices env v) (choices_meant choices env v)
      (and_then this_has (choices_have behind env v)) (and_then this_meant (choices_meant behind env v)) env (v ∷ [])
      old
      now
  choices_split = leads_so names env (v ∷ []) (choices_have choices env v) (choices_meant choices env v)
      (choices_have (c ∷ behind) env v) (choices_meant (c ∷ behind) env v)
      (and_then this_has (choices_have behind env v)) (and_then this_meant (choices_meant behind env v)) env (v ∷ [])
      old
      now (λ G g xs s m t. choices_give G c behind env v g xs t) (λ G g xs t. choices_take G c behind env v g xs t)
      (subst (λ z. Leads names env (v ∷ []) (choices_have choices env v) (choices_meant choices env v)
      (choices_have z env v) (choices_meant z env v) env (v ∷ []) old now) (drop_more choices i d l) h)

  -- an expression behind guards
  guarded_done : (scope : List Binder) (mid new : State) → GuardsInferred names env scope now mid c.guards
      → ExpInferred names scope mid new c.exp v → Imposed names env (v ∷ []) this_has this_meant now new
  guarded_done scope mid new p q = leads_end names env (v ∷ []) this_has this_meant (exp_has c.exp scope v)
      (exp_meant c.exp scope v) scope (v ∷ []) now mid new (p c.exp v) q

  pub choices_next : (scope slice : List Binder) (guards : List Guard) (exp : Exp) (mid new : State) → slice ≡ scope
      → guards ≡ c.guards → exp ≡ c.exp → GuardsInferred names env scope now mid guards
      → ExpInferred names slice mid new exp v → ChoicesLeft names env choices v (i + 1) old new
  choices_next scope slice guards exp mid new e f g p q =
      leads_part names env (v ∷ []) (choices_have choices env v) (choices_meant choices env v) this_has this_meant
      (choices_have behind env v) (choices_meant behind env v) env (v ∷ []) (v ∷ []) (v ∷ []) old now new
      (λ ks s. (s, s))
      (choices_ask behind env v) choices_split
      (guarded_done scope mid new (subst (GuardsInferred names env scope now mid) f p)
      (subst (λ z. ExpInferred names scope mid new z v) g (subst (λ z. ExpInferred names z mid new exp v) e q)))

  pub choices_guards_none : (guards : List Guard) → guards ≡ c.guards → GuardsRefused names env now guards
      → ChoicesRefused names env old choices v
  choices_guards_none guards f p =
      leads_part_none names env (v ∷ []) (choices_have choices env v) (choices_meant choices env v) this_has this_meant
      (choices_have behind env v) (choices_meant behind env v) env (v ∷ []) (v ∷ []) (v ∷ []) old now (λ ks s. (s, s))
      choices_split (subst (GuardsRefused names env now) f p c.exp v)

  pub choices_exp_none : (scope slice : List Binder) (guards : List Guard) (exp : Exp) (mid : State) → slice ≡ scope
      → guards ≡ c.guards → exp ≡ c.exp → GuardsInferred names env scope now mid guards
      → ExpRefused names slice mid exp v → ChoicesRefused names env old choices v
  choices_exp_none scope slice guards exp mid e f g p n =
      leads_part_none names env (v ∷ []) (choices_have choices env v) (choices_meant choices env v) this_has this_meant
      (choices_have behind env v) (choices_meant behind env v) env (v ∷ []) (v ∷ []) (v ∷ []) old now (λ ks s. (s, s))
      choices_split
      (leads_none names env (v ∷ []) this_has this_meant (exp_has c.exp scope v) (exp_meant c.exp scope v) scope
      (v ∷ [])
      now mid (subst (GuardsInferred names env scope now mid) f p c.exp v)
      (subst (λ z. ExpRefused names scope mid z v) g (subst (λ z. ExpRefused names z mid exp v) e n)))

pub choices_end : (names : List Declared) (env : List Binder) (choices : List Choice) (v i : ℕ) (old now : State)
    → length choices ≤ i → ChoicesLeft names env choices v i old now → ChoicesInferred names env old now choices v
choices_end names env choices v i old now l h =
    leads_end names env (v ∷ []) (choices_have choices env v) (choices_meant choices env v) (choices_have [] env v)
    (choices_meant [] env v) env (v ∷ []) old now now
    (subst (λ z. Leads names env (v ∷ []) (choices_have choices env v) (choices_meant choices env v)
    (choices_have z env v) (choices_meant z env v) env (v ∷ []) old now) (drop_all i choices l) h)
    (λ G K r o s. imposed_so G nothing (have_choices G [] env v) nothing (meant_choices G [] env v) [] now now
    (λ g xs m t. (tt, t)) (λ g xs m t. t.1) (imposed_nothing G now r))
