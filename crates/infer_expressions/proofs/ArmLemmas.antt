-- The arms of the walk through an expression, in the shape in which the code meets them.
use Rattle.std.proofs.Common.{◌≡◌, refl, sym, ap, ap₂, subst, ◌∙◌, ℕ, ◌+◌, List, [], ◌∷◌, ◌++◌, map}
use Rattle.std.proofs.lemmas.List.{length-map}
use Rattle.std.specs.Prelude.{Result, Ok, Err, IfErr, length, replicate}
use Rattle.std.specs.List.{range_with_len}
use Rattle.hs_core.specs.declared.tree.Exp.{Exp}
use Rattle.hs_core.specs.declared.tree.Exp.TheVariants.{Apply, Lambda, If, Case, Tuple, List as ListOf, RightSection}
use Rattle.hs_core.specs.declared.tree.Exp.TheVariants.{Int, Chr, Str}
use Rattle.hs_core.specs.declared.tree.Pat.{Pat}
use Rattle.hs_core.specs.declared.tree.Alt.{Alt}
use Rattle.hs_core.specs.Types.{star, kind_term, TypeTerm, TypeAssignment, any, integer, character, list_of}
use Rattle.hs_core.specs.Globals.{Globals}
use Rattle.hs_core.specs.Schemes.{Assumption}
use Rattle.hs_core.specs.Typing.{Kinds, IsProperType, HasType}
use Rattle.type_unify.specs.Types.{Plain}
use Rattle.type_meaning.specs.Meanings.{LocalTypes, MeantType}
use Rattle.type_equations.specs.Coded.{IsForm, value}
use Rattle.type_equations.specs.States.{State, state_of}
use Rattle.type_equations.specs.declared.equations.Binder.{Binder}
use Rattle.type_equations.specs.declared.equations.Equations.{Equations}
use Rattle.type_equations.specs.declared.equations.Failure.{Failure}
use Rattle.type_equations.specs.Demands.{Demand, with_unknowns}
use Rattle.type_equations.specs.Syntax.{KnowsSyntax, plain_integer, plain_character, plain_list}
use Rattle.type_equations.proofs.SyntaxLemmas.{form-list}
use Rattle.infer_patterns.specs.Patterns.{LiteralEntered, LiteralRefused, TupleEntered, TupleRefused, ListEntered}
use Rattle.infer_patterns.specs.Patterns.{ListRefused}
use Rattle.infer_patterns.specs.declared.names.Declared.{Declared}
use Rattle.infer_patterns.proofs.EnterLemmas.{state_behind, kinds_behind}
use Rattle.bp_base.specs.declared.ty.Kind.TheVariants.{Star}
use Rattle.expression_demands.proofs.FormLemmas.{literal_imposes}
use Rattle.expression_demands.proofs.GlobalLemmas.{literal_none}
use Rattle.infer_expressions.specs.Inferred.{Explains, StandsFor, ExpInferred, ExpRefused, ExpsInferred}
use Rattle.infer_expressions.specs.Inferred.{ExpsRefused, AltsInferred, AltsRefused}
use Rattle.infer_expressions.specs.Entered.{Leads, function_parts, ApplicationEntered, ApplicationRefused, TestEntered}
use Rattle.infer_expressions.specs.Entered.{TestRefused, SectionEntered, SectionRefused, LambdaEntered, LambdaRefused}
use Rattle.infer_expressions.specs.declared.refusal.Refusal.{Refusal}
use Rattle.infer_expressions.proofs.LeadLemmas.{leads_end, leads_none, leads_part, leads_part_none}
use Rattle.infer_expressions.proofs.HeadLemmas.{exp_has, exp_meant, exps_have, exps_meant, alts_have, alts_meant}
use Rattle.infer_expressions.proofs.HeadLemmas.{and_then}
use Rattle.infer_expressions.proofs.HeadLemmas.{exp_asks, exps_ask, alts_ask, pair_asks, application_leads}
use Rattle.infer_expressions.proofs.HeadLemmas.{application_none, if_leads, if_none, tuple_leads, tuple_none}
use Rattle.infer_expressions.proofs.HeadLemmas.{list_leads}
use Rattle.infer_expressions.proofs.HeadLemmas.{list_none, case_leads, section_leads, section_none}

-- ---- refusals

pub explained : {A : Type 0} {P Q P' Q' : Type 0} (r : Result A Refusal) → (P → P') → (Q → Q')
    → IfErr r (λ e. Explains P Q e) → IfErr r (λ e. Explains P' Q' e)
explained (Ok x) f k h = h
explained (Err e) f k h = (λ z. f (h.0 z), λ z. k (h.1 z))

pub explains_so : {P Q P' Q' : Type 0} (e : Refusal) → (P → P') → (Q → Q') → Explains P Q e → Explains P' Q' e
explains_so e f k h = (λ z. f (h.0 z), λ z. k (h.1 z))

-- a failure has no typing to explain but its own
pub explains_failure : {P Q : Type 0} (f : Failure) (e : Refusal) → StandsFor f e → (f ≡ Failure.NoTyping → P)
    → Explains P Q e
explains_failure f e s h = (λ z. h (s.0 z), λ z. absurd (s.1 z))

not_same : Refusal.Uncovered ≡ Refusal.NoTyping → ⊥
not_same h = cc

pub uncovered_is : {P Q : Type 0} → Q → Explains P Q Refusal.Uncovered
uncovered_is q = (λ z. absurd (not_same z), λ z. q)

known : (old : Equations) → length old.kinds.items ≡ length (map kind_term old.kinds.items)
known old = sym (length-map old.kinds.items kind_term)

abbrev pub InferredTo : List Declared → List Binder → State → State → ℕ → Exp → Type 0
InferredTo names env old new v e = ExpInferred names env old new e v

abbrev pub RefusedAt : List Declared → List Binder → State → ℕ → Exp → Type 0
RefusedAt names env old v e = ExpRefused names env old e v

module _ (names : List Declared) (env : List Binder) where
  -- ---- literals

  literal_ok : (old new : State) (e : Exp) (v : ℕ) (t : Plain) (u : TypeTerm)
      → ((G : Globals) (kinds : Kinds) (es : List Assumption) (w : TypeTerm) → IsProperType G any kinds w → w ≡ u
      → HasType G any e kinds es w)
      → ((G : Globals) (kinds : Kinds) (ls : List LocalTypes) (w : TypeTerm) → MeantType G kinds e ls w → w ≡ u)
      → ((g : TypeAssignment) → value g t ≡ u)
      → ((G : Globals) → KnowsSyntax G → IsForm G old.kinds t star)
      → LiteralEntered old new v t → ExpInferred names env old new e v
  literal_ok old new e v t u f h val form q G K r o s = literal_imposes G old new e env v t u s.0 (f G) (h G) val
      (q G K.syntax r s.0 (form G K.syntax))

  literal_err : (old : State) (e : Exp) (v : ℕ) (t : Plain) (u : TypeTerm)
      → ((G : Globals) (kinds : Kinds) (ls : List LocalTypes) (w : TypeTerm) → MeantType G kinds e ls w → w ≡ u)
      → ((g : TypeAssignment) → value g t ≡ u)
      → ((G : Globals) → KnowsSyntax G → IsForm G old.kinds t star)
      → LiteralRefused old v t → ExpRefused names env old e v
  literal_err old e v t u h val form q G K r o s = literal_none G old e env v t u (h G) val
      (q G K.syntax s.0 (form G K.syntax))

  pub integer_ok : (old new : State) (exp : Exp) (i v : ℕ) (t : Plain) → exp ≡ Int i → t ≡ plain_integer
      → LiteralEntered old new v t → ExpInferred names env old new exp v
  integer_ok old new exp i v t is e h = subst (InferredTo names env old new v) (sym is)
      (literal_ok old new (Int i) v plain_integer integer (λ G k l w p q. (p, q)) (λ G k l w q. q.1) (λ g. refl)
      (λ G K. K.integer) (subst (LiteralEntered old new v) e h))

  pub integer_err : (old : State) (exp : Exp) (i v : ℕ) (t : Plain) → exp ≡ Int i → t ≡ plain_integer
      → LiteralRefused old v t → ExpRefused names env old exp v
  integer_err old exp i v t is e h = subst (RefusedAt names env old v) (sym is)
      (literal_err old (Int i) v plain_integer integer (λ G k l w q. q.1) (λ g. refl)
      (λ G K. K.integer) (subst (LiteralRefused old v) e h))

  pub character_ok : (old new : State) (exp : Exp) (i v : ℕ) (t : Plain) → exp ≡ Chr i → t ≡ plain_character
      → LiteralEntered old new v t → ExpInferred names env old new exp v
  character_ok old new exp i v t is e h = subst (InferredTo names env old new v) (sym is)
      (literal_ok old new (Chr i) v plain_character character (λ G k l w p q. (p, q)) (λ G k l w q. q.1) (λ g. refl)
      (λ G K. K.character) (subst (LiteralEntered old new v) e h))

  pub character_err : (old : State) (exp : Exp) (i v : ℕ) (t : Plain) → exp ≡ Chr i → t ≡ plain_character
      → LiteralRefused old v t → ExpRefused names env old exp v
  character_err old exp i v t is e h = subst (RefusedAt names env old v) (sym is)
      (literal_err old (Chr i) v plain_character character (λ G k l w q. q.1) (λ g. refl)
      (λ G K. K.character) (subst (LiteralRefused old v) e h))

  pub string_ok : (old new : State) (exp : Exp) (cs : List ℕ) (v : ℕ) (t : Plain) → exp ≡ Str cs
      → t ≡ plain_list plain_character → LiteralEntered old new v t → ExpInferred names env old new exp v
  string_ok old new exp cs v t is e h = subst (InferredTo names env old new v) (sym is)
      (literal_ok old new (Str cs) v (plain_list plain_character) (list_of character) (λ G k l w p q. (p, q))
      (λ G k l w q. q.1) (λ g. refl) (λ G K. form-list G K old.kinds plain_character K.character)
      (subst (LiteralEntered old new v) e h))

  pub string_err : (old : State) (exp : Exp) (cs : List ℕ) (v : ℕ) (t : Plain) → exp ≡ Str cs
      → t ≡ plain_list plain_character → LiteralRefused old v t → ExpRefused names env old exp v
  string_err old exp cs v t is e h = subst (RefusedAt names env old v) (sym is)
      (literal_err old (Str cs) v (plain_list plain_character) (list_of character) (λ G k l w q. q.1) (λ g. refl)
      (λ G K. form-list G K old.kinds plain_character K.character) (subst (LiteralRefused old v) e h))

  -- ---- parts at unknowns that the code knows by other names

  exp_at : (old new : State) (e f : Exp) (v w : ℕ) → e ≡ f → v ≡ w → ExpInferred names env old new e v
      → ExpInferred names env old new f w
  exp_at old new e f v w p q h = subst (λ z. ExpInferred names env old new f z) q
      (subst (InferredTo names env old new v) p h)

  not_at : (old : State) (e f : Exp) (v w : ℕ) → e ≡ f → v ≡ w → ExpRefused names env old e v
      → ExpRefused names env old f w
  not_at old e f v w p q h = subst (λ z. ExpRefused names env old f z) q (subst (RefusedAt names env old v) p h)

  exps_at : (old new : State) (es fs : List Exp) (vs ws : List ℕ) → es ≡ fs → vs ≡ ws
      → ExpsInferred names env old new es vs → ExpsInferred names env old new fs ws
  exps_at old new es fs vs ws p q h = subst (λ z. ExpsInferred names env old new fs z) q
      (subst (λ z. ExpsInferred names env old new z vs) p h)

  none_at : (old : State) (es fs : List Exp) (vs ws : List ℕ) → es ≡ fs → vs ≡ ws → ExpsRefused names env old es vs
      → ExpsRefused names env old fs ws
  none_at old es fs vs ws p q h = subst (λ z. ExpsRefused names env old fs z) q
      (subst (λ z. ExpsRefused names env old z vs) p h)

  -- ---- applications

  module _ (old : Equations) (exp f fun : Exp) (es args : List Exp) (v m own : ℕ) (parts slice : List ℕ)
      (is : exp ≡ Apply fun args) (f_is : f ≡ fun) (es_is : es ≡ args) (many : m ≡ length args)
      (own_is : own ≡ length old.kinds.items) (parts_are : parts ≡ range_with_len (length old.kinds.items + 1) m)
      (slice_is : slice ≡ parts) where
    abbrev w : ℕ
    w = length (map kind_term old.kinds.items)

    abbrev ids : List ℕ
    ids = function_parts (state_of old) (length args)

    slice_are : slice ≡ ids
    slice_are = slice_is ∙ parts_are ∙ ap₂ (λ a k. range_with_len (a + 1) k) (known old) many

    abbrev Whole : State → Type 0
    Whole mid = Leads names env (v ∷ []) (exp_has (Apply fun args) env v) (exp_meant (Apply fun args) env v)
        (and_then (exp_has fun env w) (exps_have args env ids))
        (and_then (exp_meant fun env w) (exps_meant args env ids))
        env (w ∷ ids) (state_of old) mid

    head : (middle : State) → ApplicationEntered (state_of old) middle v m → Whole middle
    head middle h = application_leads names env v (state_of old) middle fun args
        (subst (λ k. ApplicationEntered (state_of old) middle v k) many h)

    rest : (middle next : State) → ApplicationEntered (state_of old) middle v m
        → ExpInferred names env middle next f own
        → Leads names env (v ∷ []) (exp_has (Apply fun args) env v) (exp_meant (Apply fun args) env v)
        (exps_have args env ids) (exps_meant args env ids) env ids (state_of old) next
    rest middle next h i = leads_part names env (v ∷ []) (exp_has (Apply fun args) env v)
        (exp_meant (Apply fun args) env v) (exp_has fun env w) (exp_meant fun env w) (exps_have args env ids)
        (exps_meant args env ids) env (w ∷ ids) (w ∷ []) ids (state_of old) middle next (λ ks s. ((s.0, tt), s.1))
        (exps_ask args env ids) (head middle h) (exp_at middle next f fun own w f_is (own_is ∙ known old) i)

    pub apply_ok : (middle next new : State) → ApplicationEntered (state_of old) middle v m
        → ExpInferred names env middle next f own → ExpsInferred names env next new es slice
        → ExpInferred names env (state_of old) new exp v
    apply_ok middle next new h i j = subst (InferredTo names env (state_of old) new v) (sym is)
        (leads_end names env (v ∷ []) (exp_has (Apply fun args) env v) (exp_meant (Apply fun args) env v)
        (exps_have args env ids) (exps_meant args env ids) env ids (state_of old) next new (rest middle next h i)
        (exps_at next new es args slice ids es_is slice_are j))

    pub apply_function_err : (middle : State) → ApplicationEntered (state_of old) middle v m
        → ExpRefused names env middle f own → ExpRefused names env (state_of old) exp v
    apply_function_err middle h n = subst (RefusedAt names env (state_of old) v) (sym is)
        (leads_part_none names env (v ∷ []) (exp_has (Apply fun args) env v) (exp_meant (Apply fun args) env v)
        (exp_has fun env w) (exp_meant fun env w) (exps_have args env ids) (exps_meant args env ids) env (w ∷ ids)
        (w ∷ []) ids (state_of old) middle (λ ks s. ((s.0, tt), s.1)) (head middle h)
        (not_at middle f fun own w f_is (own_is ∙ known old) n))

    pub apply_arguments_err : (middle next : State) → ApplicationEntered (state_of old) middle v m
        → ExpInferred names env middle next f own → ExpsRefused names env next es slice
        → ExpRefused names env (state_of old) exp v
    apply_arguments_err middle next h i n = subst (RefusedAt names env (state_of old) v) (sym is)
        (leads_none names env (v ∷ []) (exp_has (Apply fun args) env v) (exp_meant (Apply fun args) env v)
        (exps_have args env ids) (exps_meant args env ids) env ids (state_of old) next (rest middle next h i)
        (none_at next es args slice ids es_is slice_are n))

  pub apply_head_err : (old : State) (exp fun : Exp) (args : List Exp) (v m : ℕ) → exp ≡ Apply fun args
      → m ≡ length args → ApplicationRefused old v m → ExpRefused names env old exp v
  apply_head_err old exp fun args v m is many h = subst (RefusedAt names env old v) (sym is)
      (application_none names env v old fun args (subst (λ k. ApplicationRefused old v k) many h))

  -- ---- lambdas

  pub lambda_ok : (old middle new : State) (exp e body : Exp) (ps pats : List Pat) (v own : ℕ)
      (scope slice : List Binder)
      → exp ≡ Lambda pats body → e ≡ body → ps ≡ pats → slice ≡ scope
      → LambdaEntered names env old middle ps v own scope → ExpInferred names slice middle new e own
      → ExpInferred names env old new exp v
  lambda_ok old middle new exp e body ps pats v own scope slice is e_is ps_are slice_is h i =
      subst (InferredTo names env old new v) (sym (is ∙ ap₂ Lambda (sym ps_are) (sym e_is)))
      (leads_end names env (v ∷ []) (exp_has (Lambda ps e) env v) (exp_meant (Lambda ps e) env v)
      (exp_has e scope own) (exp_meant e scope own) scope (own ∷ []) old middle new (h e)
      (subst (λ z. ExpInferred names z middle new e own) slice_is i))

  pub lambda_body_err : (old middle : State) (exp e body : Exp) (ps pats : List Pat) (v own : ℕ)
      (scope slice : List Binder) → exp ≡ Lambda pats body → e ≡ body → ps ≡ pats → slice ≡ scope
      → LambdaEntered names env old middle ps v own scope → ExpRefused names slice middle e own
      → ExpRefused names env old exp v
  lambda_body_err old middle exp e body ps pats v own scope slice is e_is ps_are slice_is h n =
      subst (RefusedAt names env old v) (sym (is ∙ ap₂ Lambda (sym ps_are) (sym e_is)))
      (leads_none names env (v ∷ []) (exp_has (Lambda ps e) env v) (exp_meant (Lambda ps e) env v)
      (exp_has e scope own) (exp_meant e scope own) scope (own ∷ []) old middle (h e)
      (subst (λ z. ExpRefused names z middle e own) slice_is n))

  pub lambda_head_err : (old : State) (exp body : Exp) (ps pats : List Pat) (v : ℕ) → exp ≡ Lambda pats body
      → ps ≡ pats → LambdaRefused names env old ps v → ExpRefused names env old exp v
  lambda_head_err old exp body ps pats v is ps_are h =
      subst (RefusedAt names env old v) (sym (is ∙ ap (λ z. Lambda z body) (sym ps_are))) (h body)

  -- ---- conditionals

  module _ (old : Equations) (exp a b c a' b' c' : Exp) (v own : ℕ) (is : exp ≡ If a' b' c') (a_is : a ≡ a')
      (b_is : b ≡ b') (c_is : c ≡ c') (own_is : own ≡ length old.kinds.items) where
    abbrev unknown : ℕ
    unknown = length (map kind_term old.kinds.items)

    if_is : If a b c ≡ exp
    if_is = (λ i. If (a_is i) (b_is i) (c_is i)) ∙ sym is

    abbrev branches_have : Globals → Demand
    branches_have = and_then (exp_has b env v) (exp_has c env v)

    abbrev branches_meant : Globals → Demand
    branches_meant = and_then (exp_meant b env v) (exp_meant c env v)

    if_head : (middle : State) → TestEntered (state_of old) middle
        → Leads names env (v ∷ []) (exp_has (If a b c) env v) (exp_meant (If a b c) env v)
        (and_then (exp_has a env unknown) branches_have) (and_then (exp_meant a env unknown) branches_meant) env
        (unknown ∷ v ∷ []) (state_of old) middle
    if_head middle h = if_leads names env v (state_of old) middle a b c h

    if_branches : (middle next : State) → TestEntered (state_of old) middle
        → ExpInferred names env middle next a own
        → Leads names env (v ∷ []) (exp_has (If a b c) env v) (exp_meant (If a b c) env v) branches_have branches_meant
        env (v ∷ []) (state_of old) next
    if_branches middle next h i = leads_part names env (v ∷ []) (exp_has (If a b c) env v)
        (exp_meant (If a b c) env v) (exp_has a env unknown) (exp_meant a env unknown) branches_have branches_meant env
        (unknown ∷ v ∷ []) (unknown ∷ []) (v ∷ []) (state_of old) middle next (λ ks s. ((s.0, tt), s.1))
        (pair_asks (exp_meant b env v) (exp_meant c env v) env (v ∷ []) (v ∷ []) (v ∷ []) (exp_asks b env v)
        (exp_asks c env v) (λ ks s. (s, s))) (if_head middle h)
        (exp_at middle next a a own unknown refl (own_is ∙ known old) i)

    if_last : (middle next third : State) → TestEntered (state_of old) middle → ExpInferred names env middle next a own
        → ExpInferred names env next third b v
        → Leads names env (v ∷ []) (exp_has (If a b c) env v) (exp_meant (If a b c) env v) (exp_has c env v)
        (exp_meant c env v) env (v ∷ []) (state_of old) third
    if_last middle next third h i j = leads_part names env (v ∷ []) (exp_has (If a b c) env v)
        (exp_meant (If a b c) env v) (exp_has b env v) (exp_meant b env v) (exp_has c env v) (exp_meant c env v) env
        (v ∷ []) (v ∷ []) (v ∷ []) (state_of old) next third (λ ks s. (s, s)) (exp_asks c env v)
        (if_branches middle next h i) j

    pub if_ok : (middle next third new : State) → TestEntered (state_of old) middle
        → ExpInferred names env middle next a own → ExpInferred names env next third b v
        → ExpInferred names env third new c v → ExpInferred names env (state_of old) new exp v
    if_ok middle next third new h i j k = subst (InferredTo names env (state_of old) new v) if_is
        (leads_end names env (v ∷ []) (exp_has (If a b c) env v) (exp_meant (If a b c) env v) (exp_has c env v)
        (exp_meant c env v) env (v ∷ []) (state_of old) third new (if_last middle next third h i j) k)

    pub if_test_err : (middle : State) → TestEntered (state_of old) middle → ExpRefused names env middle a own
        → ExpRefused names env (state_of old) exp v
    if_test_err middle h n = subst (RefusedAt names env (state_of old) v) if_is
        (leads_part_none names env (v ∷ []) (exp_has (If a b c) env v) (exp_meant (If a b c) env v)
        (exp_has a env unknown) (exp_meant a env unknown) branches_have branches_meant env (unknown ∷ v ∷ [])
        (unknown ∷ []) (v ∷ []) (state_of old) middle (λ ks s. ((s.0, tt), s.1)) (if_head middle h)
        (not_at middle a a own unknown refl (own_is ∙ known old) n))

    pub if_yes_err : (middle next : State) → TestEntered (state_of old) middle → ExpInferred names env middle next a own
        → ExpRefused names env next b v → ExpRefused names env (state_of old) exp v
    if_yes_err middle next h i n = subst (RefusedAt names env (state_of old) v) if_is
        (leads_part_none names env (v ∷ []) (exp_has (If a b c) env v) (exp_meant (If a b c) env v)
        (exp_has b env v) (exp_meant b env v) (exp_has c env v) (exp_meant c env v) env (v ∷ []) (v ∷ []) (v ∷ [])
        (state_of old) next (λ ks s. (s, s)) (if_branches middle next h i) n)

    pub if_no_err : (middle next third : State) → TestEntered (state_of old) middle
        → ExpInferred names env middle next a own → ExpInferred names env next third b v
        → ExpRefused names env third c v → ExpRefused names env (state_of old) exp v
    if_no_err middle next third h i j n = subst (RefusedAt names env (state_of old) v) if_is
        (leads_none names env (v ∷ []) (exp_has (If a b c) env v) (exp_meant (If a b c) env v) (exp_has c env v)
        (exp_meant c env v) env (v ∷ []) (state_of old) third (if_last middle next third h i j) n)

  pub if_head_err : (old : State) (exp a b c : Exp) (v : ℕ) → exp ≡ If a b c → TestRefused old
      → ExpRefused names env old exp v
  if_head_err old exp a b c v is h = subst (RefusedAt names env old v) (sym is) (if_none names env v old a b c h)

  -- ---- tuples and lists

  pub tuple_ok : (old : Equations) (middle new : State) (exp : Exp) (es parts : List Exp) (v m : ℕ)
      (made slice : List ℕ)
      → exp ≡ Tuple parts → es ≡ parts → m ≡ length parts → made ≡ range_with_len (length old.kinds.items) m
      → slice ≡ made → TupleEntered (state_of old) middle v m → ExpsInferred names env middle new es slice
      → ExpInferred names env (state_of old) new exp v
  tuple_ok old middle new exp es parts v m made slice is es_are many made_are slice_is h i =
      let all = range_with_len (length (map kind_term old.kinds.items)) (length parts) in
      subst (InferredTo names env (state_of old) new v) (sym is)
      (leads_end names env (v ∷ []) (exp_has (Tuple parts) env v) (exp_meant (Tuple parts) env v)
      (exps_have parts env all) (exps_meant parts env all) env all (state_of old) middle new
      (tuple_leads names env v (state_of old) middle parts (subst (λ k. TupleEntered (state_of old) middle v k) many h))
      (exps_at middle new es parts slice all es_are
      (slice_is ∙ made_are ∙ ap₂ range_with_len (known old) many) i))

  pub tuple_parts_err : (old : Equations) (middle : State) (exp : Exp) (es parts : List Exp) (v m : ℕ)
      (made slice : List ℕ) → exp ≡ Tuple parts → es ≡ parts → m ≡ length parts
      → made ≡ range_with_len (length old.kinds.items) m
      → slice ≡ made → TupleEntered (state_of old) middle v m → ExpsRefused names env middle es slice
      → ExpRefused names env (state_of old) exp v
  tuple_parts_err old middle exp es parts v m made slice is es_are many made_are slice_is h n =
      let all = range_with_len (length (map kind_term old.kinds.items)) (length parts) in
      subst (RefusedAt names env (state_of old) v) (sym is)
      (leads_none names env (v ∷ []) (exp_has (Tuple parts) env v) (exp_meant (Tuple parts) env v)
      (exps_have parts env all) (exps_meant parts env all) env all (state_of old) middle
      (tuple_leads names env v (state_of old) middle parts (subst (λ k. TupleEntered (state_of old) middle v k) many h))
      (none_at middle es parts slice all es_are (slice_is ∙ made_are ∙ ap₂ range_with_len (known old) many) n))

  pub tuple_head_err : (old : State) (exp : Exp) (parts : List Exp) (v m : ℕ) → exp ≡ Tuple parts → m ≡ length parts
      → TupleRefused old v m → ExpRefused names env old exp v
  tuple_head_err old exp parts v m is many h = subst (RefusedAt names env old v) (sym is)
      (tuple_none names env v old parts (subst (λ k. TupleRefused old v k) many h))

  pub list_ok : (old : Equations) (middle new : State) (exp : Exp) (es parts : List Exp) (v m : ℕ) (made slice : List ℕ)
      → exp ≡ ListOf parts → es ≡ parts → m ≡ length parts → made ≡ replicate m (length old.kinds.items)
      → slice ≡ made → ListEntered (state_of old) middle v → ExpsInferred names env middle new es slice
      → ExpInferred names env (state_of old) new exp v
  list_ok old middle new exp es parts v m made slice is es_are many made_are slice_is h i =
      let all = replicate (length parts) (length (map kind_term old.kinds.items)) in
      subst (InferredTo names env (state_of old) new v) (sym is)
      (leads_end names env (v ∷ []) (exp_has (ListOf parts) env v) (exp_meant (ListOf parts) env v)
      (exps_have parts env all) (exps_meant parts env all) env all (state_of old) middle new
      (list_leads names env v (state_of old) middle parts h)
      (exps_at middle new es parts slice all es_are (slice_is ∙ made_are ∙ ap₂ replicate many (known old)) i))

  pub list_parts_err : (old : Equations) (middle : State) (exp : Exp) (es parts : List Exp) (v m : ℕ)
      (made slice : List ℕ) → exp ≡ ListOf parts → es ≡ parts → m ≡ length parts
      → made ≡ replicate m (length old.kinds.items)
      → slice ≡ made → ListEntered (state_of old) middle v → ExpsRefused names env middle es slice
      → ExpRefused names env (state_of old) exp v
  list_parts_err old middle exp es parts v m made slice is es_are many made_are slice_is h n =
      let all = replicate (length parts) (length (map kind_term old.kinds.items)) in
      subst (RefusedAt names env (state_of old) v) (sym is)
      (leads_none names env (v ∷ []) (exp_has (ListOf parts) env v) (exp_meant (ListOf parts) env v)
      (exps_have parts env all) (exps_meant parts env all) env all (state_of old) middle
      (list_leads names env v (state_of old) middle parts h)
      (none_at middle es parts slice all es_are (slice_is ∙ made_are ∙ ap₂ replicate many (known old)) n))

  pub list_head_err : (old : State) (exp : Exp) (parts : List Exp) (v : ℕ) → exp ≡ ListOf parts → ListRefused old v
      → ExpRefused names env old exp v
  list_head_err old exp parts v is h = subst (RefusedAt names env old v) (sym is) (list_none names env v old parts h)

  -- ---- case expressions

  module _ (old mid : Equations) (exp e e' : Exp) (alts alts' : List Alt) (v own : ℕ) (is : exp ≡ Case e' alts')
      (e_is : e ≡ e') (alts_are : alts ≡ alts') (own_is : own ≡ length old.kinds.items)
      (same : mid.bindings ≡ old.bindings) (kinds : mid.kinds.items ≡ old.kinds.items ++ Star ∷ []) where
    abbrev of : ℕ
    of = length (map kind_term old.kinds.items)

    case_is : Case e alts ≡ exp
    case_is = ap₂ Case e_is alts_are ∙ sym is

    mid_is : state_of mid ≡ with_unknowns (state_of old) (star ∷ [])
    mid_is = state_behind (state_of old) (state_of mid) (star ∷ []) same
        (kinds_behind old.kinds.items mid.kinds.items 1 kinds)

    case_head : Leads names env (v ∷ []) (exp_has (Case e alts) env v) (exp_meant (Case e alts) env v)
        (and_then (exp_has e env of) (alts_have alts env of v))
        (and_then (exp_meant e env of) (alts_meant alts env of v))
        env (of ∷ v ∷ []) (state_of old) (state_of mid)
    case_head = subst (λ z. Leads names env (v ∷ []) (exp_has (Case e alts) env v) (exp_meant (Case e alts) env v)
        (and_then (exp_has e env of) (alts_have alts env of v))
        (and_then (exp_meant e env of) (alts_meant alts env of v))
        env (of ∷ v ∷ []) (state_of old) z) (sym mid_is) (case_leads names env v (state_of old) e alts)

    case_alts : (next : State) → ExpInferred names env (state_of mid) next e own
        → Leads names env (v ∷ []) (exp_has (Case e alts) env v) (exp_meant (Case e alts) env v)
        (alts_have alts env of v) (alts_meant alts env of v) env (of ∷ v ∷ []) (state_of old) next
    case_alts next i = leads_part names env (v ∷ []) (exp_has (Case e alts) env v) (exp_meant (Case e alts) env v)
        (exp_has e env of) (exp_meant e env of) (alts_have alts env of v) (alts_meant alts env of v) env (of ∷ v ∷ [])
        (of ∷ []) (of ∷ v ∷ []) (state_of old) (state_of mid) next (λ ks s. ((s.0, tt), s)) (alts_ask alts env of v)
        case_head (exp_at (state_of mid) next e e own of refl (own_is ∙ known old) i)

    pub case_ok : (next new : State) → ExpInferred names env (state_of mid) next e own
        → AltsInferred names env next new alts own v → ExpInferred names env (state_of old) new exp v
    case_ok next new i j = subst (InferredTo names env (state_of old) new v) case_is
        (leads_end names env (v ∷ []) (exp_has (Case e alts) env v) (exp_meant (Case e alts) env v)
        (alts_have alts env of v) (alts_meant alts env of v) env (of ∷ v ∷ []) (state_of old) next new
        (case_alts next i) (subst (λ z. AltsInferred names env next new alts z v) (own_is ∙ known old) j))

    pub case_of_err : ExpRefused names env (state_of mid) e own → ExpRefused names env (state_of old) exp v
    case_of_err n = subst (RefusedAt names env (state_of old) v) case_is
        (leads_part_none names env (v ∷ []) (exp_has (Case e alts) env v) (exp_meant (Case e alts) env v)
        (exp_has e env of) (exp_meant e env of) (alts_have alts env of v) (alts_meant alts env of v) env (of ∷ v ∷ [])
        (of ∷ []) (of ∷ v ∷ []) (state_of old) (state_of mid) (λ ks s. ((s.0, tt), s)) case_head
        (not_at (state_of mid) e e own of refl (own_is ∙ known old) n))

    pub case_alts_err : (next : State) → ExpInferred names env (state_of mid) next e own
        → AltsRefused names env next alts own v → ExpRefused names env (state_of old) exp v
    case_alts_err next i n = subst (RefusedAt names env (state_of old) v) case_is
        (leads_none names env (v ∷ []) (exp_has (Case e alts) env v) (exp_meant (Case e alts) env v)
        (alts_have alts env of v) (alts_meant alts env of v) env (of ∷ v ∷ []) (state_of old) next (case_alts next i)
        (subst (λ z. AltsRefused names env next alts z v) (own_is ∙ known old) n))

  -- ---- right sections

  module _ (old : Equations) (exp op e op' e' : Exp) (v own right : ℕ) (is : exp ≡ RightSection op' e')
      (op_is : op ≡ op')
      (e_is : e ≡ e') (own_is : own ≡ length old.kinds.items + 1 + 1 + 1)
      (right_is : right ≡ length old.kinds.items + 1) where
    abbrev n : ℕ
    n = length (map kind_term old.kinds.items)

    section_is : RightSection op e ≡ exp
    section_is = ap₂ RightSection op_is e_is ∙ sym is

    own_at : own ≡ n + 1 + 1 + 1
    own_at = own_is ∙ ap (λ k. k + 1 + 1 + 1) (known old)

    right_at : right ≡ n + 1
    right_at = right_is ∙ ap (λ k. k + 1) (known old)

    section_head : (middle : State) → SectionEntered (state_of old) middle v
        → Leads names env (v ∷ []) (exp_has (RightSection op e) env v) (exp_meant (RightSection op e) env v)
        (and_then (exp_has op env (n + 1 + 1 + 1)) (exp_has e env (n + 1)))
        (and_then (exp_meant op env (n + 1 + 1 + 1)) (exp_meant e env (n + 1))) env ((n + 1 + 1 + 1) ∷ (n + 1) ∷ [])
        (state_of old) middle
    section_head middle h = section_leads names env v (state_of old) middle op e h

    section_rest : (middle next : State) → SectionEntered (state_of old) middle v
        → ExpInferred names env middle next op own
        → Leads names env (v ∷ []) (exp_has (RightSection op e) env v) (exp_meant (RightSection op e) env v)
        (exp_has e env (n + 1)) (exp_meant e env (n + 1)) env ((n + 1) ∷ []) (state_of old) next
    section_rest middle next h i = leads_part names env (v ∷ []) (exp_has (RightSection op e) env v)
        (exp_meant (RightSection op e) env v) (exp_has op env (n + 1 + 1 + 1)) (exp_meant op env (n + 1 + 1 + 1))
        (exp_has e env (n + 1)) (exp_meant e env (n + 1)) env ((n + 1 + 1 + 1) ∷ (n + 1) ∷ []) ((n + 1 + 1 + 1) ∷ [])
        ((n + 1) ∷ []) (state_of old) middle next (λ ks s. ((s.0, tt), s.1)) (exp_asks e env (n + 1))
        (section_head middle h) (exp_at middle next op op own (n + 1 + 1 + 1) refl own_at i)

    pub section_ok : (middle next new : State) → SectionEntered (state_of old) middle v
        → ExpInferred names env middle next op own → ExpInferred names env next new e right
        → ExpInferred names env (state_of old) new exp v
    section_ok middle next new h i j = subst (InferredTo names env (state_of old) new v) section_is
        (leads_end names env (v ∷ []) (exp_has (RightSection op e) env v) (exp_meant (RightSection op e) env v)
        (exp_has e env (n + 1)) (exp_meant e env (n + 1)) env ((n + 1) ∷ []) (state_of old) next new
        (section_rest middle next h i) (exp_at next new e e right (n + 1) refl right_at j))

    pub section_operator_err : (middle : State) → SectionEntered (state_of old) middle v
        → ExpRefused names env middle op own → ExpRefused names env (state_of old) exp v
    section_operator_err middle h k = subst (RefusedAt names env (state_of old) v) section_is
        (leads_part_none names env (v ∷ []) (exp_has (RightSection op e) env v) (exp_meant (RightSection op e) env v)
        (exp_has op env (n + 1 + 1 + 1)) (exp_meant op env (n + 1 + 1 + 1)) (exp_has e env (n + 1))
        (exp_meant e env (n + 1)) env ((n + 1 + 1 + 1) ∷ (n + 1) ∷ []) ((n + 1 + 1 + 1) ∷ []) ((n + 1) ∷ [])
        (state_of old)
        middle (λ ks s. ((s.0, tt), s.1)) (section_head middle h)
        (not_at middle op op own (n + 1 + 1 + 1) refl own_at k))

    pub section_operand_err : (middle next : State) → SectionEntered (state_of old) middle v
        → ExpInferred names env middle next op own → ExpRefused names env next e right
        → ExpRefused names env (state_of old) exp v
    section_operand_err middle next h i k = subst (RefusedAt names env (state_of old) v) section_is
        (leads_none names env (v ∷ []) (exp_has (RightSection op e) env v) (exp_meant (RightSection op e) env v)
        (exp_has e env (n + 1)) (exp_meant e env (n + 1)) env ((n + 1) ∷ []) (state_of old) next
        (section_rest middle next h i) (not_at next e e right (n + 1) refl right_at k))

  pub section_head_err : (old : State) (exp op e : Exp) (v : ℕ) → exp ≡ RightSection op e → SectionRefused old v
      → ExpRefused names env old exp v
  section_head_err old exp op e v is h = subst (RefusedAt names env old v) (sym is)
      (section_none names env v old op e h)
