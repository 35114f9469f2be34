-- The heads of expressions, in the shape in which the code meets them.
use Rattle.std.proofs.Common.{◌≡◌, sym, ap, ap₂, subst, ◌∙◌, inl, inr, ℕ, suc, ◌+◌, List, [], ◌∷◌, ◌++◌, map}
use Rattle.std.proofs.lemmas.List.{length-map, map-append, append-nil}
use Rattle.std.specs.Prelude.{Some, slice_get, length, replicate}
use Rattle.std.specs.List.{range_with_len}
use Rattle.bp_base.specs.Lists.{Among}
use Rattle.bp_base.specs.Texts.{Text}
use Rattle.bp_base.specs.declared.ty.Kind.TheVariants.{Star}
use Rattle.bp_base.specs.declared.ty.OrigName.{OrigName}
use Rattle.hs_core.specs.declared.tree.Exp.TheVariants.{Local, Global}
use Rattle.type_terms.specs.Terms.{var}
use Rattle.hs_core.specs.Types.{KindTerm, star, kind_term}
use Rattle.hs_core.specs.Globals.{Globals}
use Rattle.type_unify.specs.Types.{Plain}
use Rattle.type_equations.specs.Coded.{IsForm}
use Rattle.type_equations.specs.States.{State, state_of, Equates, Refuses, IsReady, Equated, NotEqual}
use Rattle.type_equations.specs.declared.equations.Binder.{Binder}
use Rattle.type_equations.specs.declared.equations.Equations.{Equations}
use Rattle.type_equations.specs.Demands.{AllStar, with_unknowns}
use Rattle.type_equations.specs.Syntax.{AreStars, KnowsSyntax, plain_boolean, plain_function, plain_functions, unknowns}
use Rattle.type_equations.proofs.DemandLemmas.{ready-with, slice_get-front}
use Rattle.type_equations.proofs.SyntaxLemmas.{form-function, form-functions, form-unknowns}
use Rattle.type_equations.proofs.UnknownLemmas.{new_stars}
use Rattle.infer_patterns.specs.Names.{Tells, IsUnknownName, kinds_of_declared, instance}
use Rattle.infer_patterns.specs.declared.names.Declared.{Declared}
use Rattle.infer_patterns.proofs.ConLemmas.{instance-form}
use Rattle.infer_patterns.proofs.EnterLemmas.{kinds_behind, state_behind}
use Rattle.expression_demands.specs.Expressions.{IsNewest, IsUnbound, has_type, meant_type}
use Rattle.expression_demands.proofs.FormLemmas.{local_imposes, local_none}
use Rattle.expression_demands.proofs.GlobalLemmas.{unbound_none, global_imposes, global_none, undeclared_none}
use Rattle.type_equations.specs.Demands.{Imposes, HasNone}
use Rattle.infer_expressions.specs.Inferred.{ExpInferred, ExpRefused}
use Rattle.infer_expressions.specs.Entered.{HeadEntered, HeadRefused, function_kinds, function_parts, function_to}
use Rattle.infer_expressions.specs.Entered.{ApplicationEntered, ApplicationRefused, FunctionEntered, FunctionRefused}
use Rattle.infer_expressions.specs.Entered.{TestEntered, TestRefused, section_kinds, section_type, operator_type}
use Rattle.infer_expressions.specs.Entered.{SectionEntered, SectionRefused}

known : (old : Equations) → length old.kinds.items ≡ length (map kind_term old.kinds.items)
known old = sym (length-map old.kinds.items kind_term)

-- a type has kind `*` where unknowns have these kinds
abbrev IsStar : State → List KindTerm → ℕ → Plain → Type 0
IsStar old js v t = (G : Globals) → KnowsSyntax G → AreStars old.kinds (v ∷ []) → IsForm G (old.kinds ++ js) t star

entered : (old middle new : State) (js : List KindTerm) (v : ℕ) (t u a b : Plain) → middle ≡ with_unknowns old js
    → a ≡ t → b ≡ u → IsStar old js v t → IsStar old js v u → Equates middle new a b → HeadEntered old new js v t u
entered old middle new js v t u a b e p q f k h G K r s =
    subst (λ z. Equates z new t u) e (subst (λ z. Equates middle new z u) p (subst (λ z. Equates middle new a z) q h))
    G star (ready-with G old js r) (f G K s) (k G K s)

refused : (old middle : State) (js : List KindTerm) (v : ℕ) (t u a b : Plain) → middle ≡ with_unknowns old js
    → a ≡ t → b ≡ u → IsStar old js v t → IsStar old js v u → Refuses middle a b → HeadRefused old js v t u
refused old middle js v t u a b e p q f k h G K r s =
    subst (λ z. Refuses z t u) e (subst (λ z. Refuses middle z u) p (subst (λ z. Refuses middle a z) q h))
    G star (f G K s) (k G K s)

-- ---- functions

wanted_star : (old : State) (js : List KindTerm) (v : ℕ) → IsStar old js v (var v)
wanted_star old js v G K s = slice_get-front old.kinds js v star s.0

own_star : (old : State) (v m : ℕ) → IsStar old (function_kinds m) v (var (length old.kinds))
own_star old v m G K s = (new_stars old.kinds (suc m)).0

function_star : (old : State) (v m w : ℕ) → IsStar old (function_kinds m) v (var w)
    → IsStar old (function_kinds m) v (function_to old m w)
function_star old v m w h G K s = form-functions G K (old.kinds ++ function_kinds m) (unknowns (function_parts old m))
    (var w) (form-unknowns G K (old.kinds ++ function_kinds m) (function_parts old m) (new_stars old.kinds (suc m)).1)
    (h G K s)

function_state : (old mid : Equations) (m : ℕ) → mid.bindings ≡ old.bindings
    → mid.kinds.items ≡ old.kinds.items ++ Star ∷ replicate m Star
    → state_of mid ≡ with_unknowns (state_of old) (function_kinds m)
function_state old mid m s k = state_behind (state_of old) (state_of mid) (function_kinds m) s
    (kinds_behind old.kinds.items mid.kinds.items (suc m) k)

function_is : (old : Equations) (m w : ℕ) (ids slice : List ℕ) (result ty : Plain)
    → ids ≡ range_with_len (length old.kinds.items + 1) m → slice ≡ ids → result ≡ var w
    → ty ≡ plain_functions (unknowns slice) result → ty ≡ function_to (state_of old) m w
function_is old m w ids slice result ty i n r t = t ∙ ap (plain_functions (unknowns slice)) r
    ∙ ap (λ l. plain_functions (unknowns l) (var w)) (n ∙ i ∙ ap (λ a. range_with_len (a + 1) m) (known old))

-- the number of the first new unknown
own_is : (old : Equations) (own : ℕ) (t : Plain) → own ≡ length old.kinds.items → t ≡ var own
    → t ≡ var (length (map kind_term old.kinds.items))
own_is old own t o e = e ∙ ap (λ i. var i) (o ∙ known old)

pub application_ok : (old mid : Equations) (new : State) (v m own : ℕ) (ids slice : List ℕ) (front result ty : Plain)
    → mid.bindings ≡ old.bindings → mid.kinds.items ≡ old.kinds.items ++ Star ∷ replicate m Star
    → own ≡ length old.kinds.items → ids ≡ range_with_len (length old.kinds.items + 1) m → slice ≡ ids
    → front ≡ var own → result ≡ var v → ty ≡ plain_functions (unknowns slice) result
    → Equates (state_of mid) new front ty → ApplicationEntered (state_of old) new v m
application_ok old mid new v m own ids slice front result ty s k o i n f r t h =
    entered (state_of old) (state_of mid) new (function_kinds m) v (var (length (map kind_term old.kinds.items)))
    (function_to (state_of old) m v) front ty (function_state old mid m s k) (own_is old own front o f)
    (function_is old m v ids slice result ty i n r t) (own_star (state_of old) v m)
    (function_star (state_of old) v m v (wanted_star (state_of old) (function_kinds m) v)) h

pub application_err : (old mid : Equations) (v m own : ℕ) (ids slice : List ℕ) (front result ty : Plain)
    → mid.bindings ≡ old.bindings → mid.kinds.items ≡ old.kinds.items ++ Star ∷ replicate m Star
    → own ≡ length old.kinds.items → ids ≡ range_with_len (length old.kinds.items + 1) m → slice ≡ ids
    → front ≡ var own → result ≡ var v → ty ≡ plain_functions (unknowns slice) result
    → Refuses (state_of mid) front ty → ApplicationRefused (state_of old) v m
application_err old mid v m own ids slice front result ty s k o i n f r t h =
    refused (state_of old) (state_of mid) (function_kinds m) v (var (length (map kind_term old.kinds.items)))
    (function_to (state_of old) m v) front ty (function_state old mid m s k) (own_is old own front o f)
    (function_is old m v ids slice result ty i n r t) (own_star (state_of old) v m)
    (function_star (state_of old) v m v (wanted_star (state_of old) (function_kinds m) v)) h

pub function_ok : (old mid : Equations) (new : State) (v m own : ℕ) (ids slice : List ℕ) (front result ty : Plain)
    → mid.bindings ≡ old.bindings → mid.kinds.items ≡ old.kinds.items ++ Star ∷ replicate m Star
    → own ≡ length old.kinds.items → ids ≡ range_with_len (length old.kinds.items + 1) m → slice ≡ ids
    → front ≡ var v → result ≡ var own → ty ≡ plain_functions (unknowns slice) result
    → Equates (state_of mid) new front ty → FunctionEntered (state_of old) new v m
function_ok old mid new v m own ids slice front result ty s k o i n f r t h =
    let w = length (map kind_term old.kinds.items) in
    entered (state_of old) (state_of mid) new (function_kinds m) v (var v) (function_to (state_of old) m w) front ty
    (function_state old mid m s k) f (function_is old m w ids slice result ty i n (own_is old own result o r) t)
    (wanted_star (state_of old) (function_kinds m) v)
    (function_star (state_of old) v m w (own_star (state_of old) v m)) h

pub function_err : (old mid : Equations) (v m own : ℕ) (ids slice : List ℕ) (front result ty : Plain)
    → mid.bindings ≡ old.bindings → mid.kinds.items ≡ old.kinds.items ++ Star ∷ replicate m Star
    → own ≡ length old.kinds.items → ids ≡ range_with_len (length old.kinds.items + 1) m → slice ≡ ids
    → front ≡ var v → result ≡ var own → ty ≡ plain_functions (unknowns slice) result
    → Refuses (state_of mid) front ty → FunctionRefused (state_of old) v m
function_err old mid v m own ids slice front result ty s k o i n f r t h =
    let w = length (map kind_term old.kinds.items) in
    refused (state_of old) (state_of mid) (function_kinds m) v (var v) (function_to (state_of old) m w) front ty
    (function_state old mid m s k) f (function_is old m w ids slice result ty i n (own_is old own result o r) t)
    (wanted_star (state_of old) (function_kinds m) v)
    (function_star (state_of old) v m w (own_star (state_of old) v m)) h

-- ---- tests

one_state : (old mid : Equations) → mid.bindings ≡ old.bindings → mid.kinds.items ≡ old.kinds.items ++ Star ∷ []
    → state_of mid ≡ with_unknowns (state_of old) (star ∷ [])
one_state old mid s k = state_behind (state_of old) (state_of mid) (star ∷ []) s
    (kinds_behind old.kinds.items mid.kinds.items 1 k)

pub test_ok : (old mid : Equations) (new : State) (own : ℕ) (front ty : Plain) → mid.bindings ≡ old.bindings
    → mid.kinds.items ≡ old.kinds.items ++ Star ∷ [] → own ≡ length old.kinds.items → front ≡ var own
    → ty ≡ plain_boolean → Equates (state_of mid) new front ty → TestEntered (state_of old) new
test_ok old mid new own front ty s k o f t h G K r =
    let w = length (map kind_term old.kinds.items) in
    subst (λ z. Equates z new (var w) plain_boolean) (one_state old mid s k)
    (subst (λ z. Equates (state_of mid) new z plain_boolean) (own_is old own front o f)
    (subst (λ z. Equates (state_of mid) new front z) t h))
    G star (ready-with G (state_of old) (star ∷ []) r) (new_stars (map kind_term old.kinds.items) 1).0 K.boolean

pub test_err : (old mid : Equations) (own : ℕ) (front ty : Plain) → mid.bindings ≡ old.bindings
    → mid.kinds.items ≡ old.kinds.items ++ Star ∷ [] → own ≡ length old.kinds.items → front ≡ var own
    → ty ≡ plain_boolean → Refuses (state_of mid) front ty → TestRefused (state_of old)
test_err old mid own front ty s k o f t h G K r =
    let w = length (map kind_term old.kinds.items) in
    subst (λ z. Refuses z (var w) plain_boolean) (one_state old mid s k)
    (subst (λ z. Refuses (state_of mid) z plain_boolean) (own_is old own front o f)
    (subst (λ z. Refuses (state_of mid) front z) t h))
    G star (new_stars (map kind_term old.kinds.items) 1).0 K.boolean

-- ---- names

newest_star : (ks : List KindTerm) (x : Text) (w : ℕ) (env : List Binder) → IsNewest x w env → AllStar ks env
    → slice_get ks w ≡ Some star
newest_star ks x w [] h o = absurd h
newest_star ks x w (b ∷ env) (inl h) o = subst (λ i. slice_get ks i ≡ Some star) h.1 o.0
newest_star ks x w (b ∷ env) (inr h) o = newest_star ks x w env h.1 o.1

pub local_ok : (names : List Declared) (env : List Binder) (old new : State) (x : Text) (v w : ℕ) (own ty : Plain)
    → IsNewest x w env → own ≡ var v → ty ≡ var w → Equates old new own ty
    → ExpInferred names env old new (Local x) v
local_ok names env old new x v w own ty n p q h G K r o s = local_imposes G old new x w env v s.0 n
    (subst (λ z. Equates old new z (var w)) p (subst (λ z. Equates old new own z) q h) G star r s.0
    (newest_star old.kinds x w env n o))

pub local_err : (names : List Declared) (env : List Binder) (old : State) (x : Text) (v w : ℕ) (own ty : Plain)
    → IsNewest x w env → own ≡ var v → ty ≡ var w → Refuses old own ty → ExpRefused names env old (Local x) v
local_err names env old x v w own ty n p q h G K r o s = local_none G old x w env v n
    (subst (λ z. Refuses old z (var w)) p (subst (λ z. Refuses old own z) q h) G star s.0
    (newest_star old.kinds x w env n o))

pub local_unbound : (names : List Declared) (env : List Binder) (old : State) (x : Text) (v : ℕ) → IsUnbound x env
    → ExpRefused names env old (Local x) v
local_unbound names env old x v n G K r o s = unbound_none G old x env v n

instance_state : (old mid : Equations) (d : Declared) → mid.bindings ≡ old.bindings
    → mid.kinds.items ≡ (old.kinds.items ++ d.kinds.items) ++ []
    → state_of mid ≡ with_unknowns (state_of old) (kinds_of_declared d)
instance_state old mid d s k = state_behind (state_of old) (state_of mid) (kinds_of_declared d) s
    (ap (map kind_term) (k ∙ append-nil (old.kinds.items ++ d.kinds.items))
    ∙ map-append kind_term old.kinds.items d.kinds.items)

instance_is : (old : Equations) (d : Declared) (own : Plain)
    → own ≡ instance (map kind_term d.kinds.items) (length old.kinds.items) d.ty
    → own ≡ instance (kinds_of_declared d) (length (map kind_term old.kinds.items)) d.ty
instance_is old d own o = o ∙ ap (λ a. instance (kinds_of_declared d) a d.ty) (known old)

instance_star : (G : Globals) (old : State) (d : Declared) → Tells G d
    → IsForm G (old.kinds ++ kinds_of_declared d) (instance (kinds_of_declared d) (length old.kinds) d.ty) star
instance_star G old d T =
    instance-form G old.kinds (kinds_of_declared d) d.ty star T.least.fit T.noted (λ i o. (T.variables i).0 o)

pub global_ok : (names : List Declared) (env : List Binder) (old mid : Equations) (new : State) (n : OrigName) (v : ℕ)
    (d : Declared) (own ty : Plain) → Among d names → d.name ≡ n → mid.bindings ≡ old.bindings
    → mid.kinds.items ≡ (old.kinds.items ++ d.kinds.items) ++ []
    → own ≡ instance (map kind_term d.kinds.items) (length old.kinds.items) d.ty → ty ≡ var v
    → Equates (state_of mid) new own ty → ExpInferred names env (state_of old) new (Global n) v
global_ok names env old mid new n v d own ty a nm s k p q h G K r o w =
    let ks = kinds_of_declared d in
    let t = instance ks (length (map kind_term old.kinds.items)) d.ty in
    subst (λ z. Imposes G (has_type G (Global z) env v) (meant_type G (Global z) env v) [] (state_of old) new) nm
    (global_imposes G (state_of old) d (K.each d a) env v w.0 new r
    (subst (λ z. Equates z new t (var v)) (instance_state old mid d s k)
    (subst (λ z. Equates (state_of mid) new z (var v)) (instance_is old d own p)
    (subst (λ z. Equates (state_of mid) new own z) q h)) G star (ready-with G (state_of old) ks r)
    (instance_star G (state_of old) d (K.each d a))
    (slice_get-front (map kind_term old.kinds.items) ks v star w.0)))

pub global_err : (names : List Declared) (env : List Binder) (old mid : Equations) (n : OrigName) (v : ℕ)
    (d : Declared) (own ty : Plain) → Among d names → d.name ≡ n → mid.bindings ≡ old.bindings
    → mid.kinds.items ≡ (old.kinds.items ++ d.kinds.items) ++ []
    → own ≡ instance (map kind_term d.kinds.items) (length old.kinds.items) d.ty → ty ≡ var v
    → Refuses (state_of mid) own ty → ExpRefused names env (state_of old) (Global n) v
global_err names env old mid n v d own ty a nm s k p q h G K r o w =
    let ks = kinds_of_declared d in
    let t = instance ks (length (map kind_term old.kinds.items)) d.ty in
    subst (λ z. HasNone G (meant_type G (Global z) env v) (state_of old)) nm
    (global_none G (state_of old) d (K.each d a) env v w.0 r
    (subst (λ z. Refuses z t (var v)) (instance_state old mid d s k)
    (subst (λ z. Refuses (state_of mid) z (var v)) (instance_is old d own p)
    (subst (λ z. Refuses (state_of mid) own z) q h)) G star
    (instance_star G (state_of old) d (K.each d a))
    (slice_get-front (map kind_term old.kinds.items) ks v star w.0)))

pub global_unknown : (names : List Declared) (env : List Binder) (old : State) (n : OrigName) (v : ℕ)
    → IsUnknownName names n → ExpRefused names env old (Global n) v
global_unknown names env old n v h G K r o s = undeclared_none G old names n env v K h

-- ---- right sections

module _ (old : State) (v : ℕ) (G : Globals) (K : KnowsSyntax G) (s : AreStars old.kinds (v ∷ [])) where
  abbrev ks : List KindTerm
  ks = old.kinds ++ section_kinds

  abbrev n : ℕ
  n = length old.kinds

  stars : AreStars ks (range_with_len n 4)
  stars = new_stars old.kinds 4

  section_form : IsForm G ks (section_type old) star
  section_form = form-function G K ks (var n) (var (n + 1 + 1)) stars.0 stars.1.1.0

  operator_form : IsForm G ks (operator_type old) star
  operator_form = form-function G K ks (var n) (plain_function (var (n + 1)) (var (n + 1 + 1))) stars.0
      (form-function G K ks (var (n + 1)) (var (n + 1 + 1)) stars.1.0 stars.1.1.0)

  pub section_entered : (middle first new : State) → IsReady G old → middle ≡ with_unknowns old section_kinds
      → Equates middle first (var v) (section_type old)
      → Equates first new (var (n + 1 + 1 + 1)) (operator_type old)
      → (between : State) × Equated G (with_unknowns old section_kinds) between (var v) (section_type old)
      × Equated G between new (var (n + 1 + 1 + 1)) (operator_type old)
  section_entered middle first new r e h k =
      let one = subst (λ z. Equates z first (var v) (section_type old)) e h G star (ready-with G old section_kinds r)
      (slice_get-front old.kinds section_kinds v star s.0) section_form in (
        first,
        one,
        k G star one.ready (subst (λ z. slice_get z (n + 1 + 1 + 1) ≡ Some star) (sym one.same) stars.1.1.1.0)
            (subst (λ z. IsForm G z (operator_type old) star) (sym one.same) operator_form),
      )

  pub section_refused : (middle first : State) → IsReady G old → middle ≡ with_unknowns old section_kinds
      → Equates middle first (var v) (section_type old)
      → Refuses first (var (n + 1 + 1 + 1)) (operator_type old)
      → (between : State) × Equated G (with_unknowns old section_kinds) between (var v) (section_type old)
      × NotEqual G between (var (n + 1 + 1 + 1)) (operator_type old)
  section_refused middle first r e h k =
      let one = subst (λ z. Equates z first (var v) (section_type old)) e h G star (ready-with G old section_kinds r)
      (slice_get-front old.kinds section_kinds v star s.0) section_form in (
        first,
        one,
        k G star (subst (λ z. slice_get z (n + 1 + 1 + 1) ≡ Some star) (sym one.same) stars.1.1.1.0)
            (subst (λ z. IsForm G z (operator_type old) star) (sym one.same) operator_form),
      )

at_number : (old : Equations) (k : ℕ → ℕ) (i : ℕ) (t : Plain) → i ≡ k (length old.kinds.items) → t ≡ var i
    → t ≡ var (k (length (map kind_term old.kinds.items)))
at_number old k i t o e = e ∙ ap (λ j. var j) (o ∙ ap k (known old))

section_state : (old mid : Equations) → mid.bindings ≡ old.bindings
    → mid.kinds.items ≡ old.kinds.items ++ Star ∷ Star ∷ Star ∷ Star ∷ []
    → state_of mid ≡ with_unknowns (state_of old) section_kinds
section_state old mid s k = state_behind (state_of old) (state_of mid) section_kinds s
    (kinds_behind old.kinds.items mid.kinds.items 4 k)

-- what is known of the unknowns and types of a right section
pub record SectionHead (old mid : Equations) (v l r u w : ℕ) (whole from to ty front ends right rest left
    operator : Plain)
    : Type 0 where
  pub bindings : mid.bindings ≡ old.bindings
  pub kinds : mid.kinds.items ≡ old.kinds.items ++ Star ∷ Star ∷ Star ∷ Star ∷ []
  pub is_l : l ≡ length old.kinds.items
  pub is_r : r ≡ length old.kinds.items + 1
  pub is_u : u ≡ length old.kinds.items + 1 + 1
  pub is_w : w ≡ length old.kinds.items + 1 + 1 + 1
  pub is_whole : whole ≡ var v
  pub is_from : from ≡ var l
  pub is_to : to ≡ var u
  pub is_ty : ty ≡ plain_function from to
  pub is_front : front ≡ var w
  pub is_ends : ends ≡ var u
  pub is_right : right ≡ var r
  pub is_rest : rest ≡ plain_function right ends
  pub is_left : left ≡ var l
  pub is_operator : operator ≡ plain_function left rest

module _ (old mid : Equations) (v l r u w : ℕ) (whole from to ty front ends right rest left operator : Plain)
    (h : SectionHead old mid v l r u w whole from to ty front ends right rest left operator) where
  abbrev first_new : ℕ
  first_new = length (map kind_term old.kinds.items)

  type_is : ty ≡ section_type (state_of old)
  type_is = h.is_ty ∙ ap₂ plain_function (at_number old (λ i. i) l from h.is_l h.is_from)
      (at_number old (λ i. i + 1 + 1) u to h.is_u h.is_to)

  front_is : front ≡ var (first_new + 1 + 1 + 1)
  front_is = at_number old (λ i. i + 1 + 1 + 1) w front h.is_w h.is_front

  operator_is : operator ≡ operator_type (state_of old)
  operator_is = h.is_operator ∙ ap₂ plain_function (at_number old (λ i. i) l left h.is_l h.is_left)
      (h.is_rest ∙ ap₂ plain_function (at_number old (λ i. i + 1) r right h.is_r h.is_right)
      (at_number old (λ i. i + 1 + 1) u ends h.is_u h.is_ends))

  first_equates : (first : State) → Equates (state_of mid) first whole ty
      → Equates (state_of mid) first (var v) (section_type (state_of old))
  first_equates first e = subst (λ z. Equates (state_of mid) first z (section_type (state_of old))) h.is_whole
      (subst (λ z. Equates (state_of mid) first whole z) type_is e)

  pub section_ok : (first new : State) → Equates (state_of mid) first whole ty → Equates first new front operator
      → SectionEntered (state_of old) new v
  section_ok first new e k G K q s = section_entered (state_of old) v G K s (state_of mid) first new q
      (section_state old mid h.bindings h.kinds) (first_equates first e)
      (subst (λ z. Equates first new z (operator_type (state_of old))) front_is
      (subst (λ z. Equates first new front z) operator_is k))

  pub section_first_err : Refuses (state_of mid) whole ty → SectionRefused (state_of old) v
  section_first_err e G K q s = inl (subst (λ z. Refuses z (var v) (section_type (state_of old)))
      (section_state old mid h.bindings h.kinds)
      (subst (λ z. Refuses (state_of mid) z (section_type (state_of old))) h.is_whole
      (subst (λ z. Refuses (state_of mid) whole z) type_is e)) G star
      (slice_get-front (map kind_term old.kinds.items) section_kinds v star s.0)
      (section_form (state_of old) v G K s))

  pub section_then_err : (first : State) → Equates (state_of mid) first whole ty → Refuses first front operator
      → SectionRefused (state_of old) v
  section_then_err first e k G K q s = inr (section_refused (state_of old) v G K s (state_of mid) first q
      (section_state old mid h.bindings h.kinds) (first_equates first e)
      (subst (λ z. Refuses first z (operator_type (state_of old))) front_is
      (subst (λ z. Refuses first front z) operator_is k)))
