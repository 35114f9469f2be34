-- The arms of the walk through a written type.
use Rattle.std.proofs.Common.{◌≡◌, ℕ, suc, ◌+◌, ◌≤◌, List, refl, sym, ap, ap₂, subst, ◌∙◌, arith}
use Rattle.std.specs.Prelude.{Result, Ok, Err, IfErr}
use Rattle.bp_base.specs.declared.ty.OrigName.{OrigName}
use Rattle.bp_base.specs.declared.ty.Kind.{Kind}
use Rattle.bp_base.specs.declared.ty.Kind.TheVariants.{Arrow}
use Rattle.bp_base.specs.Texts.{Text}
use Rattle.hs_core.specs.declared.tree.Written.{Written}
use Rattle.hs_core.specs.declared.tree.Written.TheVariants.{WVar, WCon, WApp}
use Rattle.type_terms.specs.Terms.{var, app}
use Rattle.hs_core.specs.Types.{arrow, kind_term, written_term, place, count}
use Rattle.type_unify.specs.Types.{Plain, Bound}
use Rattle.kind_check.specs.Forms.{value, IsForm, AreReady, Equated, NotEqual}
use Rattle.kind_check.specs.Scopes.{names_under, variables_under, decls_of, HasForm, HasNoForm, IsVariableForm}
use Rattle.kind_check.specs.Walks.{Imposes, NoGuess, fits, fits_under, Local}
use Rattle.kind_check.specs.declared.scope.Known.{Known}
use Rattle.kind_check.specs.declared.scope.GroupDecl.{GroupDecl}
use Rattle.kind_check.proofs.WalkLemmas.{leaf, leaf_none, application, function_none, argument_none}
use Rattle.kind_check.proofs.ScopeLemmas.{local}
use Rattle.hs_core.specs.declared.tree.Written.TheBlock.{hidden-the_row-Written-0}
use Rattle.bp_base.specs.declared.ty.Kind.TheBlock.{hidden-the_row-Kind-0}
use denote.Hole.Carrier.{hidden}

pub IfErr-then : {X E : Type 0} {P Q : E → Type 0} → (r : Result X E) → ((e : E) → P e → Q e) → IfErr r P → IfErr r Q
IfErr-then (Ok x) f h = h
IfErr-then (Err e) f h = f e h

pub written_app : (ps : List Text) (f a : Written)
    → written_term ps (WApp f a) ≡ app (written_term ps f) (written_term ps a)
unfolding hidden-the_row-Written-0 hidden
written_app ps f a = refl

pub kind_arrow : (f t : Kind) → kind_term (Arrow f t) ≡ arrow (kind_term f) (kind_term t)
unfolding hidden-the_row-Kind-0 hidden
kind_arrow f t = refl

pub written : (ps : List Text) (ty f a g b : Written) → ty ≡ WApp f a → g ≡ f → b ≡ a
    → written_term ps ty ≡ app (written_term ps g) (written_term ps b)
written ps ty f a g b is p q =
    ap (written_term ps) is ∙ written_app ps f a ∙ ap₂ app (ap (written_term ps) (sym p)) (ap (written_term ps) (sym q))

pub variable_ok : (known : List Known) (ds : List GroupDecl) (ps : List Text) (first n : ℕ) (ty : Written) (x : Text)
    (old new : List Bound) (s k : Plain) → ty ≡ WVar x
    → IsVariableForm first (count ps) (place ps x) (first + count ps) s → Equated old new n s k
    → Imposes (fits_under known ds ps first ty k) old new n n
variable_ok known ds ps first n ty x old new s k is v e =
    subst (λ t. Imposes (fits (names_under known ds) (variables_under first (count ps)) t k) old new n n)
    (sym (ap (written_term ps) is))
    (leaf _ old new n s k (λ g h. v.each g ∙ h) (λ g h. sym (v.each g) ∙ h) e)

pub variable_none : (known : List Known) (ds : List GroupDecl) (ps : List Text) (first : ℕ) (ty : Written) (x : Text)
    (old : List Bound) (s k : Plain) → ty ≡ WVar x
    → IsVariableForm first (count ps) (place ps x) (first + count ps) s → NotEqual old s k
    → NoGuess (fits_under known ds ps first ty k) old
variable_none known ds ps first ty x old s k is v e =
    subst (λ t. NoGuess (fits (names_under known ds) (variables_under first (count ps)) t k) old)
    (sym (ap (written_term ps) is))
    (leaf_none _ old s k (λ g h. sym (v.each g) ∙ h) e)

pub name_ok : (known : List Known) (ds : List GroupDecl) (ps : List Text) (first n : ℕ) (ty : Written) (x : OrigName)
    (old new : List Bound) (s k : Plain) → ty ≡ WCon x
    → HasForm known ds x (count (decls_of ds)) s → Equated old new n s k
    → Imposes (fits_under known ds ps first ty k) old new n n
name_ok known ds ps first n ty x old new s k is v e =
    subst (λ t. Imposes (fits (names_under known ds) (variables_under first (count ps)) t k) old new n n)
    (sym (ap (written_term ps) is))
    (leaf _ old new n s k (λ g h. (v.each g (value g k)).1 h) (λ g h. (v.each g (value g k)).0 h) e)

pub name_none : (known : List Known) (ds : List GroupDecl) (ps : List Text) (first : ℕ) (ty : Written) (x : OrigName)
    (old : List Bound) (s k : Plain) → ty ≡ WCon x
    → HasForm known ds x (count (decls_of ds)) s → NotEqual old s k → NoGuess (fits_under known ds ps first ty k) old
name_none known ds ps first ty x old s k is v e =
    subst (λ t. NoGuess (fits (names_under known ds) (variables_under first (count ps)) t k) old)
    (sym (ap (written_term ps) is))
    (leaf_none _ old s k (λ g h. (v.each g (value g k)).0 h) e)

-- what the walk knows before an application
pub record Ready (known : List Known) (ds : List GroupDecl) (ps : List Text) (first n : ℕ) (old : List Bound)
    (k : Plain) : Type 0 where
  pub ready : AreReady old n
  pub form : IsForm n k
  pub group : count (decls_of ds) ≤ n
  pub params : first + count ps ≤ n

-- the new unknown, and the kind that the function is to have
pub record Expects (n id next : ℕ) (k u expected argument : Plain) : Type 0 where
  pub is_next : id ≡ n
  pub more : next ≡ n + 1
  pub unknown : u ≡ var id
  pub expects : expected ≡ app u k
  pub takes : argument ≡ var id

function_at : (known : List Known) (ds : List GroupDecl) (ps : List Text) (first n id next m : ℕ) (f : Written)
    (k u e a : Plain) (old mid : List Bound) → Expects n id next k u e a
    → Imposes (fits_under known ds ps first f e) old mid next m
    → Imposes (fits_under known ds ps first f (app (var n) k)) old mid (suc n) m
function_at known ds ps first n id next m f k u e a old mid x h =
    let l : next ≡ suc n = omega (arith, x.more) in
    subst (λ y. Imposes (fits_under known ds ps first f y) old mid (suc n) m)
    (x.expects ∙ ap (λ v. app v k) (x.unknown ∙ ap var x.is_next))
    (subst (λ y. Imposes (fits_under known ds ps first f e) old mid y m) l h)

local_at : (known : List Known) (ds : List GroupDecl) (ps : List Text) (first n : ℕ) (old : List Bound) (k : Plain)
    → Ready known ds ps first n old k → Local (names_under known ds) (variables_under first (count ps)) n
local_at known ds ps first n old k r = local known ds first (count ps) n r.group r.params

pub application_ok : (known : List Known) (ds : List GroupDecl) (ps : List Text) (first n id next m last : ℕ)
    (ty f a g b : Written) (k u e v : Plain) (old mid new : List Bound)
    → ty ≡ WApp f a → g ≡ f → b ≡ a → Ready known ds ps first n old k → Expects n id next k u e v
    → Imposes (fits_under known ds ps first g e) old mid next m
    → Imposes (fits_under known ds ps first b v) mid new m last
    → Imposes (fits_under known ds ps first ty k) old new n last
application_ok known ds ps first n id next m last ty f a g b k u e v old mid new is p q r x one two =
    subst (λ t. Imposes (fits (names_under known ds) (variables_under first (count ps)) t k) old new n last)
    (sym (written ps ty f a g b is p q))
    (application _ _ (written_term ps g) (written_term ps b) k old mid new n m last
    (local_at known ds ps first n old k r) r.form r.ready
    (function_at known ds ps first n id next m g k u e v old mid x one)
    (subst (λ y. Imposes (fits_under known ds ps first b y) mid new m last) (x.takes ∙ ap var x.is_next) two))

pub function_ill : (known : List Known) (ds : List GroupDecl) (ps : List Text) (first n id next : ℕ)
    (ty f a g : Written) (k u e v : Plain) (old : List Bound)
    → ty ≡ WApp f a → g ≡ f → Ready known ds ps first n old k → Expects n id next k u e v
    → NoGuess (fits_under known ds ps first g e) old → NoGuess (fits_under known ds ps first ty k) old
function_ill known ds ps first n id next ty f a g k u e v old is p r x none =
    subst (λ t. NoGuess (fits (names_under known ds) (variables_under first (count ps)) t k) old)
    (sym (written ps ty f a g a is p refl))
    (function_none _ _ (written_term ps g) (written_term ps a) k old n (local_at known ds ps first n old k r)
    r.form r.ready
    (subst (λ y. NoGuess (fits_under known ds ps first g y) old)
    (x.expects ∙ ap (λ v. app v k) (x.unknown ∙ ap var x.is_next)) none))

pub argument_ill : (known : List Known) (ds : List GroupDecl) (ps : List Text) (first n id next m : ℕ)
    (ty f a g b : Written) (k u e v : Plain) (old mid : List Bound)
    → ty ≡ WApp f a → g ≡ f → b ≡ a → Ready known ds ps first n old k → Expects n id next k u e v
    → Imposes (fits_under known ds ps first g e) old mid next m → NoGuess (fits_under known ds ps first b v) mid
    → NoGuess (fits_under known ds ps first ty k) old
argument_ill known ds ps first n id next m ty f a g b k u e v old mid is p q r x one none =
    subst (λ t. NoGuess (fits (names_under known ds) (variables_under first (count ps)) t k) old)
    (sym (written ps ty f a g b is p q))
    (argument_none _ _ (written_term ps g) (written_term ps b) k old mid n m (local_at known ds ps first n old k r)
    r.form r.ready
    (function_at known ds ps first n id next m g k u e v old mid x one)
    (subst (λ y. NoGuess (fits_under known ds ps first b y) mid) (x.takes ∙ ap var x.is_next) none))
