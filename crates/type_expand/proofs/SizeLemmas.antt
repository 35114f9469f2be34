-- How large types are, and how large synonyms' bodies can be.
use Rattle.std.proofs.Common.{◌≡◌, ℕ, zero, suc, ◌+◌, ◌*◌, ◌-◌, ◌<◌, ◌≤◌, Bool, true, false, List, [], ◌∷◌, refl, sym}
use Rattle.std.proofs.Common.{ap}
use Rattle.std.proofs.Common.{subst, ◌∙◌, arith}
use Rattle.std.specs.Prelude.{Option, Some, None}
use Rattle.bp_base.specs.declared.ty.OrigName.{OrigName}
use Rattle.bp_base.specs.declared.ty.Kind.{Kind}
use Rattle.bp_base.specs.declared.ty.Ty.{Ty}
use Rattle.bp_base.specs.declared.ty.Ty.TheVariants.{App, Con}
use Rattle.type_terms.specs.Terms.{var, con, app}
use Rattle.hs_core.specs.Types.{TypeTerm, type_term}
use Rattle.hs_core.specs.Expansion.{Synonym}
use Rattle.hs_core.specs.Sameness.{same_original}
use Rattle.kind_check.specs.declared.scope.Known.{Known}
use Rattle.kind_check.specs.Answers.{known_synonyms, sense_synonym}
use Rattle.type_expand.proofs.TypeLemmas.{type_app}

abbrev pub size : TypeTerm → ℕ
size (var i) = 1
size (con n) = 1
size (app f a) = suc (size f + size a)

abbrev pub synonym_size : Option Synonym → ℕ
synonym_size None = 0
synonym_size (Some s) = size s.body

-- the sizes of all bodies together
abbrev pub sizes : List Known → ℕ
sizes [] = 0
sizes (e ∷ es) = synonym_size (sense_synonym e.sense) + sizes es

pub size-positive : (t : TypeTerm) → 1 ≤ size t
size-positive (var i) = omega arith
size-positive (con n) = omega arith
size-positive (app f a) = omega arith

pub found_size : (es : List Known) (n : OrigName) → synonym_size (known_synonyms es n) ≤ sizes es
found_size [] n = omega arith
found_size (e ∷ es) n = go (same_original e.name n) refl (found_size es n)
  where
    go : (b : Bool) → same_original e.name n ≡ b → synonym_size (known_synonyms es n) ≤ sizes es
        → synonym_size (known_synonyms (e ∷ es) n) ≤ sizes (e ∷ es)
    go true p h = rw p (omega arith)
    go false p h = rw p (omega (arith, h))

-- the measure: the type's size, and for each synonym that may still be met the size of all bodies
abbrev pub measure : List Known → TypeTerm → ℕ → ℕ
measure es t fuel = size t + fuel * suc (sizes es)

pub arg_smaller : (es : List Known) (fuel : ℕ) (ty f a b : Ty) → ty ≡ App f a → b ≡ a
    → measure es (type_term b) fuel < measure es (type_term ty) fuel
arg_smaller es fuel ty f a b e q =
    let x = ap type_term q in
    let y = ap size (ap type_term e ∙ type_app f a) in
    let z = ap size x in
    let p = size-positive (type_term f) in
    omega (arith, y, z, p)

pub fun_smaller : (es : List Known) (fuel : ℕ) (ty f a g : Ty) → ty ≡ App f a → g ≡ f
    → measure es (type_term g) fuel < measure es (type_term ty) fuel
fun_smaller es fuel ty f a g e q =
    let x = ap type_term q in
    let y = ap size (ap type_term e ∙ type_app f a) in
    let z = ap size x in
    let p = size-positive (type_term a) in
    omega (arith, y, z, p)

body_less : (m s t fuel : ℕ) → s ≤ m → 1 ≤ fuel → s + (fuel - 1) * suc m < suc t + fuel * suc m
body_less m s t zero l p = absurd (omega (arith, p))
body_less m s t (suc k) l p =
    let e : suc k - 1 ≡ k = omega arith in rw e (omega (arith, l))

pub body_smaller : (es : List Known) (n : OrigName) (k : Kind) (p fuel : ℕ) (ty b : Ty) → ty ≡ Con n k
    → known_synonyms es n ≡ Some (record { params = p; body = type_term b }) → 1 ≤ fuel
    → measure es (type_term b) (fuel - 1) < measure es (type_term ty) fuel
body_smaller es n k p fuel ty b e q l =
    let h = found_size es n in
    let s : size (type_term b) ≤ sizes es = subst (λ o. synonym_size o ≤ sizes es) q h in
    subst (λ t. measure es (type_term b) (fuel - 1) < measure es (type_term t) fuel) (sym e)
    (body_less (sizes es) (size (type_term b)) 0 fuel s l)

pub some : (n : ℕ) → (n ≡ 0 → ⊥) → 1 ≤ n
some zero h = absurd (h refl)
some (suc n) h = omega arith
