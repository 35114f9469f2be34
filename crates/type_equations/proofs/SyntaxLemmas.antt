-- Values and kinds of types with a syntax of their own.
use Rattle.std.proofs.Common.{◌≡◌, refl, sym, ap, ◌∙◌, ℕ, ◌≤◌, List, [], ◌∷◌, map}
use Rattle.std.specs.Prelude.{◌≢◌, replicate}
use Rattle.type_terms.specs.Terms.{var}
use Rattle.bp_base.specs.Specials.{special_name}
use Rattle.bp_base.specs.declared.special.Special.TheVariants as s
use Rattle.bp_base.specs.declared.ty.Space.TheVariants.{Types}
use Rattle.hs_core.specs.Types.{KindTerm, star, arrows, TypeAssignment, function, functions, tuple_of}
use Rattle.hs_core.specs.Types.{applied_to, special_type, count}
use Rattle.hs_core.specs.Globals.{Globals}
use Rattle.hs_core_laws.proofs.StabilityLemmas.{map-map, count-map}
use Rattle.type_unify.specs.Types.{Plain}
use Rattle.type_equations.specs.Coded.{IsForm, value, applied_at}
use Rattle.type_equations.specs.Syntax.{plain_name, plain_list, plain_function, plain_functions, plain_applied}
use Rattle.type_equations.specs.Syntax.{plain_tuple, unknowns, AreStars, KnowsSyntax}

pub value-plain_applied : (g : TypeAssignment) (t : Plain) (us : List Plain)
    → value g (plain_applied t us) ≡ applied_to (value g t) (map (value g) us)
value-plain_applied g t [] = refl
value-plain_applied g t (u ∷ us) = value-plain_applied g (applied_at star t u) us

pub value-tuple : (g : TypeAssignment) (us : List Plain) → value g (plain_tuple us) ≡ tuple_of (map (value g) us)
value-tuple g us = value-plain_applied g _ us
    ∙ ap (λ n. applied_to (special_type (s.Tuple n)) (map (value g) us)) (sym (count-map (value g) us))

pub value-functions : (g : TypeAssignment) (ts : List Plain) (u : Plain)
    → value g (plain_functions ts u) ≡ functions (map (value g) ts) (value g u)
value-functions g [] u = refl
value-functions g (t ∷ ts) u = ap (λ z. function (value g t) z) (value-functions g ts u)

pub value-unknowns : (g : TypeAssignment) (is : List ℕ) → map (value g) (unknowns is) ≡ map g is
value-unknowns g is = map-map (value g) (λ i. var i) g (λ i. refl) is

module _ (G : Globals) (K : KnowsSyntax G) (ks : List KindTerm) where
  abbrev pub AreForms : List Plain → Type 0
  AreForms [] = Unit {0}
  AreForms (t ∷ ts) = IsForm G ks t star × AreForms ts

  pub form-list : (t : Plain) → IsForm G ks t star → IsForm G ks (plain_list t) star
  form-list t h = (star, refl, K.list, h)

  pub form-function : (t u : Plain) → IsForm G ks t star → IsForm G ks u star → IsForm G ks (plain_function t u) star
  form-function t u p q = (star, refl, (star, refl, K.function, p), q)

  pub form-functions : (ts : List Plain) (u : Plain) → AreForms ts → IsForm G ks u star
      → IsForm G ks (plain_functions ts u) star
  form-functions [] u p q = q
  form-functions (t ∷ ts) u p q = form-function t (plain_functions ts u) p.0 (form-functions ts u p.1 q)

  pub form-unknowns : (is : List ℕ) → AreStars ks is → AreForms (unknowns is)
  form-unknowns [] h = tt
  form-unknowns (i ∷ is) h = (h.0, form-unknowns is h.1)

  pub form-applied : (t : Plain) (us : List Plain) → IsForm G ks t (arrows (replicate (count us) star) star)
      → AreForms us → IsForm G ks (plain_applied t us) star
  form-applied t [] h p = h
  form-applied t (u ∷ us) h p = form-applied (applied_at star t u) us (star, refl, h, p.0) p.1

  pub form-tuple : (us : List Plain) → count us ≤ 15 → count us ≢ 1 → AreForms us → IsForm G ks (plain_tuple us) star
  form-tuple us l n p = form-applied (plain_name (special_name Types (s.Tuple (count us)))) us
      ((K.tuple (count us)).1 (l, n)) p
