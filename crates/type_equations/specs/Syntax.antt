-- Types with a syntax of their own, and those of literals, with unknowns.
use Rattle.std.specs.Prelude.{◌≡◌, ◌↔◌, ℕ, ◌≤◌, ◌≢◌, List, [], ◌∷◌, map, codes, replicate, slice_get, Some}
use Rattle.bp_base.specs.Texts.{Text}
use Rattle.bp_base.specs.Specials.{base_prelude, special_name}
use Rattle.bp_base.specs.declared.special.Special.TheVariants as s
use Rattle.bp_base.specs.declared.ty.Space.TheVariants.{Types}
use Rattle.bp_base.specs.declared.ty.Kind.TheVariants.{Star}
use Rattle.bp_base.specs.declared.ty.OrigName.{OrigName}
use Rattle.type_terms.specs.Terms.{var, con}
use Rattle.hs_core.specs.Types.{KindTerm, star, arrow, arrows, count}
use Rattle.hs_core.specs.Globals.{Globals, plain_names}
use Rattle.type_unify.specs.Types.{Plain, named}
use Rattle.type_equations.specs.Coded.{applied_at}

abbrev pub base_name : Text → OrigName
base_name x = record { at = base_prelude; space = Types; occ = x }

abbrev pub plain_name : OrigName → Plain
plain_name n = con (named n Star)

abbrev pub plain_integer : Plain
plain_integer = plain_name (base_name (codes "Int"))

abbrev pub plain_character : Plain
plain_character = plain_name (base_name (codes "Char"))

abbrev pub plain_boolean : Plain
plain_boolean = plain_name (base_name (codes "Bool"))

-- `[t]`
abbrev pub plain_list : Plain → Plain
plain_list t = applied_at star (plain_name (special_name Types s.List)) t

-- `t -> u`
abbrev pub plain_function : Plain → Plain → Plain
plain_function t u = applied_at star (applied_at star (plain_name (special_name Types s.Arrow)) t) u

-- `t1 -> .. -> u`
abbrev pub plain_functions : List Plain → Plain → Plain
plain_functions [] u = u
plain_functions (t ∷ ts) u = plain_function t (plain_functions ts u)

-- a type applied to others of kind `*`
abbrev pub plain_applied : Plain → List Plain → Plain
plain_applied t [] = t
plain_applied t (u ∷ us) = plain_applied (applied_at star t u) us

-- `(t, u)`
abbrev pub plain_tuple : List Plain → Plain
plain_tuple us = plain_applied (plain_name (special_name Types (s.Tuple (count us)))) us

-- unknowns as types
abbrev pub unknowns : List ℕ → List Plain
unknowns is = map (λ i. var i) is

-- each of the unknowns stands for a type of kind `*`
abbrev pub AreStars : List KindTerm → List ℕ → Type 0
AreStars ks [] = Unit {0}
AreStars ks (i ∷ is) = (slice_get ks i ≡ Some star) × AreStars ks is

-- the types with a syntax of their own, and those of literals, are known with their kinds; tuples have up to 15 parts,
-- and none has one
pub record KnowsSyntax (G : Globals) : Type 0 where
  pub integer : plain_names G (base_name (codes "Int")) star
  pub character : plain_names G (base_name (codes "Char")) star
  pub boolean : plain_names G (base_name (codes "Bool")) star
  pub list : plain_names G (special_name Types s.List) (arrow star star)
  pub function : plain_names G (special_name Types s.Arrow) (arrow star (arrow star star))
  pub tuple : (n : ℕ) → plain_names G (special_name Types (s.Tuple n)) (arrows (replicate n star) star)
      ↔ (n ≤ 15) × (n ≢ 1)
