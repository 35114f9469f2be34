-- Lists of names as the program keeps them, and as the definitions of names of modules have them.
use Rattle.std.specs.Prelude.{◌≡◌, ℕ, zero, suc, List, [], ◌∷◌, ◌++◌, flat_map, Option, Some, None}
use Rattle.std.specs.Prelude.{if◌then◌else◌}
use Rattle.bp_base.specs.Texts.{Text}
use Rattle.bp_base.specs.Specials.{base_prelude, special_name}
use Rattle.bp_base.specs.declared.special.Special.{Special}
use Rattle.bp_base.specs.declared.special.Special.TheVariants as s
use Rattle.bp_base.specs.declared.ty.Space.TheVariants.{Types, Values}
use Rattle.bp_base.specs.declared.ty.OrigName.{OrigName}
use Rattle.hs_core.specs.Sameness.{same_original}
use Rattle.bp_base.specs.declared.entity.Field.{Field}
use Rattle.bp_base.specs.declared.entity.Con.{Con}
use Rattle.hs_core.specs.Types.{KindTerm, star, function, integer}
use Rattle.hs_core.specs.Globals.{Named, type_name, value_name, constructor_name, kind_in, synonym_in, special_kind}
use Rattle.hs_core.specs.Globals.{special_constructor, negate, noted_in}
use Rattle.kind_check.specs.declared.scope.Known.{Known}
use Rattle.kind_check.specs.Scopes.{sense_kind}
use Rattle.kind_check.specs.Answers.{sense_synonym}

-- the entry says of the name what kinds and expansion ask
pub record Lists (x : Named) (e : Known) : Type 0 where
  pub named : e.name ≡ x.name
  pub kind : sense_kind e.sense ≡ kind_in (Some x.means)
  pub synonym : sense_synonym e.sense ≡ synonym_in (Some x.means)

abbrev pub AreListed : List Named → List Known → Type 0
AreListed [] es = es ≡ []
AreListed (x ∷ xs) [] = ⊥
AreListed (x ∷ xs) (e ∷ es) = Lists x e × AreListed xs es

-- these names joined the others
pub record Adds (xs : List Named) (old new : List Known) : Type 0 where
  pub more : List Known
  pub behind : new ≡ old ++ more
  pub listed : AreListed xs more

-- the kind that the first meaning of a name has
abbrev pub known_kind : List Known → OrigName → Option KindTerm
known_kind [] n = None
known_kind (e ∷ es) n = if same_original e.name n then sense_kind e.sense else known_kind es n

-- ---- names that are known everywhere

abbrev pub type_of_special : Special → Named
type_of_special x = record { name = special_name Types x; means = type_name (special_kind x) }

abbrev pub value_of_special : Special → Named
value_of_special x = record { name = special_name Values x; means = constructor_name (special_constructor x) }

abbrev pub base_type_of : Text → Named
base_type_of x = record { name = record { at = base_prelude; space = Types; occ = x }; means = type_name star }

abbrev pub negate_names : List Named
negate_names = record { name = negate; means = value_name (function integer integer) } ∷ []

abbrev pub nth_type : ℕ → Special
nth_type zero = s.Arrow
nth_type (suc zero) = s.List
nth_type (suc (suc zero)) = s.Unit
nth_type (suc (suc (suc n))) = s.Tuple (suc (suc n))

abbrev pub nth_value : ℕ → Special
nth_value zero = s.Cons
nth_value (suc zero) = s.List
nth_value (suc (suc zero)) = s.Unit
nth_value (suc (suc (suc n))) = s.Tuple (suc (suc n))

-- the first so many, as a function counts them
abbrev pub firsts : (ℕ → Special) → ℕ → List Special
firsts f zero = []
firsts f (suc n) = firsts f n ++ f n ∷ []

-- ---- names that types note

abbrev pub noted_in_field : Field → List Named
noted_in_field f = noted_in f.ty

abbrev pub noted_in_con : Con → List Named
noted_in_con c = flat_map noted_in_field c.fields
