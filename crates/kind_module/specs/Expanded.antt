-- Entities with their types expanded, and the kinds of names noted at them.
use Rattle.std.specs.Prelude.{◌≡◌, ◌⊎◌, ◌≤◌, ◌<◌, ℕ, List, [], ◌∷◌, Option, Some, None, unwrap_or}
use Rattle.bp_base.specs.Texts.{Text}
use Rattle.bp_base.specs.declared.ty.OrigName.{OrigName}
use Rattle.bp_base.specs.declared.ty.Ty.{Ty}
use Rattle.bp_base.specs.declared.ty.Ty.TheVariants.{Var, Con, App', App}
use Rattle.bp_base.specs.declared.ty.Ty.TheBlock.{more_of-Ty, end_of-Ty}
use Rattle.std.specs.Prelude.{Bool}
use Rattle.bp_base.specs.declared.ty.Kind.{Kind}
use Rattle.bp_base.specs.declared.entity.Fixity.{Fixity}
use Rattle.bp_base.specs.declared.ty.Scheme.{Scheme}
use Rattle.bp_base.specs.declared.entity.Field.{Field}
use Rattle.bp_base.specs.declared.entity.Con.{Con as Constructor}
use Rattle.bp_base.specs.declared.entity.Entity.{Entity}
use Rattle.bp_base.specs.declared.entity.Entity.TheVariants.{Abstract, DataType, Synonym, Value}
use Rattle.bp_checks.specs.Check.{Check, ◌>>=◌, given, each}
use Rattle.hs_core.specs.Types.{KindTerm, star, TypeTerm, kind_term, type_term, depth, count}
use Rattle.hs_core.specs.Expansion.{Synonyms, Expands}
use Rattle.hs_core.specs.Matching.{variables_met, number_in}
use Rattle.kind_module.specs.Faults.{KindFault, Misused, TooDeep}
use Rattle.kind_module.specs.Tests.{Kinds}

-- each name in a type notes its kind; a name that has none, which no well kinded type mentions, notes `*`
abbrev pub AreNoted : Kinds → Ty → Type 0
AreNoted K (Var i) = Unit {0}
AreNoted K (Con n k) = kind_term k ≡ unwrap_or (K n) star
AreNoted K (App' s (more_of-Ty f end_of-Ty) z (more_of-Ty a end_of-Ty)) = AreNoted K f × AreNoted K a

abbrev pub IsNoDeeper : Option ℕ → TypeTerm → Type 0
IsNoDeeper None t = Unit {0}
IsNoDeeper (Some most) t = depth t ≤ most

abbrev pub IsDeeper : Option ℕ → TypeTerm → Type 0
IsDeeper None t = ⊥
IsDeeper (Some most) t = most < depth t

-- The expansion of a type, with the kinds of its names, where it is no deeper than the limit. It is of the declaration of
-- this name, which is refused where there is no expansion.
unfoldable pub type_gives : Option ℕ → Kinds → Synonyms → Text → Ty → Check Ty KindFault
type_gives most K S x t = record {
  passes = λ u. Expands S (type_term t) (type_term u) × IsNoDeeper most (type_term u) × AreNoted K u;
  fails = λ r. (((u : TypeTerm) → Expands S (type_term t) u → ⊥) × (r ≡ Misused x))
      ⊎ ((u : TypeTerm) × Expands S (type_term t) u × IsDeeper most u × (r ≡ TooDeep));
}

-- the type with its variables numbered by a list
abbrev pub renumbered : List ℕ → Ty → Ty
renumbered met (Var i) = Var (number_in met i)
renumbered met (Con n k) = Con n k
renumbered met (App' s (more_of-Ty f end_of-Ty) z (more_of-Ty a end_of-Ty)) = App (renumbered met f) (renumbered met a)

-- the scheme of a type, its variables numbered by first occurrence
abbrev pub scheme_of : Ty → Scheme
scheme_of t = record {
  vars = count (variables_met [] (type_term t));
  body = renumbered (variables_met [] (type_term t)) t;
}

abbrev pub field_gives : Option ℕ → Kinds → Synonyms → Text → Field → Check Field KindFault
field_gives most K S x f = type_gives most K S x f.ty >>= λ t. given (record { strict = f.strict; ty = t })

unfoldable pub fields_give : Option ℕ → Kinds → Synonyms → Text → List Field → Check (List Field) KindFault
fields_give most K S x fs = each fs (λ done f. field_gives most K S x f)

abbrev pub con_gives : Option ℕ → Kinds → Synonyms → Text → Constructor → Check Constructor KindFault
con_gives most K S x c = fields_give most K S x c.fields
    >>= λ fs. given (record { occ = c.occ; fields = fs; fixity = c.fixity })

unfoldable pub cons_give : Option ℕ → Kinds → Synonyms → Text → List Constructor → Check (List Constructor) KindFault
cons_give most K S x cs = each cs (λ done c. con_gives most K S x c)

abbrev pub data_gives : Option ℕ → Kinds → Synonyms → OrigName → Kind → ℕ → Bool → List Constructor
    → Check Entity KindFault
data_gives most K S n k p w cs = cons_give most K S n.occ cs >>= λ ds. given (DataType n k p w ds)

abbrev pub synonym_gives : Option ℕ → Kinds → Synonyms → OrigName → Kind → ℕ → Ty → Check Entity KindFault
synonym_gives most K S n k p t = type_gives most K S n.occ t >>= λ u. given (Synonym n k p u)

abbrev pub value_gives : Option ℕ → Kinds → Synonyms → OrigName → Ty → Fixity → Check Entity KindFault
value_gives most K S n t f = type_gives most K S n.occ t >>= λ u. given (Value n (scheme_of u) f)

-- an entity with its types expanded; those of a value are numbered by first occurrence
abbrev pub entity_gives : Option ℕ → Kinds → Synonyms → Entity → Check Entity KindFault
entity_gives most K S (Abstract n k) = given (Abstract n k)
entity_gives most K S (DataType n k p w cs) = data_gives most K S n k p w cs
entity_gives most K S (Synonym n k p t) = synonym_gives most K S n k p t
entity_gives most K S (Value n c f) = value_gives most K S n c.body f

-- entities in order
unfoldable pub entities_give : Option ℕ → Kinds → Synonyms → List Entity → Check (List Entity) KindFault
entities_give most K S es = each es (λ done e. entity_gives most K S e)
