-- What names and variables mean while kinds are unknown.
use Rattle.std.specs.Prelude.{◌≡◌, ◌≢◌, ◌↔◌, ◌⊎◌, ℕ, zero, suc, ◌<◌, List, [], ◌∷◌, Option, Some, None}
use Rattle.bp_base.specs.declared.ty.OrigName.{OrigName}
use Rattle.bp_base.specs.Texts.{Text}
use Rattle.hs_core.specs.Types.{KindTerm, TypeTerm, count, written_term, kind_term}
use Rattle.hs_core.specs.WellTyped.{field_terms}
use Rattle.hs_core.specs.Kinds.{NameKinds, TypeDecl, kind_at, within_group, IsOutside}
use Rattle.type_unify.specs.Types.{Plain}
use Rattle.kind_check.specs.Forms.{Guess, IsForm, value}
use Rattle.hs_core.specs.declared.tree.FieldDecl.{FieldDecl}
use Rattle.kind_check.specs.declared.scope.Known.{Known}
use Rattle.kind_check.specs.declared.scope.GroupDecl.{GroupDecl}
use Rattle.kind_check.specs.declared.scope.Says.{Says}
use Rattle.kind_check.specs.declared.scope.Says.TheVariants.{Fields, Synonym}
use Rattle.hs_core.specs.Kinds.{Meaning, fields, synonym}
use Rattle.std.specs.Prelude.{map, flat_map}
use Rattle.kind_check.specs.declared.scope.Sense.{Sense}
use Rattle.kind_check.specs.declared.scope.Sense.TheVariants.{TypeOf, SynonymOf, Other}

-- two guesses agree below n
abbrev pub Agree : ℕ → Guess → Guess → Type 0
Agree n g h = (i : ℕ) → i < n → g i ≡ h i

-- the kinds of so many unknowns, from one on
abbrev pub guessed : Guess → ℕ → ℕ → List KindTerm
guessed g i zero = []
guessed g i (suc m) = g i ∷ guessed g (suc i) m

-- the kind that a meaning has
abbrev pub sense_kind : Sense → Option KindTerm
sense_kind (TypeOf k) = Some (kind_term k)
sense_kind (SynonymOf k p b) = Some (kind_term k)
sense_kind Other = None

-- of several meanings of a name the first counts
abbrev pub known_names : List Known → NameKinds
known_names [] n k = ⊥
known_names (e ∷ es) n k = ((e.name ≡ n) × (sense_kind e.sense ≡ Some k)) ⊎ ((e.name ≢ n) × known_names es n k)

-- a field's type
abbrev pub field_term : List Text → FieldDecl → TypeTerm
field_term ps f = written_term ps f.ty

abbrev pub meaning_of : List Text → Says → Meaning
meaning_of ps (Fields cs) = fields (flat_map (field_terms ps) cs)
meaning_of ps (Synonym t) = synonym (written_term ps t)

abbrev pub decl_of : GroupDecl → TypeDecl
decl_of d = record { name = d.name; params = count d.params; meaning = meaning_of d.params d.says }

abbrev pub decls_of : List GroupDecl → List TypeDecl
decls_of ds = map decl_of ds

-- what names have which kinds where the unknowns from 0 on are those of the group's names
abbrev pub names_under : List Known → List GroupDecl → Guess → NameKinds
names_under known ds g = within_group (known_names known) (decls_of ds) (guessed g 0 (count (decls_of ds)))

-- the kinds of parameters whose unknowns stand from one on
abbrev pub variables_under : ℕ → ℕ → Guess → ℕ → KindTerm
variables_under first m g = kind_at (guessed g first m)

-- the name's kind, whatever the unknowns are
pub record HasForm (known : List Known) (ds : List GroupDecl) (n : OrigName) (next : ℕ) (t : Plain) : Type 0 where
  pub form : IsForm next t
  pub each : (g : Guess) (k : KindTerm) → names_under known ds g n k ↔ (value g t ≡ k)

abbrev pub HasNoForm : List Known → List GroupDecl → OrigName → Type 0
HasNoForm known ds n = (g : Guess) (k : KindTerm) → names_under known ds g n k → ⊥

pub record IsVariableForm (first m i next : ℕ) (t : Plain) : Type 0 where
  pub form : IsForm next t
  pub each : (g : Guess) → variables_under first m g i ≡ value g t

-- the first declaration of the name has this number
abbrev pub StandsAt : List TypeDecl → OrigName → ℕ → Type 0
StandsAt [] n i = ⊥
StandsAt (d ∷ ds) n zero = d.name ≡ n
StandsAt (d ∷ ds) n (suc i) = (d.name ≢ n) × StandsAt ds n i

abbrev pub IsPlace : List TypeDecl → OrigName → Option ℕ → Type 0
IsPlace ds n (Some i) = StandsAt ds n i × (i < count ds)
IsPlace ds n None = IsOutside ds n

abbrev pub NameForm : List Known → List GroupDecl → OrigName → Option Plain → Type 0
NameForm known ds n (Some t) = HasForm known ds n (count (decls_of ds)) t
NameForm known ds n None = HasNoForm known ds n

-- this is the first kind that is known of a name
abbrev pub IsKnown : List Known → OrigName → KindTerm → Type 0
IsKnown known n k = (j : KindTerm) → known_names known n j ↔ (k ≡ j)

abbrev pub IsUnknown : List Known → OrigName → Type 0
IsUnknown known n = (k : KindTerm) → known_names known n k → ⊥
