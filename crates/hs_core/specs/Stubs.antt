-- When a stub module is well typed: a hole as a module that declares exactly the entries of its merged signature
-- (Kilpatrick and
-- others, POPL 2014). Its values have types and no bindings.
use Rattle.std.specs.Prelude.{ℕ, suc, List, [], ◌∷◌, ◌++◌, map, flat_map}
use Rattle.std.specs.Option.{option_or}
use Rattle.bp_base.specs.Lists.{AreDistinct}
use Rattle.bp_base.specs.declared.entity.Con.{Con}
use Rattle.bp_base.specs.declared.entity.Entity.{Entity}
use Rattle.bp_base.specs.declared.entity.Entity.TheVariants.{Abstract, DataType, Synonym, Value}
use Rattle.hs_core.specs.Types.{KindTerm, star, arrow, TypeTerm, kind_term, type_term}
use Rattle.hs_core.specs.Kinds.{HasKind, fields, synonym, TypeDecl, IsKinding}
use Rattle.hs_core.specs.Expansion.{IsFullyApplied, AreLawful}
use Rattle.hs_core.specs.Globals.{Globals, kinds_of, synonyms_of, known_names, declared_by, noted_by, in_front}
use Rattle.hs_core.specs.Globals.{no_names}
use Rattle.hs_core.specs.WellTyped.{AllMeaningsFull, Each}

-- how many parameters lead from a kind to `*`
abbrev pub arity : KindTerm → ℕ
arity star = 0
arity (arrow j k) = suc (arity k)

abbrev pub field_types : List Con → List TypeTerm
field_types cs = flat_map (λ c. map (λ f. type_term f.ty) c.fields) cs

-- the type declaration of an entry: an abstract type's is that of a data type without constructors
abbrev pub entry_decl : Entity → List TypeDecl
entry_decl (Abstract n k) = record { name = n; params = arity (kind_term k); meaning = fields [] } ∷ []
entry_decl (DataType n k p w cs) = record { name = n; params = p; meaning = fields (field_types cs) } ∷ []
entry_decl (Synonym n k p b) = record { name = n; params = p; meaning = synonym (type_term b) } ∷ []
entry_decl (Value n c f) = []

-- the kind that an entry notes
abbrev pub entry_kind : Entity → List KindTerm
entry_kind (Abstract n k) = kind_term k ∷ []
entry_kind (DataType n k p w cs) = kind_term k ∷ []
entry_kind (Synonym n k p b) = kind_term k ∷ []
entry_kind (Value n c f) = []

abbrev pub entry_value : Entity → List TypeTerm
entry_value (Abstract n k) = []
entry_value (DataType n k p w cs) = []
entry_value (Synonym n k p b) = []
entry_value (Value n c f) = type_term c.body ∷ []

-- What names mean in a stub module: what is known everywhere, then what its entries declare, then what is seen outside,
-- and then the
-- kinds that entries note.
abbrev pub globals_with : Globals → List Entity → Globals
globals_with outside es n = option_or (in_front (known_names ++ flat_map declared_by es) outside n)
    (in_front (flat_map noted_by es) no_names n)

-- a type of a value has kind `*` for some kinds of its variables, and its synonyms are fully applied
abbrev pub IsValueType : Globals → TypeTerm → Type 0
IsValueType G t = ((kinds : ℕ → KindTerm) × HasKind (kinds_of G) kinds t star) × IsFullyApplied (synonyms_of G) t 0

-- The entries of a stub module, which sees these names, are well typed. The kinds that they note are a valid kinding of
-- them all,
-- and need not be the least: whoever fills the hole has these kinds.
pub record IsWellTypedStub (outside : Globals) (es : List Entity) : Type 0 where
  pub names_once : AreDistinct (map (λ n. n.name) (flat_map declared_by es))
  pub kinding : IsKinding (kinds_of (globals_with outside es)) (flat_map entry_decl es) (flat_map entry_kind es)
  pub lawful : AreLawful (synonyms_of (globals_with outside es)) (map (λ d. d.name) (flat_map entry_decl es))
  pub full : AllMeaningsFull (synonyms_of (globals_with outside es)) (flat_map entry_decl es)
  pub values : Each (IsValueType (globals_with outside es)) (flat_map entry_value es)
