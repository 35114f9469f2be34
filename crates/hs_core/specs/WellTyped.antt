-- When a module's declarations are well typed.
use Rattle.std.specs.Prelude.{◌≡◌, ℕ, suc, nat_eq, Bool, true, false, not, List, [], ◌∷◌, ◌++◌, Some, length, map}
use Rattle.std.specs.Prelude.{filter, flat_map, slice_get, option_to_list, if◌then◌else◌}
use Rattle.std.specs.List.{list_any}
use Rattle.std.specs.Str.{bytes_eq}
use Rattle.bp_base.specs.Texts.{Text}
use Rattle.bp_base.specs.Lists.{is_among, AreDistinct}
use Rattle.bp_base.specs.declared.ident.Ident.{Ident}
use Rattle.bp_base.specs.declared.ty.Space.{Space}
use Rattle.bp_base.specs.declared.ty.Space.TheVariants.{Types, Values}
use Rattle.bp_base.specs.declared.ty.OrigName.{OrigName}
use Rattle.hs_core.specs.declared.group.UseList.{UseList}
use Rattle.hs_core.specs.declared.group.IndexGroup.{IndexGroup}
use Rattle.hs_core.specs.declared.tree.Written.{Written}
use Rattle.hs_core.specs.declared.tree.ConDecl.{ConDecl}
use Rattle.hs_core.specs.declared.tree.Decl.{Decl}
use Rattle.hs_core.specs.declared.tree.Decl.TheVariants.{DataDecl, SynonymDecl, TypeSig, FixityOf, Clause, PatBind}
use Rattle.hs_core.specs.Groups.{AreGroups, indices}
use Rattle.type_terms.specs.Terms.{var, con, app}
use Rattle.hs_core.specs.Sameness.{same_original}
use Rattle.hs_core.specs.Types.{KindTerm, star, TypeTerm, applied_to, variables, written_term, count}
use Rattle.hs_core.specs.Kinds.{HasKind, NameKinds, Meaning, fields, synonym, TypeDecl, within_group, AreLeastKinds}
use Rattle.hs_core.specs.Expansion.{Synonyms, Expands, ExpandEach, IsFullyApplied, AreLawful}
use Rattle.hs_core.specs.Schemes.{Assumption}
use Rattle.hs_core.specs.Globals.{Globals, Named, type_name, synonym_name, value_name, constructor_name, kinds_of}
use Rattle.hs_core.specs.Globals.{synonyms_of, known_names, in_front, variables_from}
use Rattle.hs_core.specs.FreeNames.{bound_names, local_decl, all_signed, signed_by}
use Rattle.hs_core.specs.LocalGroups.{IsTyped, HaveSchemes, IsGroupTyped}
use Rattle.hs_core.specs.Typing.{TypeTest, IsTypedDecl}
use Rattle.hs_core.specs.Rules.{item_of, items_bound, items_signed, AllIn, IsGroupOfBindings, DeclKeepsRules}

-- a declaration of a list, by its number, is typed
abbrev pub typed_in : Globals → TypeTest → List Decl → IsTyped
typed_in G fits ds i kinds env bs = (d : Decl) × (slice_get ds i ≡ Some d) × IsTypedDecl G fits d kinds env bs

-- A binding of a module has its declared types: all clauses of a name, or one pattern binding, with the type signatures
-- of its
-- names, which are `sigs`. A module's names are no locals, so its environment is empty.
abbrev pub HasDeclaredTypes : Globals → TypeTest → List Decl → List Decl → Type 0
HasDeclaredTypes G fits sigs clauses = (declared : List Assumption)
    × HaveSchemes G (all_signed (map local_decl sigs)) declared
    × IsGroupTyped (typed_in G fits clauses) (map local_decl (clauses ++ sigs)) declared (λ w. star) []
    (indices (length clauses)) []

-- Names that a module declares.
abbrev pub here : Ident → Space → Text → OrigName
here at space x = record { at = at; space = space; occ = x }

abbrev pub field_terms : List Text → ConDecl → List TypeTerm
field_terms params c = map (λ f. written_term params f.ty) c.fields

-- a type declaration, whose parameters are numbered by its head
abbrev pub type_decl : Ident → Decl → List TypeDecl
type_decl at
    (DataDecl x w ps cs) = record {
      name = here at Types x;
      params = count ps;
      meaning = fields
          (flat_map (field_terms ps) cs);
    } ∷ []
type_decl at
    (SynonymDecl x ps b) = record { name = here at Types x; params = count ps; meaning = synonym (written_term ps b) }
    ∷ []
type_decl at (TypeSig x t) = []
type_decl at (FixityOf x f) = []
type_decl at (Clause x ps r) = []
type_decl at (PatBind p r) = []

-- ---- what declarations declare

-- a declaration, with the module in which it stands
pub record Located : Type 0 where
  pub at : Ident
  pub decl : Decl

abbrev pub located : Ident → List Decl → List Located
located at ds = map (λ d. record { at = at; decl = d }) ds

abbrev pub type_decls : List Located → List TypeDecl
type_decls ds = flat_map (λ d. type_decl d.at d.decl) ds

-- the constructors of a data type, with the types of their fields expanded
abbrev pub AreConstructors : Synonyms → Ident → List Text → Text → List ConDecl → List Named → Type 0
AreConstructors S at ps x [] ns = ns ≡ []
AreConstructors S at ps x (c ∷ cs) ns = (types : List TypeTerm) × (rest : List Named)
    × ExpandEach S (field_terms ps c) types × AreConstructors S at ps x cs rest
    × (ns ≡ record {
      name = here at Values c.occ;
      means = constructor_name
          (record { fields = types; result = applied_to (con (here at Types x)) (variables_from 0 (count ps)) });
    } ∷ rest)

-- A declaration declares these names: a type with its kind, constructors, or a value with its declared type expanded.
abbrev pub Declares : Synonyms → Ident → Decl → List KindTerm → List Named → Type 0
Declares S at (DataDecl x w ps cs) ks ns = (k : KindTerm) × (rest : List Named) × (ks ≡ k ∷ [])
    × AreConstructors S at ps x cs rest
    × (ns ≡ record { name = here at Types x; means = type_name k } ∷ rest)
Declares S at (SynonymDecl x ps b) ks ns = (k : KindTerm) × (ks ≡ k ∷ [])
    × (ns ≡ record {
      name = here at Types x;
      means = synonym_name k
          (record { params = count ps; body = written_term ps b });
    } ∷ [])
Declares S at (TypeSig x w) ks ns = (t : TypeTerm) × (ks ≡ []) × Expands S (written_term (variables w) w) t
    × (ns ≡ record { name = here at Values x; means = value_name t } ∷ [])
Declares S at (FixityOf x f) ks ns = (ks ≡ []) × (ns ≡ [])
Declares S at (Clause x ps r) ks ns = (ks ≡ []) × (ns ≡ [])
Declares S at (PatBind p r) ks ns = (ks ≡ []) × (ns ≡ [])

-- declarations declare these names, where their types have these kinds, both in order of declaration
abbrev pub AreNames : Synonyms → List Located → List KindTerm → List Named → Type 0
AreNames S [] ks ns = (ks ≡ []) × (ns ≡ [])
AreNames S (d ∷ ds) ks ns = (js : List KindTerm) × (ls : List KindTerm) × (ms : List Named) × (os : List Named)
    × (ks ≡ js ++ ls) × (ns ≡ ms ++ os) × Declares S d.at d.decl js ms × AreNames S ds ls os

-- what names mean to declarations: what is known everywhere, then what they declare, then what is seen outside
abbrev pub globals_in : Globals → List Named → Globals
globals_in outside own = in_front (known_names ++ own) outside

-- names in each space that the module declares
abbrev pub types_named : List Decl → List Text
types_named [] = []
types_named (DataDecl x w ps cs ∷ ds) = x ∷ types_named ds
types_named (SynonymDecl x ps b ∷ ds) = x ∷ types_named ds
types_named (d ∷ ds) = types_named ds

abbrev pub constructors_named : List Decl → List Text
constructors_named [] = []
constructors_named (DataDecl x w ps cs ∷ ds) = map (λ c. c.occ) cs ++ constructors_named ds
constructors_named (d ∷ ds) = constructors_named ds

abbrev pub fixities_named : List Decl → List Text
fixities_named [] = []
fixities_named (FixityOf x f ∷ ds) = x ∷ fixities_named ds
fixities_named (d ∷ ds) = fixities_named ds

-- a head has no variable twice, and a newtype has one constructor with one field (Haskell 2010 Report, section 4.2.3)
abbrev pub IsOne : {A : Type 0} → List A → Type 0
IsOne [] = ⊥
IsOne (x ∷ []) = Unit {0}
IsOne (x ∷ y ∷ rest) = ⊥

abbrev pub HaveVariables : List Text → List Written → Type 0
HaveVariables ps [] = Unit {0}
HaveVariables ps (w ∷ ws) = AllIn (variables w) ps × HaveVariables ps ws

abbrev pub written_fields : List ConDecl → List Written
written_fields cs = flat_map (λ c. map (λ f. f.ty) c.fields) cs

abbrev pub IsNewtype : Bool → List ConDecl → Type 0
IsNewtype false cs = Unit {0}
IsNewtype true cs = IsOne cs × IsOne (written_fields cs)

abbrev pub HasLawfulHead : Decl → Type 0
HasLawfulHead (DataDecl x w ps cs) = AreDistinct ps × HaveVariables ps (written_fields cs) × IsNewtype w cs
HasLawfulHead (SynonymDecl x ps b) = AreDistinct ps × AllIn (variables b) ps
HasLawfulHead (TypeSig x w) = Unit {0}
HasLawfulHead (FixityOf x f) = Unit {0}
HasLawfulHead (Clause x ps r) = Unit {0}
HasLawfulHead (PatBind p r) = Unit {0}

-- A written type has a kind for some kinds of its variables, and its synonyms are fully applied. Of a type signature
-- and an
-- annotation the kind is `*`.
abbrev pub IsWellKinded : Globals → Written → Type 0
IsWellKinded G w = ((kinds : ℕ → KindTerm) × HasKind (kinds_of G) kinds (written_term (variables w) w) star)
    × IsFullyApplied (synonyms_of G) (written_term (variables w) w) 0

-- synonyms in fields and in bodies of synonyms
abbrev pub AllFullyApplied : Synonyms → List TypeTerm → Type 0
AllFullyApplied S [] = Unit {0}
AllFullyApplied S (t ∷ ts) = IsFullyApplied S t 0 × AllFullyApplied S ts

abbrev pub meaning_types : Meaning → List TypeTerm
meaning_types (fields ts) = ts
meaning_types (synonym t) = t ∷ []

-- the names that a type mentions, in order of occurrence
abbrev pub names_in : TypeTerm → List OrigName
names_in (var i) = []
names_in (con n) = n ∷ []
names_in (app f a) = names_in f ++ names_in a

-- the number, from this one on, of the first declaration of a name
abbrev pub number_of : ℕ → List TypeDecl → OrigName → List ℕ
number_of i [] n = []
number_of i (d ∷ ds) n = if same_original d.name n then i ∷ [] else number_of (suc i) ds n

-- each number once, at its first place
abbrev pub numbers_once : List ℕ → List ℕ
numbers_once [] = []
numbers_once (n ∷ ns) = n ∷ filter (λ m. not (nat_eq m n)) (numbers_once ns)

-- Use lists of type declarations: each has the numbers of those that it mentions, in order of first occurrence.
abbrev pub type_uses : List TypeDecl → List UseList
type_uses ds = map
    (λ d. record { uses = numbers_once (flat_map (number_of 0 ds) (flat_map names_in (meaning_types d.meaning))) }) ds

-- what stands in a list at these numbers
abbrev pub chosen : {A : Type 0} → List A → List ℕ → List A
chosen xs members = flat_map (λ i. option_to_list (slice_get xs i)) members

-- group after group, each has its least kinds where the names of those before it have theirs
abbrev pub AllLeast : NameKinds → List TypeDecl → List KindTerm → List IndexGroup → Type 0
AllLeast names ds ks [] = Unit {0}
AllLeast names ds ks (g ∷ gs) = AreLeastKinds names (chosen ds g.members) (chosen ks g.members)
    × AllLeast (within_group names (chosen ds g.members) (chosen ks g.members)) ds ks gs

-- The kinds of type declarations, over the names that are seen outside: those of one dependency group after another
-- (Haskell 2010
-- Report, section 4.6).
pub record AreKinds (outside : NameKinds) (ds : List TypeDecl) (ks : List KindTerm) : Type 0 where
  pub each : length ks ≡ length ds
  pub groups : List IndexGroup
  pub order : AreGroups (type_uses ds) groups
  pub least : AllLeast outside ds ks groups

abbrev pub AllMeaningsFull : Synonyms → List TypeDecl → Type 0
AllMeaningsFull S [] = Unit {0}
AllMeaningsFull S (d ∷ ds) = AllFullyApplied S (meaning_types d.meaning) × AllMeaningsFull S ds

-- the type signatures of names
abbrev pub signatures_for : List Text → List Decl → List Decl
signatures_for xs [] = []
signatures_for xs (d ∷ ds) = if list_any (λ s. is_among s.name xs) (signed_by d) then d
    ∷ signatures_for xs ds else signatures_for xs ds

-- the clauses of a name
abbrev pub clauses_of : Text → List Decl → List Decl
clauses_of x [] = []
clauses_of x (Clause y ps r ∷ ds) = if bytes_eq x y then Clause y ps r ∷ clauses_of x ds else clauses_of x ds
clauses_of x (d ∷ ds) = clauses_of x ds

-- whether these are clauses of a name
abbrev pub is_of : Text → List Decl → Bool
is_of x (Clause y ps r ∷ ds) = bytes_eq x y
is_of x ds = false

-- The bindings of a module, in order: all clauses of one name, or one pattern binding (Haskell 2010 Report, section
-- 4.4.3).
abbrev pub bindings_of : List Decl → List (List Decl)
bindings_of [] = []
bindings_of (Clause x ps r ∷ ds) = (Clause x ps r ∷ clauses_of x ds) ∷ filter (λ b. not (is_of x b)) (bindings_of ds)
bindings_of (PatBind p r ∷ ds) = (PatBind p r ∷ []) ∷ bindings_of ds
bindings_of (d ∷ ds) = bindings_of ds

-- a binding of a module has its declared types
abbrev pub IsTypedBinding : Globals → TypeTest → List Decl → List Decl → Type 0
IsTypedBinding G fits whole b = HasDeclaredTypes G fits (signatures_for (flat_map bound_names b) whole) b

-- the fact holds of each item
abbrev pub Each : {A : Type 0} → (A → Type 0) → List A → Type 0
Each P [] = Unit {0}
Each P (x ∷ xs) = P x × Each P xs

abbrev pub type_names : List Located → List OrigName
type_names ds = map (λ d. d.name) (type_decls ds)

-- The types that declarations declare and write are well kinded, over names that are seen outside. The declarations are
-- those of
-- one module, or those of several signatures, which are taken together.
pub record AreWellKinded (outside : Globals) (ds : List Located) : Type 0 where
  pub kinds : List KindTerm
  pub are_kinds : AreKinds (kinds_of (globals_in outside [])) (type_decls ds) kinds
  pub names : List Named
  pub are_names : AreNames (synonyms_of (globals_in outside names)) ds kinds names
  pub lawful : AreLawful (synonyms_of (globals_in outside names)) (type_names ds)
  pub full : AllMeaningsFull (synonyms_of (globals_in outside names)) (type_decls ds)
  pub written : Each (λ d. DeclKeepsRules (IsWellKinded (globals_in outside names)) d.decl) ds

-- The declarations of the module `at`, which sees these names, are well typed, within a test of types.
pub record AreWellTyped (fits : TypeTest) (outside : Globals) (at : Ident) (ds : List Decl) : Type 0 where
  -- nothing is declared twice, each top-level value has one type signature, and each type signature has a binding
  pub types_once : AreDistinct (types_named ds)
  pub values_once : AreDistinct (constructors_named ds ++ items_bound (map item_of ds))
  pub bindings : IsGroupOfBindings (map item_of ds)
  pub signed : AllIn (items_bound (map item_of ds)) (items_signed (map item_of ds))
  pub fixities_once : AreDistinct (fixities_named ds)
  pub fixities_bound : AllIn (fixities_named ds) (constructors_named ds ++ items_bound (map item_of ds))
  pub heads : Each HasLawfulHead ds
  -- kinds and synonyms
  pub well_kinded : AreWellKinded outside (located at ds)
  -- types
  pub typed : Each (IsTypedBinding (globals_in outside well_kinded.names) fits ds) (bindings_of ds)
