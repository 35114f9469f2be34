-- Entities of declarations before their synonyms are expanded: types are as they are written, and no kinds are noted at
-- their names yet.
use Rattle.std.specs.Prelude.{ℕ, Bool, List, [], ◌∷◌, ◌++◌, map, drop, if◌then◌else◌}
use Rattle.std.specs.Str.{bytes_eq}
use Rattle.bp_base.specs.Entities.{default_fixity}
use Rattle.bp_base.specs.Texts.{Text}
use Rattle.bp_base.specs.declared.ident.Ident.{Ident}
use Rattle.bp_base.specs.declared.ty.Space.TheVariants.{Types, Values}
use Rattle.bp_base.specs.declared.ty.Kind.{Kind}
use Rattle.bp_base.specs.declared.ty.Kind.TheVariants.{Star}
use Rattle.bp_base.specs.declared.ty.Ty.{Ty}
use Rattle.bp_base.specs.declared.ty.Ty.TheVariants.{Var, Con, App}
use Rattle.bp_base.specs.declared.entity.Fixity.{Fixity}
use Rattle.bp_base.specs.declared.entity.Field.{Field}
use Rattle.bp_base.specs.declared.entity.Con.{Con as Constructor}
use Rattle.bp_base.specs.declared.entity.Entity.{Entity}
use Rattle.bp_base.specs.declared.entity.Entity.TheVariants.{DataType, Synonym, Value}
use Rattle.hs_core.specs.declared.tree.Written.{Written}
use Rattle.hs_core.specs.declared.tree.Written.TheVariants.{WVar, WCon, WApp'}
use Rattle.hs_core.specs.declared.tree.Written.TheBlock.{more_of-Written, end_of-Written}
use Rattle.hs_core.specs.declared.tree.FieldDecl.{FieldDecl}
use Rattle.hs_core.specs.declared.tree.ConDecl.{ConDecl}
use Rattle.hs_core.specs.declared.tree.Decl.{Decl}
use Rattle.hs_core.specs.declared.tree.Decl.TheVariants.{DataDecl, SynonymDecl, TypeSig, FixityOf, Clause, PatBind}
use Rattle.hs_core.specs.Types.{place, variables, count}
use Rattle.hs_core.specs.WellTyped.{here}

-- the type that a written one spells, where its variables have these places
abbrev pub draft_type : List Text → Written → Ty
draft_type ps (WVar x) = Var (place ps x)
draft_type ps (WCon n) = Con n Star
draft_type ps (WApp' s (more_of-Written f end_of-Written) z (more_of-Written a end_of-Written)) = App
    (draft_type ps f) (draft_type ps a)

-- the fixity that declarations give a name: the first, or that of names without one
abbrev pub fixity_in : List Decl → Text → Fixity
fixity_in [] x = default_fixity
fixity_in (FixityOf y f ∷ ds) x = if bytes_eq y x then f else fixity_in ds x
fixity_in (DataDecl y w ps cs ∷ ds) x = fixity_in ds x
fixity_in (SynonymDecl y ps t ∷ ds) x = fixity_in ds x
fixity_in (TypeSig y t ∷ ds) x = fixity_in ds x
fixity_in (Clause y ps r ∷ ds) x = fixity_in ds x
fixity_in (PatBind p r ∷ ds) x = fixity_in ds x

abbrev pub draft_field : List Text → FieldDecl → Field
draft_field ps f = record { strict = f.strict; ty = draft_type ps f.ty }

abbrev pub draft_con : List Decl → List Text → ConDecl → Constructor
draft_con whole ps c = record { occ = c.occ; fields = map (draft_field ps) c.fields; fixity = fixity_in whole c.occ }

-- What a declaration declares, which is one of `whole`, where the first of these kinds is that of a type.
abbrev pub draft : List Decl → Ident → Decl → List Kind → List Entity
draft whole at (DataDecl x w ps cs) [] = []
draft whole at (DataDecl x w ps cs) (k ∷ ks) = DataType (here at Types x) k (count ps) w (map (draft_con whole ps) cs)
    ∷ []
draft whole at (SynonymDecl x ps t) [] = []
draft whole at (SynonymDecl x ps t) (k ∷ ks) = Synonym (here at Types x) k (count ps) (draft_type ps t) ∷ []
draft whole at (TypeSig x t) ks = Value (here at Values x)
    (record { vars = count (variables t); body = draft_type (variables t) t }) (fixity_in whole x) ∷ []
draft whole at (FixityOf x f) ks = []
draft whole at (Clause x ps r) ks = []
draft whole at (PatBind p r) ks = []

-- how many kinds a declaration takes: a type takes one
abbrev pub taken : Decl → ℕ
taken (DataDecl x w ps cs) = 1
taken (SynonymDecl x ps t) = 1
taken (TypeSig x t) = 0
taken (FixityOf x f) = 0
taken (Clause x ps r) = 0
taken (PatBind p r) = 0

-- what declarations declare, in their order, where types have these kinds, in their order
abbrev pub drafts : List Decl → Ident → List Decl → List Kind → List Entity
drafts whole at [] ks = []
drafts whole at (d ∷ ds) ks = draft whole at d ks ++ drafts whole at ds (drop (taken d) ks)
