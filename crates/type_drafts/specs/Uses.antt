-- The types that declarations write, each with the name that is declared.
use Rattle.std.specs.Prelude.{List, [], ◌∷◌, map, flat_map}
use Rattle.bp_base.specs.Texts.{Text}
use Rattle.hs_core.specs.declared.tree.Written.{Written}
use Rattle.hs_core.specs.declared.tree.Decl.{Decl}
use Rattle.hs_core.specs.declared.tree.Decl.TheVariants.{DataDecl, SynonymDecl, TypeSig, FixityOf, Clause, PatBind}
use Rattle.hs_core.specs.FreeNames.{pattern_names}
use Rattle.hs_core.specs.WellTyped.{written_fields}
use Rattle.written_types.specs.WrittenTypes.{types_in_decl, types_in_rhs}
use Rattle.type_drafts.specs.declared.uses.TypeUse.{TypeUse}

-- the first of names; no bytes where there is none
abbrev pub first_name : List Text → Text
first_name [] = []
first_name (x ∷ xs) = x

-- the name that a declaration declares: of a pattern binding its first variable, and no bytes where it has none
abbrev pub declared_name : Decl → Text
declared_name (DataDecl x w ps cs) = x
declared_name (SynonymDecl x ps t) = x
declared_name (TypeSig x t) = x
declared_name (FixityOf x f) = x
declared_name (Clause x ps r) = x
declared_name (PatBind p r) = first_name (pattern_names p)

-- the types that a declaration writes: those of fields, the body of a synonym, or what it writes for values
abbrev pub types_said : Decl → List Written
types_said (DataDecl x w ps cs) = written_fields cs
types_said (SynonymDecl x ps t) = t ∷ []
types_said (TypeSig x t) = t ∷ []
types_said (FixityOf x f) = []
types_said (Clause x ps r) = types_in_rhs r
types_said (PatBind p r) = types_in_rhs r

abbrev pub type_use : Text → Written → TypeUse
type_use x t = record { name = x; ty = t }

-- the types that declarations write for values, in the order of the source
abbrev pub value_uses : List Decl → List TypeUse
value_uses ds = flat_map (λ d. map (type_use (declared_name d)) (types_in_decl d)) ds

-- all types that declarations write, in the order of the source
abbrev pub all_uses : List Decl → List TypeUse
all_uses ds = flat_map (λ d. map (type_use (declared_name d)) (types_said d)) ds
