-- What declarations bind, which locals they mention, and so how a list of declarations falls into groups (Haskell 2010
-- Report,
-- section 4.5.1).
use Rattle.std.specs.Prelude.{ℕ, suc, not, List, [], ◌∷◌, ◌++◌, filter, flat_map, map, if◌then◌else◌}
use Rattle.bp_base.specs.Texts.{Text}
use Rattle.bp_base.specs.Lists.{is_among}
use Rattle.hs_core.specs.declared.tree.Written.{Written}
use Rattle.hs_core.specs.declared.tree.Pat.{Pat}
use Rattle.hs_core.specs.declared.tree.Pat.TheVariants.{PVar, PWild, PInt, PChr, PStr, PCon', PTuple', PList', PAs'}
use Rattle.hs_core.specs.declared.tree.Pat.TheVariants.{PLazy'}
use Rattle.hs_core.specs.declared.tree.Pat.TheBlock.{Row_of-Pat, end_of-Pat, more_of-Pat}
use Rattle.hs_core.specs.declared.tree.Exp.{Exp}
use Rattle.hs_core.specs.declared.tree.Exp.TheVariants.{Local, Global, Int, Chr, Str, Apply', Lambda', Let', If', Case'}
use Rattle.hs_core.specs.declared.tree.Exp.TheVariants.{Tuple', List' as ListOf', RightSection', Annot'}
use Rattle.hs_core.specs.declared.tree.Decl.{Decl}
use Rattle.hs_core.specs.declared.tree.Decl.TheVariants.{DataDecl, SynonymDecl, TypeSig, FixityOf, Clause, PatBind}
use Rattle.hs_core.specs.declared.tree.Rhs.{Rhs, Rhs'}
use Rattle.hs_core.specs.declared.tree.Guard.{Guard}
use Rattle.hs_core.specs.declared.tree.Guard.TheVariants.{Test, Bind}
use Rattle.hs_core.specs.declared.tree.Alt.{Alt, Alt'}
use Rattle.hs_core.specs.declared.tree.Decl.TheBlock.{Row_of-Choice, end_of-Choice, more_of-Choice, Row_of-Decl}
use Rattle.hs_core.specs.declared.tree.Decl.TheBlock.{end_of-Decl, more_of-Decl, Row_of-Guard, end_of-Guard}
use Rattle.hs_core.specs.declared.tree.Decl.TheBlock.{more_of-Guard, Row_of-Exp, end_of-Exp, more_of-Exp, Row_of-Alt}
use Rattle.hs_core.specs.declared.tree.Decl.TheBlock.{end_of-Alt, more_of-Alt}
use Rattle.hs_core.specs.declared.group.UseList.{UseList}

-- the variables of a pattern, in order (Haskell 2010 Report, section 3.17.1)
abbrev mutual
  pub pattern_names : Pat → List Text
  pattern_names (PVar x) = x ∷ []
  pattern_names PWild = []
  pattern_names (PInt negative n) = []
  pattern_names (PChr c) = []
  pattern_names (PStr cs) = []
  pattern_names (PCon' n s ps) = patterns_names ps
  pattern_names (PTuple' s ps) = patterns_names ps
  pattern_names (PList' s ps) = patterns_names ps
  pattern_names (PAs' x s (more_of-Pat p end_of-Pat)) = x ∷ pattern_names p
  pattern_names (PLazy' s (more_of-Pat p end_of-Pat)) = pattern_names p

  pub patterns_names : {m : _} → Row_of-Pat m → List Text
  patterns_names end_of-Pat = []
  patterns_names (more_of-Pat p ps) = pattern_names p ++ patterns_names ps

-- what a declaration binds: a clause its name, a pattern binding its variables
abbrev pub bound_names : Decl → List Text
bound_names (DataDecl x w ps cs) = []
bound_names (SynonymDecl x ps t) = []
bound_names (TypeSig x t) = []
bound_names (FixityOf x f) = []
bound_names (Clause x ps r) = x ∷ []
bound_names (PatBind p r) = pattern_names p

abbrev pub row_bound_names : {m : _} → Row_of-Decl m → List Text
row_bound_names end_of-Decl = []
row_bound_names (more_of-Decl d ds) = bound_names d ++ row_bound_names ds

-- the names of a list that are none of these
abbrev pub without : List Text → List Text → List Text
without bound names = filter (λ x. not (is_among x bound)) names

-- the locals that a tree mentions and does not bind itself, in order of occurrence
abbrev mutual
  pub mentioned : Exp → List Text
  mentioned (Local x) = x ∷ []
  mentioned (Global n) = []
  mentioned (Int n) = []
  mentioned (Chr c) = []
  mentioned (Str cs) = []
  mentioned (Apply' s (more_of-Exp f end_of-Exp) z es) = mentioned f ++ mentioned_in_all es
  mentioned (Lambda' ps s (more_of-Exp e end_of-Exp)) = without (flat_map pattern_names ps) (mentioned e)
  mentioned (Let' s ds z (more_of-Exp e end_of-Exp)) =
      without (row_bound_names ds) (mentioned_in_decls ds ++ mentioned e)
  mentioned (If' s (more_of-Exp a end_of-Exp) y (more_of-Exp b end_of-Exp) z (more_of-Exp c end_of-Exp)) =
      mentioned a ++ mentioned b ++ mentioned c
  mentioned (Case' s (more_of-Exp e end_of-Exp) z as') = mentioned e ++ mentioned_in_alternatives as'
  mentioned (Tuple' s es) = mentioned_in_all es
  mentioned (ListOf' s es) = mentioned_in_all es
  mentioned (RightSection' s (more_of-Exp op end_of-Exp) z (more_of-Exp a end_of-Exp)) = mentioned op ++ mentioned a
  mentioned (Annot' s (more_of-Exp e end_of-Exp) t) = mentioned e

  pub mentioned_in_all : {m : _} → Row_of-Exp m → List Text
  mentioned_in_all end_of-Exp = []
  mentioned_in_all (more_of-Exp e es) = mentioned e ++ mentioned_in_all es

  pub mentioned_in_alternatives : {m : _} → Row_of-Alt m → List Text
  mentioned_in_alternatives end_of-Alt = []
  mentioned_in_alternatives (more_of-Alt a as') = mentioned_in_alternative a ++ mentioned_in_alternatives as'

  pub mentioned_in_alternative : Alt → List Text
  mentioned_in_alternative (Alt' p r) = without (pattern_names p) (mentioned_in_right r)

  -- the declarations of a `where` bind in each choice
  pub mentioned_in_right : Rhs → List Text
  mentioned_in_right (Rhs' s cs z ds) = without (row_bound_names ds) (mentioned_in_decls ds ++ mentioned_in_choices cs)

  pub mentioned_in_choices : {m : _} → Row_of-Choice m → List Text
  mentioned_in_choices end_of-Choice = []
  mentioned_in_choices (more_of-Choice s gs e cs) = mentioned_behind gs (mentioned e) ++ mentioned_in_choices cs

  -- a guard binds in the guards behind it and in what they guard
  pub mentioned_behind : {m : _} → Row_of-Guard m → List Text → List Text
  mentioned_behind end_of-Guard inner = inner
  mentioned_behind (more_of-Guard g gs) inner = mentioned_from g (mentioned_behind gs inner)

  pub mentioned_from : Guard → List Text → List Text
  mentioned_from (Test e) inner = mentioned e ++ inner
  mentioned_from (Bind p e) inner = mentioned e ++ without (pattern_names p) inner

  pub mentioned_in_decls : {m : _} → Row_of-Decl m → List Text
  mentioned_in_decls end_of-Decl = []
  mentioned_in_decls (more_of-Decl d ds) = mentioned_in_decl d ++ mentioned_in_decls ds

  pub mentioned_in_decl : Decl → List Text
  mentioned_in_decl (DataDecl x w ps cs) = []
  mentioned_in_decl (SynonymDecl x ps t) = []
  mentioned_in_decl (TypeSig x t) = []
  mentioned_in_decl (FixityOf x f) = []
  mentioned_in_decl (Clause x ps r) = without (flat_map pattern_names ps) (mentioned_in_right r)
  mentioned_in_decl (PatBind p r) = mentioned_in_right r

-- a type signature's name with its written type
pub record Signed : Type 0 where
  pub name : Text
  pub written : Written

-- what groups are made from: what a declaration binds and mentions, and its type signature where it is one
pub record LocalDecl : Type 0 where
  pub binds : List Text
  pub mentions : List Text
  pub signed : List Signed

abbrev pub signed_by : Decl → List Signed
signed_by (DataDecl x w ps cs) = []
signed_by (SynonymDecl x ps t) = []
signed_by (TypeSig x t) = record { name = x; written = t } ∷ []
signed_by (FixityOf x f) = []
signed_by (Clause x ps r) = []
signed_by (PatBind p r) = []

abbrev pub local_decl : Decl → LocalDecl
local_decl d = record { binds = bound_names d; mentions = mentioned_in_decl d; signed = signed_by d }

abbrev pub local_decls : {m : _} → Row_of-Decl m → List LocalDecl
local_decls end_of-Decl = []
local_decls (more_of-Decl d ds) = local_decl d ∷ local_decls ds

abbrev pub all_signed : List LocalDecl → List Signed
all_signed ds = flat_map (λ d. d.signed) ds

abbrev pub signed_names : List LocalDecl → List Text
signed_names ds = map (λ s. s.name) (all_signed ds)

-- the numbers, from this one on, of the declarations that bind a name
abbrev pub binding_it : ℕ → List LocalDecl → Text → List ℕ
binding_it i [] x = []
binding_it i (d ∷ ds) x = if is_among x d.binds then i ∷ binding_it (suc i) ds x else binding_it (suc i) ds x

-- A declaration uses those that bind a name which it mentions, unless that name has a type signature; and those that
-- bind a name
-- with it, so that all clauses of a name stand in one group.
abbrev pub uses_of : List LocalDecl → LocalDecl → UseList
uses_of all d = record { uses = flat_map (binding_it 0 all) (without (signed_names all) d.mentions ++ d.binds) }

abbrev pub uses : List LocalDecl → List UseList
uses all = map (uses_of all) all
