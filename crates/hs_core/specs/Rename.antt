-- Renaming: what becomes of the names of a component's modules when its holes are filled.
use Rattle.std.specs.Prelude.{Bool, ◌&&◌, List, [], ◌∷◌, Option, Some, None, unwrap_or, map, if◌then◌else◌}
use Rattle.std.specs.Str.{bytes_eq}
use Rattle.bp_base.specs.Texts.{Text}
use Rattle.bp_base.specs.declared.ident.Ident.{Ident}
use Rattle.bp_base.specs.declared.ident.Ident.TheVariants.{Hole, Module, Module'}
use Rattle.bp_base.specs.declared.ident.Ident.TheBlock.{end_of-Unit, more_of-Unit}
use Rattle.bp_base.specs.declared.ty.OrigName.{OrigName}
use Rattle.bp_base.specs.declared.ty.Space.{Space}
use Rattle.bp_base.specs.declared.ty.Ty.{Ty}
use Rattle.bp_base.specs.declared.ty.Ty.TheVariants.{Var, Con, App, App'}
use Rattle.bp_base.specs.declared.ty.Ty.TheBlock.{end_of-Ty, more_of-Ty}
use Rattle.bp_base.specs.declared.linking.Renaming.{Renaming}
use Rattle.bp_base.specs.declared.linking.Shown.{Shown}
use Rattle.unit_identity.specs.Fill.{filled_unit, composed}
use Rattle.hs_core.specs.Sameness.{same_space}
use Rattle.hs_core.specs.declared.tree.Written.{Written}
use Rattle.hs_core.specs.declared.tree.Written.TheVariants.{WVar, WCon, WApp, WApp'}
use Rattle.hs_core.specs.declared.tree.Written.TheBlock.{end_of-Written, more_of-Written}
use Rattle.hs_core.specs.declared.tree.Pat.{Pat}
use Rattle.hs_core.specs.declared.tree.Pat.TheVariants.{PCon, PCon', PTuple, PTuple', PList, PList', PAs, PAs', PLazy}
use Rattle.hs_core.specs.declared.tree.Pat.TheVariants.{PLazy'}
use Rattle.hs_core.specs.declared.tree.Pat.TheBlock.{Row_of-Pat, end_of-Pat, more_of-Pat}
use Rattle.hs_core.specs.declared.tree.Decl.{Decl}
use Rattle.hs_core.specs.declared.tree.Decl.TheVariants.{DataDecl, SynonymDecl, TypeSig, FixityOf, Clause, PatBind}
use Rattle.hs_core.specs.declared.tree.Exp.{Exp}
use Rattle.hs_core.specs.declared.tree.Exp.TheVariants.{Local, Global, Int, Chr, Str, Apply, Apply', Lambda, Lambda'}
use Rattle.hs_core.specs.declared.tree.Exp.TheVariants.{Let, Let', If, If', Case, Case', Tuple, Tuple', List as ListOf}
use Rattle.hs_core.specs.declared.tree.Exp.TheVariants.{List' as ListOf', RightSection, RightSection', Annot, Annot'}
use Rattle.hs_core.specs.declared.tree.Rhs.{Rhs, Rhs'}
use Rattle.hs_core.specs.declared.tree.Choice.{Choice}
use Rattle.hs_core.specs.declared.tree.Guard.{Guard}
use Rattle.hs_core.specs.declared.tree.Guard.TheVariants.{Test, Bind}
use Rattle.hs_core.specs.declared.tree.Alt.{Alt, Alt'}
use Rattle.hs_core.specs.declared.tree.ConDecl.{ConDecl}
use Rattle.hs_core.specs.declared.tree.FieldDecl.{FieldDecl}
use Rattle.hs_core.specs.declared.tree.Body.{Body}
use Rattle.hs_core.specs.declared.tree.Decl.TheViews.{roll-Rhs, roll-Alt}
use Rattle.hs_core.specs.declared.tree.Decl.TheBlock.{Row_of-Choice, end_of-Choice, more_of-Choice, Row_of-Decl}
use Rattle.hs_core.specs.declared.tree.Decl.TheBlock.{end_of-Decl, more_of-Decl, Row_of-Guard, end_of-Guard}
use Rattle.hs_core.specs.declared.tree.Decl.TheBlock.{more_of-Guard, Row_of-Exp, end_of-Exp, more_of-Exp, Row_of-Alt}
use Rattle.hs_core.specs.declared.tree.Decl.TheBlock.{end_of-Alt, more_of-Alt}

-- whether it says what the filler of the hole exports for the space and the occurrence
abbrev pub is_for : Text → Space → Text → Shown → Bool
is_for hole space occ s = bytes_eq s.hole hole && (same_space s.name.space space && bytes_eq s.name.occ occ)

-- what the filler of the hole exports for the space and the occurrence, as far as it is shown
abbrev pub shown_for : Text → Space → Text → List Shown → Option OrigName
shown_for hole space occ [] = None
shown_for hole space occ (s ∷ all) = if is_for hole space occ s then Some s.name else shown_for hole space occ all

-- A name at a hole becomes what the hole's filler exports for it, or stays where nothing is shown; every other name is
-- filled.
abbrev pub renamed_at : Ident → Space → Text → Renaming → OrigName
renamed_at (Hole h) space occ by = unwrap_or (shown_for h space occ by.shown)
    (record { at = Hole h; space = space; occ = occ })
renamed_at (Module' s (more_of-Unit u end_of-Unit) m) space occ by =
    record { at = Module (filled_unit u by.fills) m; space = space; occ = occ }

abbrev pub renamed_name : OrigName → Renaming → OrigName
renamed_name n by = renamed_at n.at n.space n.occ by

-- a type: each name keeps its kind
abbrev pub renamed_ty : Ty → Renaming → Ty
renamed_ty (Var i) by = Var i
renamed_ty (Con n k) by = Con (renamed_name n by) k
renamed_ty (App' s (more_of-Ty f end_of-Ty) z (more_of-Ty a end_of-Ty)) by = App (renamed_ty f by) (renamed_ty a by)

-- a written type: variables stay
abbrev pub renamed_written : Written → Renaming → Written
renamed_written (WVar n) by = WVar n
renamed_written (WCon n) by = WCon (renamed_name n by)
renamed_written (WApp' s (more_of-Written f end_of-Written) z (more_of-Written a end_of-Written)) by =
    WApp (renamed_written f by) (renamed_written a by)

-- a pattern: the locals that it binds stay
abbrev mutual
  pub renamed_pat : Pat → Renaming → Pat
  renamed_pat (PCon' n s ps) by = PCon (renamed_name n by) (renamed_pats ps by)
  renamed_pat (PTuple' s ps) by = PTuple (renamed_pats ps by)
  renamed_pat (PList' s ps) by = PList (renamed_pats ps by)
  renamed_pat (PAs' n s (more_of-Pat p end_of-Pat)) by = PAs n (renamed_pat p by)
  renamed_pat (PLazy' s (more_of-Pat p end_of-Pat)) by = PLazy (renamed_pat p by)
  renamed_pat p by = p

  pub renamed_pats : {m : _} → Row_of-Pat m → Renaming → List Pat
  renamed_pats end_of-Pat by = []
  renamed_pats (more_of-Pat p ps) by = renamed_pat p by ∷ renamed_pats ps by

abbrev pub renamed_field : FieldDecl → Renaming → FieldDecl
renamed_field f by = record { strict = f.strict; ty = renamed_written f.ty by }

abbrev pub renamed_con : ConDecl → Renaming → ConDecl
renamed_con c by = record { occ = c.occ; fields = map (λ f. renamed_field f by) c.fields }

-- an expression: a local stays, and every other name is renamed; so in declarations, right sides, guards and
-- alternatives
abbrev mutual
  pub renamed_exp : Exp → Renaming → Exp
  renamed_exp (Local n) by = Local n
  renamed_exp (Global n) by = Global (renamed_name n by)
  renamed_exp (Int v) by = Int v
  renamed_exp (Chr c) by = Chr c
  renamed_exp (Str c) by = Str c
  renamed_exp (Apply' s (more_of-Exp e end_of-Exp) z es) by = Apply (renamed_exp e by) (renamed_exp_row es by)
  renamed_exp (Lambda' ps s (more_of-Exp e end_of-Exp)) by = Lambda (map (λ p. renamed_pat p by) ps) (renamed_exp e by)
  renamed_exp (Let' s ds z (more_of-Exp e end_of-Exp)) by = Let (renamed_decl_row ds by) (renamed_exp e by)
  renamed_exp (If' s (more_of-Exp a end_of-Exp) y (more_of-Exp b end_of-Exp) z (more_of-Exp c end_of-Exp)) by =
      If (renamed_exp a by) (renamed_exp b by) (renamed_exp c by)
  renamed_exp (Case' s (more_of-Exp e end_of-Exp) z as') by = Case (renamed_exp e by) (renamed_alt_row as' by)
  renamed_exp (Tuple' s es) by = Tuple (renamed_exp_row es by)
  renamed_exp (ListOf' s es) by = ListOf (renamed_exp_row es by)
  renamed_exp (RightSection' s (more_of-Exp a end_of-Exp) z (more_of-Exp b end_of-Exp)) by =
      RightSection (renamed_exp a by) (renamed_exp b by)
  renamed_exp (Annot' s (more_of-Exp e end_of-Exp) t) by = Annot (renamed_exp e by) (renamed_written t by)

  pub renamed_exp_row : {m : _} → Row_of-Exp m → Renaming → List Exp
  renamed_exp_row end_of-Exp by = []
  renamed_exp_row (more_of-Exp e es) by = renamed_exp e by ∷ renamed_exp_row es by

  pub renamed_decl : Decl → Renaming → Decl
  renamed_decl (DataDecl n w ps cs) by = DataDecl n w ps (map (λ c. renamed_con c by) cs)
  renamed_decl (SynonymDecl n ps t) by = SynonymDecl n ps (renamed_written t by)
  renamed_decl (TypeSig n t) by = TypeSig n (renamed_written t by)
  renamed_decl (FixityOf n x) by = FixityOf n x
  renamed_decl (Clause n ps r) by = Clause n (map (λ p. renamed_pat p by) ps) (renamed_rhs r by)
  renamed_decl (PatBind p r) by = PatBind (renamed_pat p by) (renamed_rhs r by)

  pub renamed_decl_row : {m : _} → Row_of-Decl m → Renaming → List Decl
  renamed_decl_row end_of-Decl by = []
  renamed_decl_row (more_of-Decl d ds) by = renamed_decl d by ∷ renamed_decl_row ds by

  pub renamed_rhs : Rhs → Renaming → Rhs
  renamed_rhs (Rhs' s cs z ds) by = roll-Rhs (record {
    choices = renamed_choice_row cs by;
    local = renamed_decl_row ds by;
  })

  pub renamed_choice_row : {m : _} → Row_of-Choice m → Renaming → List Choice
  renamed_choice_row end_of-Choice by = []
  renamed_choice_row (more_of-Choice s gs e cs) by =
      record { guards = renamed_guard_row gs by; exp = renamed_exp e by } ∷ renamed_choice_row cs by

  pub renamed_guard : Guard → Renaming → Guard
  renamed_guard (Test e) by = Test (renamed_exp e by)
  renamed_guard (Bind p e) by = Bind (renamed_pat p by) (renamed_exp e by)

  pub renamed_guard_row : {m : _} → Row_of-Guard m → Renaming → List Guard
  renamed_guard_row end_of-Guard by = []
  renamed_guard_row (more_of-Guard g gs) by = renamed_guard g by ∷ renamed_guard_row gs by

  pub renamed_alt : Alt → Renaming → Alt
  renamed_alt (Alt' p r) by = roll-Alt (record { pat = renamed_pat p by; rhs = renamed_rhs r by })

  pub renamed_alt_row : {m : _} → Row_of-Alt m → Renaming → List Alt
  renamed_alt_row end_of-Alt by = []
  renamed_alt_row (more_of-Alt a as') by = renamed_alt a by ∷ renamed_alt_row as' by

abbrev pub renamed_choice : Choice → Renaming → Choice
renamed_choice c by = record { guards = map (λ g. renamed_guard g by) c.guards; exp = renamed_exp c.exp by }

-- the declarations of a module
abbrev pub renamed_body : Body → Renaming → Body
renamed_body b by = record { decls = map (λ d. renamed_decl d by) b.decls }

-- what is shown, renamed
abbrev pub composed_shown : List Shown → Renaming → List Shown
composed_shown [] by = []
composed_shown (s ∷ all) by = record { hole = s.hole; name = renamed_name s.name by } ∷ composed_shown all by

-- one renaming and then another one, in one: the fills of the first are filled by those of the second, and what it
-- shows is
-- renamed by the second
abbrev pub composed_renaming : Renaming → Renaming → Renaming
composed_renaming first next = record {
  fills = composed first.fills next.fills;
  shown = composed_shown first.shown next;
}
