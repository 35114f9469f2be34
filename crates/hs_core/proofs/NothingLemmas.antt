-- Renaming by nothing changes nothing.
use Rattle.std.proofs.Common.{◌≡◌, List, [], ◌∷◌, refl, ap, sym, ◌∙◌}
use Rattle.std.specs.Prelude.{map}
use Rattle.bp_base.specs.Texts.{Text}
use Rattle.bp_base.specs.declared.ident.Ident.{Ident}
use Rattle.bp_base.specs.declared.ident.Ident.TheVariants.{Hole, Module, Module'}
use Rattle.bp_base.specs.declared.ident.Unit.{Unit as OfUnit, Unit'}
use Rattle.bp_base.specs.declared.ident.Ident.TheBlock.{end_of-Unit, more_of-Unit, Row_of-Fill, end_of-Fill, more_of-Fill}
use Rattle.bp_base.specs.declared.ident.Ident.TheViews.{roll-Unit}
use Rattle.bp_base.proofs.IdentLemmas.{fills_of, Module-is, unit-is}
use Rattle.bp_base.specs.declared.ty.OrigName.{OrigName}
use Rattle.bp_base.specs.declared.ty.Space.{Space}
use Rattle.unit_identity.specs.Fill.{filled, filled_unit, filled_row}
use Rattle.hs_core.specs.declared.tree.Written.{Written}
use Rattle.hs_core.specs.declared.tree.Written.TheVariants.{WVar, WCon, WApp, WApp'}
use Rattle.hs_core.specs.declared.tree.Written.TheBlock.{shape-the_row-Written-0, hidden-the_row-Written-0}
use Rattle.hs_core.specs.declared.tree.Written.TheBlock.{end_of-Written, more_of-Written}
use Rattle.hs_core.specs.declared.tree.Pat.{Pat, out-Pat}
use Rattle.hs_core.specs.declared.tree.Pat.TheVariants.{PVar, PWild, PInt, PChr, PStr, PCon, PCon', PTuple, PTuple'}
use Rattle.hs_core.specs.declared.tree.Pat.TheVariants.{PList, PList', PAs, PAs', PLazy, PLazy'}
use Rattle.hs_core.specs.declared.tree.Pat.TheBlock.{Row_of-Pat, end_of-Pat, more_of-Pat, shown-the_row-Pat-0}
use Rattle.hs_core.specs.declared.tree.Pat.TheBlock.{shape-the_row-Pat-1, hidden-the_row-Pat-1, items-the_row-Pat}
use Rattle.hs_core.specs.declared.tree.Pat.TheBlock.{items_shown-the_row-Pat-0}
use Rattle.hs_core.specs.declared.tree.Pat.TheViews.{roll-Pat, roll-out-Pat}
use Rattle.hs_core.specs.declared.tree.FieldDecl.{FieldDecl}
use Rattle.hs_core.specs.declared.tree.ConDecl.{ConDecl}
use Rattle.hs_core.specs.Rename.{renamed_at, renamed_name, renamed_written, renamed_pat, renamed_pats, renamed_field}
use Rattle.hs_core.specs.Rename.{renamed_con}
use Rattle.hs_core.specs.RenameLaws.{nothing}
use denote.Hole.Carrier.{hidden, out, roll}

-- ---- names

mutual
  filled-same : (i : Ident) → filled i [] ≡ i
  filled-same (Hole n) = refl
  filled-same (Module' s (more_of-Unit u end_of-Unit) m) = ap (λ v. Module v m) (unit-same u)
      ∙ sym (Module-is s u m)

  unit-same : (u : OfUnit) → filled_unit u [] ≡ u
  unit-same (Unit' c s r) = ap (λ l. roll-Unit (record { component = c; fills = l })) (fills-same r) ∙ unit-is c s r

  fills-same : {m : _} (r : Row_of-Fill m) → filled_row r [] ≡ fills_of r
  fills-same end_of-Fill = refl
  fills-same (more_of-Fill h i r) = λ k. record { hole = h; ident = filled-same i k } ∷ fills-same r k

at-same : (i : Ident) (space : Space) (occ : Text)
    → renamed_at i space occ nothing ≡ record { at = i; space = space; occ = occ }
at-same (Hole n) space occ = refl
at-same (Module' s (more_of-Unit u end_of-Unit) m) space occ =
    λ k. record { at = filled-same (Module' s (more_of-Unit u end_of-Unit) m) k; space = space; occ = occ }

pub name-same : (n : OrigName) → renamed_name n nothing ≡ n
name-same n = at-same n.at n.space n.occ

-- ---- written types

WApp-is : (s z : _) (a b : Written) → WApp a b ≡ WApp' s (more_of-Written a end_of-Written) z
    (more_of-Written b end_of-Written)
unfolding shape-the_row-Written-0 hidden-the_row-Written-0 hidden
WApp-is s z a b = refl

pub written-same : (t : Written) → renamed_written t nothing ≡ t
written-same (WVar n) = refl
written-same (WCon n) = ap WCon (name-same n)
written-same (WApp' s (more_of-Written a end_of-Written) z (more_of-Written b end_of-Written)) =
    (λ i. WApp (written-same a i) (written-same b i)) ∙ WApp-is s z a b

pub list-same : {A : Type 0} (change : A → A) → ((x : A) → change x ≡ x) → (l : List A) → map change l ≡ l
list-same change e [] = refl
list-same change e (x ∷ l) = λ i. e x i ∷ list-same change e l i

pub field-same : (f : FieldDecl) → renamed_field f nothing ≡ f
field-same f = λ i. record { strict = f.strict; ty = written-same f.ty i }

pub con-same : (c : ConDecl) → renamed_con c nothing ≡ c
con-same c = λ i. record { occ = c.occ; fields = list-same (λ f. renamed_field f nothing) field-same c.fields i }

-- ---- patterns

PCon-is : (n : OrigName) (s : _) (ps : _) → PCon n (shown-the_row-Pat-0 s ps) ≡ PCon' n s ps
unfolding roll-Pat shown-the_row-Pat-0 out-Pat roll out
PCon-is n s ps = roll-out-Pat (PCon' n s ps)

PTuple-is : (s : _) (ps : _) → PTuple (shown-the_row-Pat-0 s ps) ≡ PTuple' s ps
unfolding roll-Pat shown-the_row-Pat-0 out-Pat roll out
PTuple-is s ps = roll-out-Pat (PTuple' s ps)

PList-is : (s : _) (ps : _) → PList (shown-the_row-Pat-0 s ps) ≡ PList' s ps
unfolding roll-Pat shown-the_row-Pat-0 out-Pat roll out
PList-is s ps = roll-out-Pat (PList' s ps)

PAs-is : (n : Text) (s : _) (p : Pat) → PAs n p ≡ PAs' n s (more_of-Pat p end_of-Pat)
unfolding shape-the_row-Pat-1 hidden-the_row-Pat-1 hidden
PAs-is n s p = refl

PLazy-is : (s : _) (p : Pat) → PLazy p ≡ PLazy' s (more_of-Pat p end_of-Pat)
unfolding shape-the_row-Pat-1 hidden-the_row-Pat-1 hidden
PLazy-is s p = refl

mutual
  pub pat-same : (p : Pat) → renamed_pat p nothing ≡ p
  pat-same (PVar n) = refl
  pat-same PWild = refl
  pat-same (PInt w v) = refl
  pat-same (PChr v) = refl
  pat-same (PStr v) = refl
  pat-same (PCon' n s ps) = (λ i. PCon (name-same n i) ((pats-same ps ∙ sym (items_shown-the_row-Pat-0 s ps)) i))
      ∙ PCon-is n s ps
  pat-same (PTuple' s ps) = ap PTuple (pats-same ps ∙ sym (items_shown-the_row-Pat-0 s ps)) ∙ PTuple-is s ps
  pat-same (PList' s ps) = ap PList (pats-same ps ∙ sym (items_shown-the_row-Pat-0 s ps)) ∙ PList-is s ps
  pat-same (PAs' n s (more_of-Pat p end_of-Pat)) = ap (PAs n) (pat-same p) ∙ PAs-is n s p
  pat-same (PLazy' s (more_of-Pat p end_of-Pat)) = ap PLazy (pat-same p) ∙ PLazy-is s p

  pats-same : {m : _} (ps : Row_of-Pat m) → renamed_pats ps nothing ≡ items-the_row-Pat m ps
  pats-same end_of-Pat = refl
  pats-same (more_of-Pat p ps) = λ i. pat-same p i ∷ pats-same ps i
