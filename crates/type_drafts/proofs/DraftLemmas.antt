-- Types as they are written, and the entities of declarations.
use Rattle.std.proofs.Common.{◌≡◌, ℕ, zero, suc, ◌+◌, ◌<◌, ◌≤◌, List, [], ◌∷◌, ◌++◌, length, refl, sym, ap, ap₂, ◌∙◌, subst, arith}
use Rattle.std.proofs.Common.{get_or, drop, append_assoc}
use Rattle.std.proofs.lemmas.List.{drop_more, drop_all, drop-drop, append-nil}
use Rattle.bp_base.specs.Texts.{Text}
use Rattle.bp_base.specs.declared.ident.Ident.{Ident}
use Rattle.bp_base.specs.declared.ty.Kind.{Kind}
use Rattle.bp_base.specs.declared.ty.Ty.{Ty}
use Rattle.bp_base.specs.declared.ty.Ty.TheVariants.{App}
use Rattle.bp_base.specs.declared.entity.Con.{Con as Constructor}
use Rattle.bp_base.specs.declared.entity.Entity.TheVariants.{DataType, Synonym}
use Rattle.bp_base.specs.declared.ty.OrigName.{OrigName}
use Rattle.bp_base.specs.declared.ty.Space.TheVariants.{Types}
use Rattle.hs_core.specs.declared.tree.ConDecl.{ConDecl}
use Rattle.hs_core.specs.declared.tree.Decl.TheVariants.{DataDecl, SynonymDecl}
use Rattle.hs_core.specs.Types.{count}
use Rattle.hs_core.specs.WellTyped.{here}
use Rattle.std.proofs.Common.{Bor, Bool}
use Rattle.std.proofs.lemmas.Option.{none-some}
use Rattle.std.specs.Option.{option_copied}
use Rattle.std.specs.Prelude.{Option, Some, None, slice_get, unwrap_or, map, OnOk}
use Rattle.std.specs.Prelude.{Result, Ok, Err, IfOk}
use Rattle.bp_base.specs.declared.entity.Entity.{Entity}
use Rattle.hs_core.specs.declared.tree.Decl.{Decl}
use Rattle.hs_core.specs.declared.tree.Written.{Written}
use Rattle.hs_core.specs.declared.tree.Written.TheVariants.{WApp}
use Rattle.hs_core.specs.declared.tree.Written.TheBlock.{hidden-the_row-Written-0}
use Rattle.type_drafts.specs.Drafts.{draft_type, draft_con, draft, taken, drafts}
use denote.Hole.Carrier.{hidden}

pub drafted : (ps : List Text) (f a : Written) → draft_type ps (WApp f a) ≡ App (draft_type ps f) (draft_type ps a)
unfolding hidden-the_row-Written-0 hidden
drafted ps f a = refl

-- one more declaration
pub drafts-next : (whole : List Decl) (at : Ident) (ds : List Decl) (ks : List Kind) (i n m : ℕ) (d e : Decl)
    (old new : List Entity) → i < length ds → d ≡ get_or ds i e → new ≡ old ++ draft whole at d (drop n ks)
    → m ≡ n + taken d → old ++ drafts whole at (drop i ds) (drop n ks) ≡ drafts whole at ds ks
    → new ++ drafts whole at (drop (i + 1) ds) (drop m ks) ≡ drafts whole at ds ks
drafts-next whole at ds ks i n m d e old new l is p q h =
    ap (λ z. z ++ drafts whole at (drop (i + 1) ds) (drop m ks)) p
    ∙ append_assoc old (draft whole at d (drop n ks)) (drafts whole at (drop (i + 1) ds) (drop m ks))
    ∙ ap (λ z. old ++ (draft whole at d (drop n ks) ++ drafts whole at (drop (i + 1) ds) z)) (ap (λ j. drop j ks) q
    ∙ sym (drop-drop (taken d) n ks))
    ∙ ap (λ z. old ++ z) (sym (ap (λ z. drafts whole at z (drop n ks)) (drop_more ds i e l)
    ∙ ap (λ z. draft whole at z (drop n ks) ++ drafts whole at (drop (i + 1) ds) (drop (taken z) (drop n ks))) (sym is)))
    ∙ h

-- at the end
pub drafts-end : (whole : List Decl) (at : Ident) (ds : List Decl) (ks : List Kind) (i n : ℕ) (old : List Entity)
    → length ds ≤ i → old ++ drafts whole at (drop i ds) (drop n ks) ≡ drafts whole at ds ks
    → old ≡ drafts whole at ds ks
drafts-end whole at ds ks i n old l h =
    sym (append-nil old) ∙ ap (λ z. old ++ drafts whole at z (drop n ks)) (sym (drop_all i ds l)) ∙ h

-- ---- what was made of the parts of a type

pub made : (ps : List Text) (t f a g b : Written) (x y z : Ty) → t ≡ WApp f a → g ≡ f → b ≡ a → x ≡ draft_type ps g
    → y ≡ draft_type ps b → z ≡ App x y → z ≡ draft_type ps t
made ps t f a g b x y z is p q h k e =
    e ∙ ap₂ App (h ∙ ap (draft_type ps) p) (k ∙ ap (draft_type ps) q) ∙ sym (ap (draft_type ps) is ∙ drafted ps f a)

pub if_ok : {A E : Type 0} (r : Result A E) (P Q : A → Type 0) → ((x : A) → P x → Q x) → IfOk r P → IfOk r Q
if_ok (Ok x) P Q f h = f x h
if_ok (Err e) P Q f h = tt

-- ---- the entity of a type declaration, whose kind is looked up by its number

dropped_none : (ks : List Kind) (n : ℕ) → slice_get ks n ≡ None → drop n ks ≡ []
dropped_none [] zero e = refl
dropped_none [] (suc n) e = refl
dropped_none (k ∷ ks) zero e = absurd (none-some k (sym e))
dropped_none (k ∷ ks) (suc n) e = dropped_none ks n e

dropped_some : (ks : List Kind) (n : ℕ) (k : Kind) → slice_get ks n ≡ Some k → (rest : List Kind)
    × (drop n ks ≡ k ∷ rest)
dropped_some [] zero k e = absurd (none-some k e)
dropped_some [] (suc n) k e = absurd (none-some k e)
dropped_some (j ∷ ks) zero k e = (ks, ap (λ (o : Option Kind). unwrap_or o j ∷ ks) e)
dropped_some (j ∷ ks) (suc n) k e = dropped_some ks n k e

module _ (whole : List Decl) (at : Ident) (d : Decl) (ks : List Kind) (n : ℕ) (r : Option (Bor Kind)) where
  pub no_data : (occ : Text) (w : Bool) (ps : List Text) (cs : List ConDecl) (old : List Entity) → d ≡ DataDecl occ w ps cs
      → r ≡ None → option_copied r ≡ slice_get ks n → old ≡ old ++ draft whole at d (drop n ks)
  no_data occ w ps cs old is e f =
      sym (append-nil old) ∙ ap (λ z. old ++ z) (sym (ap₂ (draft whole at) is
      (dropped_none ks n (sym f ∙ ap option_copied e))))

  pub no_synonym : (occ : Text) (ps : List Text) (t : Written) (old : List Entity) → d ≡ SynonymDecl occ ps t
      → r ≡ None → option_copied r ≡ slice_get ks n → old ≡ old ++ draft whole at d (drop n ks)
  no_synonym occ ps t old is e f =
      sym (append-nil old) ∙ ap (λ z. old ++ z) (sym (ap₂ (draft whole at) is
      (dropped_none ks n (sym f ∙ ap option_copied e))))

  pub data_draft : (k : Bor Kind) (occ : Text) (w : Bool) (ps one two : List Text) (cs given : List ConDecl)
      (name : OrigName) (made : List Constructor) (x : Entity) (old new : List Entity) → d ≡ DataDecl occ w ps cs
      → r ≡ Some k → option_copied r ≡ slice_get ks n → name ≡ here at Types occ → one ≡ ps → given ≡ cs
      → made ≡ map (draft_con whole one) given → two ≡ ps → x ≡ DataType name k.now (count two) w made
      → new ≡ old ++ x ∷ [] → new ≡ old ++ draft whole at d (drop n ks)
  data_draft k occ w ps one two cs given name made x old new is e f g h i j l m p =
      let s = dropped_some ks n k.now (sym f ∙ ap option_copied e) in
      p ∙ ap (λ z. old ++ z) (ap (λ z. z ∷ []) (m ∙ (λ q. DataType (g q) k.now (count (l q)) w
      ((j ∙ ap₂ (λ y z. map (draft_con whole y) z) h i) q))) ∙ sym (ap₂ (draft whole at) is s.1))

  pub synonym_draft : (k : Bor Kind) (occ : Text) (ps one : List Text) (t : Written) (name : OrigName) (x : Entity)
      (old new : List Entity) → d ≡ SynonymDecl occ ps t → r ≡ Some k → option_copied r ≡ slice_get ks n
      → name ≡ here at Types occ → one ≡ ps → x ≡ Synonym name k.now (count one) (draft_type one t)
      → new ≡ old ++ x ∷ [] → new ≡ old ++ draft whole at d (drop n ks)
  synonym_draft k occ ps one t name x old new is e f g h m p =
      let s = dropped_some ks n k.now (sym f ∙ ap option_copied e) in
      p ∙ ap (λ z. old ++ z) (ap (λ z. z ∷ []) (m ∙ (λ q. Synonym (g q) k.now (count (h q)) (draft_type (h q) t)))
      ∙ sym (ap₂ (draft whole at) is s.1))

pub on_ok : {A E : Type 0} (r : Result A E) (P Q : Type 0) → (P → Q) → OnOk r P → OnOk r Q
on_ok (Ok x) P Q f h = f h
on_ok (Err e) P Q f h = tt
