-- What the table of a scope makes of a type is what its names give.
use Rattle.std.proofs.Common.{◌≡◌, List, [], ◌∷◌, ◌++◌, refl, sym, ap, subst, inl, inr, append_assoc, append-nil}
use Rattle.std.proofs.Common.{Bool, true, false}
use Rattle.std.specs.Prelude.{◌⊎◌, flat_map, Option, Some, None, Result, Ok, Err, if◌then◌else◌}
use Rattle.bp_base.specs.Texts.{Text}
use Rattle.bp_base.specs.Lists.{is_among}
use Rattle.bp_base.specs.declared.ty.Space.{Space}
use Rattle.bp_base.specs.declared.ty.Space.TheVariants.{Types}
use Rattle.bp_base.specs.declared.ty.OrigName.{OrigName}
use Rattle.bp_checks.specs.Check.{Check, given, PassesAll, FailsIn}
use Rattle.bp_base.specs.declared.special.Special.TheVariants as sp
use Rattle.hs_trees.specs.declared.types.TypeTree.{TypeTree, TypeTree'}
use Rattle.hs_trees.specs.declared.types.BTypeTree.{BTypeTree}
use Rattle.hs_trees.specs.declared.types.ATypeTree.{ATypeTree}
use Rattle.hs_trees.specs.declared.types.ATypeTree.TheVariants as ty
use Rattle.hs_trees.specs.declared.types.ATypeTree.TheBlock.{Row_of-TypeTree, end_of-TypeTree, more_of-TypeTree}
use Rattle.hs_trees.specs.declared.types.ATypeTree.TheBlock.{Row_of-ATypeTree, end_of-ATypeTree, more_of-ATypeTree}
use Rattle.hs_trees.specs.declared.types.ATypeTree.TheBlock.{Row_of-BTypeTree, end_of-BTypeTree, more_of-BTypeTree}
use Rattle.hs_core.specs.declared.tree.Written.{Written}
use Rattle.hs_core.specs.declared.tree.Written.TheVariants.{WVar, WApp}
use Rattle.hs_scopes.specs.declared.scope.ScopeItem.{ScopeItem}
use Rattle.hs_scopes.specs.declared.scope.MeaningFault.{MeaningFault}
use Rattle.hs_scopes.specs.Words.{word_of}
use Rattle.hs_scopes.specs.Meanings.{candidates, meaning}
use Rattle.hs_scopes.specs.Some.{if_some, if_both, if_all}
use Rattle.hs_scopes.specs.Types.{written_con, arrow_to, applied_to, bracketed_types, parts_count, arrows}
use Rattle.hs_scopes.specs.Types.{resolved_type, resolved_atype, resolved_types, resolved_atypes}
use Rattle.hs_scopes.proofs.MeaningLemmas.{meant_is_meaning}
use Rattle.scope_table.specs.declared.candidate.Candidate.{Candidate}
use Rattle.scope_table.specs.declared.table.ScopeTable.{ScopeTable}
use Rattle.scope_table.specs.Candidates.{chosen}
use Rattle.scope_table.specs.Laws.{SaysMeant}
use Rattle.scope_table.proofs.MeantLemmas.{tables_mean}
use Rattle.name_resolve.specs.Asked.{Part, Reference, refer, variable_parts, type_parts, btypes_parts, atype_parts}
use Rattle.name_resolve.specs.Asked.{types_parts, atypes_parts}
use Rattle.name_resolve.specs.Modules.{Done, NameFault, reference_meant, reference_of}
use Rattle.name_resolve.specs.Modules.{resolved_btype}
use Rattle.type_resolve.specs.declared.error.NameError.{NameError}
use Rattle.type_resolve.specs.declared.error.NameError.TheVariants as err
use Rattle.type_resolve.specs.Names.{IsTableOf, Answers, next, table_says, with_name, meaning_found, variable_found}
use Rattle.type_resolve.specs.Given.{Judges, name_gives, made_of, there, btype_parts, type_gives, btype_gives}
use Rattle.type_resolve.specs.Given.{atype_gives}
use Rattle.type_resolve.specs.Found.{both_found, together, all_found, special_type, type_found, arrows_found}
use Rattle.type_resolve.specs.Found.{atype_found, types_found, atypes_found, btype_found}
use Rattle.type_resolve.proofs.LayerLemmas.{behind_first}

-- ---- references in order

abbrev part_meant : List ScopeItem → Part → Check Done NameFault
part_meant items (Part.refers r) = reference_meant items r
part_meant items (Part.group is) = given tt

abbrev AllMeant : List ScopeItem → List Part → Type 0
AllMeant items [] = Unit {0}
AllMeant items (p ∷ ps) = (part_meant items p).passes tt × AllMeant items ps

abbrev FirstFails : List ScopeItem → List Part → NameFault → Type 0
FirstFails items [] f = ⊥
FirstFails items (p ∷ ps) f = (part_meant items p).fails f ⊎ ((part_meant items p).passes tt × FirstFails items ps f)

both_meant : (items : List ScopeItem) (ps qs : List Part) → AllMeant items ps → AllMeant items qs
    → AllMeant items (ps ++ qs)
both_meant items [] qs a b = b
both_meant items (p ∷ ps) qs a b = (a.0, both_meant items ps qs a.1 b)

fails_first : (items : List ScopeItem) (ps qs : List Part) (f : NameFault) → FirstFails items ps f
    → FirstFails items (ps ++ qs) f
fails_first items [] qs f h = absurd h
fails_first items (p ∷ ps) qs f (inl h) = inl h
fails_first items (p ∷ ps) qs f (inr h) = inr (h.0, fails_first items ps qs f h.1)

fails_later : (items : List ScopeItem) (ps qs : List Part) (f : NameFault) → AllMeant items ps → FirstFails items qs f
    → FirstFails items (ps ++ qs) f
fails_later items [] qs f a h = h
fails_later items (p ∷ ps) qs f a h = inr (a.0, fails_later items ps qs f a.1 h)

abbrev meets : List ScopeItem → List Done → Reference → Check Done NameFault
meets items done r = reference_meant items r

all_pass : (items : List ScopeItem) (ps : List Part) (done : List Done) → AllMeant items ps
    → (ds : List Done) × PassesAll (meets items) done (flat_map reference_of ps) ds
all_pass items [] done a = (done, refl)
all_pass items (Part.refers r ∷ ps) done a =
    let m = all_pass items ps (done ++ tt ∷ []) a.1 in (m.0, (tt, a.0, m.1))
all_pass items (Part.group is ∷ ps) done a = all_pass items ps done a.1

one_fails : (items : List ScopeItem) (ps : List Part) (done : List Done) (f : NameFault) → FirstFails items ps f
    → FailsIn (meets items) done (flat_map reference_of ps) f
one_fails items [] done f h = h
one_fails items (Part.refers r ∷ ps) done f (inl h) = inl h
one_fails items (Part.refers r ∷ ps) done f (inr h) = inr (tt, h.0, one_fails items ps (done ++ tt ∷ []) f h.1)
one_fails items (Part.group is ∷ ps) done f (inl h) = absurd h
one_fails items (Part.group is ∷ ps) done f (inr h) = one_fails items ps done f h.1

-- ---- what is found fits the parts and what is made of them

abbrev Fits : {A : Type 0} → List ScopeItem → List Part → Option A → Result A NameFault → Type 0
Fits items ps o (Ok a) = AllMeant items ps × (o ≡ Some a)
Fits items ps o (Err f) = FirstFails items ps f

-- an answer that passes, or a fault that is one
abbrev Meets : {B : Type 0} → Check B NameFault → Result B NameFault → Type 0
Meets check (Ok b) = check.passes b
Meets check (Err f) = check.fails f

answered : {B : Type 0} (check : Check B NameFault) (meant : Result B NameFault) (r : Result B NameError)
    → Meets check meant → Answers meant r → Judges check r
answered check meant (Ok b) m a = subst (λ x. Meets check x) a m
answered check meant (Err (err.NotInScope n)) m a = subst (λ x. Meets check x) a m
answered check meant (Err (err.AmbiguousName n)) m a = subst (λ x. Meets check x) a m
answered check meant (Err err.NoMemory) m a = tt

fit_meets : {A : Type 0} (items : List ScopeItem) (ps : List Part) (o : Option A) (r : Result A NameFault)
    → Fits items ps o r → Meets (made_of items ps o) r
fit_meets {A = A} items ps o (Ok a) h =
    let p = all_pass items ps [] h.0 in
    (p.0, p.1, subst (λ (x : Option A). (there x).passes a) (sym h.1) refl)
fit_meets items ps o (Err f) h = inl (one_fails items ps [] f h)

judged : {A : Type 0} (items : List ScopeItem) (ps : List Part) (o : Option A) (meant : Result A NameFault)
    (r : Result A NameError) → Fits items ps o meant → Answers meant r → Judges (made_of items ps o) r
judged items ps o meant r h a = answered (made_of items ps o) meant r (fit_meets items ps o meant h) a

fits_both : {A B C : Type 0} (items : List ScopeItem) (f : A → B → C) (ps qs : List Part) (o : Option A) (q : Option B)
    (r : Result A NameFault) (s : Result B NameFault) → Fits items ps o r → Fits items qs q s
    → Fits items (ps ++ qs) (if_both f o q) (both_found f r s)
fits_both items f ps qs o q (Ok a) (Ok b) h k = (both_meant items ps qs h.0 k.0, λ i. if_both f (h.1 i) (k.1 i))
fits_both items f ps qs o q (Ok a) (Err e) h k = fails_later items ps qs e h.0 k
fits_both items f ps qs o q (Err e) s h k = fails_first items ps qs e h

fits_some : {A B : Type 0} (items : List ScopeItem) (f : A → B) (ps : List Part) (o : Option A)
    (r : Result A NameFault) → Fits items ps o r → Fits items ps (if_some f o) (next r (λ a. Ok (f a)))
fits_some items f ps o (Ok a) h = (h.0, ap (if_some f) h.1)
fits_some items f ps o (Err e) h = h

cons_is : {A : Type 0} (r : Result A NameFault) (s : Result (List A) NameFault)
    → both_found (λ u us. u ∷ us) r s ≡ next r (λ u. together (u ∷ []) s)
cons_is (Ok a) (Ok as') = refl
cons_is (Ok a) (Err e) = refl
cons_is (Err e) s = refl

fits_cons : {A : Type 0} (items : List ScopeItem) (ps qs : List Part) (o : Option A) (q : Option (List A))
    (r : Result A NameFault) (s : Result (List A) NameFault) → Fits items ps o r → Fits items qs q s
    → Fits items (ps ++ qs) (if_both (λ u us. u ∷ us) o q) (next r (λ u. together (u ∷ []) s))
fits_cons items ps qs o q r s h k =
    subst (λ x. Fits items (ps ++ qs) (if_both (λ u us. u ∷ us) o q) x) (cons_is r s)
    (fits_both items (λ u us. u ∷ us) ps qs o q r s h k)

-- ---- names

-- what a table says of a name, with the name
abbrev Meant : List ScopeItem → Space → Text → Result Candidate MeaningFault → Type 0
Meant items space x r = SaysMeant (candidates items space (word_of x)) r

said : (items : List ScopeItem) (table : ScopeTable) (space : Space) (x : Text) → IsTableOf table items
    → Meant items space x (table_says table space (word_of x))
said items table space x t =
    subst (λ (cs : List Candidate). Meant items space x (chosen space (word_of x).qualifier None cs))
    (sym (t (word_of x).occ)) (tables_mean items space (word_of x))

abbrev found_as : Text → Result Candidate MeaningFault → Result OrigName NameFault
found_as x r = next (with_name x r) (λ c. Ok c.name)

name_fits : (items : List ScopeItem) (space : Space) (x : Text) (r : Result Candidate MeaningFault)
    → Meant items space x r → Fits items (refer space x) (meaning items space (word_of x)) (found_as x r)
name_fits items space x (Ok c) m =
    (((c.name, m.0, refl), tt), meant_is_meaning items space x c.name m.0)
name_fits items space x (Err f) m = inl (inl (f, m, refl))

name_meets : (items : List ScopeItem) (space : Space) (x : Text) (m : Result Candidate MeaningFault)
    → Meant items space x m → Meets (name_gives items space x) (found_as x m)
name_meets items space x (Ok c) m = m.0
name_meets items space x (Err f) m = (f, m, refl)

pub name_judged : (items : List ScopeItem) (table : ScopeTable) (space : Space) (x : Text)
    (r : Result OrigName NameError) → IsTableOf table items → Answers (meaning_found table space x) r
    → Judges (name_gives items space x) r
name_judged items table space x r t a = answered (name_gives items space x) (meaning_found table space x) r
    (name_meets items space x (table_says table space (word_of x)) (said items table space x t)) a

variable_by : (items : List ScopeItem) (head : List Text) (x : Text) (b : Bool) → is_among x head ≡ b
    → Fits items (variable_parts (Some head) x) (Some x) (if b then Ok x else Err (NameFault.NotInScope x))
variable_by items head x true e = (rw e (refl, tt), refl)
variable_by items head x false e = inl (rw e refl)

variable_fits : (items : List ScopeItem) (head : Option (List Text)) (x : Text)
    → Fits items (variable_parts head x) (Some x) (variable_found head x)
variable_fits items None x = (tt, refl)
variable_fits items (Some head) x = variable_by items head x (is_among x head) refl

-- ---- types

module _ (items : List ScopeItem) (table : ScopeTable) (head : Option (List Text)) (t : IsTableOf table items) where
  mutual
    type_fits : (x : TypeTree) → Fits items (type_parts head x) (resolved_type items x) (type_found table head x)
    type_fits (TypeTree' a s r z bs) =
        subst (λ ps. Fits items ps
        (arrows items (if_both applied_to (resolved_atype items a) (resolved_atypes items r)) bs)
        (arrows_found table head (both_found applied_to (atype_found table head a) (atypes_found table head r)) bs))
        (append_assoc (atype_parts head a) (atypes_parts head r) (btypes_parts head bs))
        (arrows_fit bs (atype_parts head a ++ atypes_parts head r)
        (if_both applied_to (resolved_atype items a) (resolved_atypes items r))
        (both_found applied_to (atype_found table head a) (atypes_found table head r))
        (fits_both items applied_to (atype_parts head a) (atypes_parts head r) (resolved_atype items a)
        (resolved_atypes items r) (atype_found table head a) (atypes_found table head r) (atype_fits a) (atypes_fit r)))

    arrows_fit : {m : _} (bs : Row_of-BTypeTree m) (ps : List Part) (o : Option Written) (q : Result Written NameFault)
        → Fits items ps o q
        → Fits items (ps ++ btypes_parts head bs) (arrows items o bs) (arrows_found table head q bs)
    arrows_fit end_of-BTypeTree ps o q h = subst (λ l. Fits items l o q) (sym (append-nil ps)) h
    arrows_fit (more_of-BTypeTree a s r bs) ps o q h =
        fits_both items arrow_to ps (atype_parts head a ++ (atypes_parts head r ++ btypes_parts head bs)) o
        (arrows items (if_both applied_to (resolved_atype items a) (resolved_atypes items r)) bs) q
        (arrows_found table head (both_found applied_to (atype_found table head a) (atypes_found table head r)) bs) h
        (subst (λ ps'. Fits items ps'
        (arrows items (if_both applied_to (resolved_atype items a) (resolved_atypes items r)) bs)
        (arrows_found table head (both_found applied_to (atype_found table head a) (atypes_found table head r)) bs))
        (append_assoc (atype_parts head a) (atypes_parts head r) (btypes_parts head bs))
        (arrows_fit bs (atype_parts head a ++ atypes_parts head r)
        (if_both applied_to (resolved_atype items a) (resolved_atypes items r))
        (both_found applied_to (atype_found table head a) (atypes_found table head r))
        (fits_both items applied_to (atype_parts head a) (atypes_parts head r) (resolved_atype items a)
        (resolved_atypes items r) (atype_found table head a) (atypes_found table head r) (atype_fits a)
        (atypes_fit r))))

    atype_fits : (x : ATypeTree) → Fits items (atype_parts head x) (resolved_atype items x) (atype_found table head x)
    atype_fits (ty.Con x) = fits_some items written_con (refer Types x) (meaning items Types (word_of x))
        (meaning_found table Types x)
        (name_fits items Types x (table_says table Types (word_of x)) (said items table Types x t))
    atype_fits ty.Unit = (tt, refl)
    atype_fits ty.ListCon = (tt, refl)
    atype_fits ty.ArrowCon = (tt, refl)
    atype_fits (ty.TupleCon n) = (tt, refl)
    atype_fits (ty.Var x) = fits_some items (λ a. WVar a) (variable_parts head x) (Some x) (variable_found head x)
        (variable_fits items head x)
    atype_fits (ty.Parts' s (more_of-TypeTree x end_of-TypeTree) z xs) =
        fits_both items (λ u us. bracketed_types u us (parts_count us)) (type_parts head x) (types_parts head xs)
        (resolved_type items x) (resolved_types items xs) (type_found table head x) (types_found table head xs)
        (type_fits x) (types_fit xs)
    atype_fits (ty.List' s (more_of-TypeTree x end_of-TypeTree)) =
        fits_some items (λ u. WApp (special_type sp.List) u) (type_parts head x) (resolved_type items x)
        (type_found table head x) (type_fits x)

    types_fit : {m : _} (xs : Row_of-TypeTree m)
        → Fits items (types_parts head xs) (resolved_types items xs) (types_found table head xs)
    types_fit end_of-TypeTree = (tt, refl)
    types_fit (more_of-TypeTree x xs) =
        fits_cons items (type_parts head x) (types_parts head xs) (resolved_type items x) (resolved_types items xs)
        (type_found table head x) (types_found table head xs) (type_fits x) (types_fit xs)

    atypes_fit : {m : _} (xs : Row_of-ATypeTree m)
        → Fits items (atypes_parts head xs) (resolved_atypes items xs) (atypes_found table head xs)
    atypes_fit end_of-ATypeTree = (tt, refl)
    atypes_fit (more_of-ATypeTree x xs) =
        fits_cons items (atype_parts head x) (atypes_parts head xs) (resolved_atype items x) (resolved_atypes items xs)
        (atype_found table head x) (atypes_found table head xs) (atype_fits x) (atypes_fit xs)

  args_fit : (xs : List ATypeTree) → Fits items (flat_map (atype_parts head) xs) (if_all (resolved_atype items) xs)
      (all_found (atype_found table head) xs)
  args_fit [] = (tt, refl)
  args_fit (x ∷ xs) =
      fits_cons items (atype_parts head x) (flat_map (atype_parts head) xs) (resolved_atype items x)
      (if_all (resolved_atype items) xs) (atype_found table head x) (all_found (atype_found table head) xs)
      (atype_fits x) (args_fit xs)

  btype_fits : (x : BTypeTree) → Fits items (btype_parts head x) (resolved_btype items x) (btype_found table head x)
  btype_fits x =
      subst (λ q. Fits items (btype_parts head x) (resolved_btype items x) q)
      (sym (behind_first (atype_found table head) (atype_found table head x.first) x.rest))
      (fits_both items applied_to (atype_parts head x.first) (flat_map (atype_parts head) x.rest)
      (resolved_atype items x.first) (if_all (resolved_atype items) x.rest) (atype_found table head x.first)
      (all_found (atype_found table head) x.rest) (atype_fits x.first) (args_fit x.rest))

  -- what the functions answer is judged

  pub type_judged : (x : TypeTree) (r : Result Written NameError) → Answers (type_found table head x) r
      → Judges (type_gives items head x) r
  type_judged x r a =
      judged items (type_parts head x) (resolved_type items x) (type_found table head x) r (type_fits x) a

  pub btype_judged : (x : BTypeTree) (r : Result Written NameError) → Answers (btype_found table head x) r
      → Judges (btype_gives items head x) r
  btype_judged x r a =
      judged items (btype_parts head x) (resolved_btype items x) (btype_found table head x) r (btype_fits x) a

  pub atype_judged : (x : ATypeTree) (r : Result Written NameError) → Answers (atype_found table head x) r
      → Judges (atype_gives items head x) r
  atype_judged x r a =
      judged items (atype_parts head x) (resolved_atype items x) (atype_found table head x) r (atype_fits x) a
