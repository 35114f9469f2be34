-- Types as the table of a scope makes them, layer by layer.
use Rattle.std.proofs.Common.{◌≡◌, ℕ, suc, List, [], ◌∷◌, ◌++◌, length, refl, sym, ap, ap₂, ◌∙◌, subst}
use Rattle.std.specs.Prelude.{Option, Result, Ok, Err}
use Rattle.bp_base.specs.Texts.{Text}
use Rattle.bp_base.specs.declared.special.Special.TheVariants as sp
use Rattle.hs_trees.specs.declared.types.TypeTree.{TypeTree, out-TypeTree, roll-TypeTree, roll-out-TypeTree}
use Rattle.hs_trees.specs.declared.types.BTypeTree.{BTypeTree}
use Rattle.hs_trees.specs.declared.types.ATypeTree.{ATypeTree}
use Rattle.hs_trees.specs.declared.types.ATypeTree.TheVariants as va
use Rattle.hs_trees.specs.declared.types.ATypeTree.TheBlock.{hidden-the_row-TypeTree-0, hidden-the_row-TypeTree-1}
use Rattle.hs_trees.specs.declared.types.ATypeTree.TheBlock.{hidden-the_row-ATypeTree-2, hidden-the_row-BTypeTree-3}
use Rattle.hs_core.specs.declared.tree.Written.{Written}
use Rattle.hs_core.specs.declared.tree.Written.TheVariants.{WApp}
use Rattle.hs_scopes.specs.Types.{applied_to, arrow_to, bracketed_types, parts_count}
use Rattle.scope_table.specs.declared.table.ScopeTable.{ScopeTable}
use Rattle.name_resolve.specs.Modules.{NameFault}
use Rattle.type_resolve.specs.declared.error.NameError.{NameError}
use Rattle.type_resolve.specs.Names.{Answers, next}
use Rattle.type_resolve.specs.Found.{both_found, special_type, together, all_found, args_found, tuple_found}
use Rattle.type_resolve.specs.Found.{arrow_chain, arrows_to, type_found, arrows_found}
use Rattle.type_resolve.specs.Found.{atype_found, types_found, atypes_found}
use Rattle.type_resolve.specs.Found.{btype_found}
use denote.Hole.Carrier.{hidden, roll}

-- ---- lists

one_more : (u v : Written) (r : Result (List Written) NameFault)
    → next r (λ us. Ok (applied_to (WApp u v) us)) ≡ next (together (v ∷ []) r) (λ us. Ok (applied_to u us))
one_more u v (Ok us) = refl
one_more u v (Err e) = refl

args_by : {A : Type 0} (f : A → Result Written NameFault) (u : Written) (r : Result Written NameFault) (xs : List A)
    → ((v : Written) → args_found f v xs ≡ next (all_found f xs) (λ us. Ok (applied_to v us)))
    → next r (λ v. args_found f (WApp u v) xs)
    ≡ next (next r (λ v. together (v ∷ []) (all_found f xs))) (λ us. Ok (applied_to u us))
args_by f u (Ok v) xs h = h (WApp u v) ∙ one_more u v (all_found f xs)
args_by f u (Err e) xs h = refl

-- arguments one after another are those of the list
pub args_are : {A : Type 0} (f : A → Result Written NameFault) (u : Written) (xs : List A)
    → args_found f u xs ≡ next (all_found f xs) (λ us. Ok (applied_to u us))
args_are f u [] = refl
args_are f u (x ∷ xs) = args_by f u (f x) xs (λ v. args_are f v xs)

-- the same behind the first
pub behind_first : {A : Type 0} (f : A → Result Written NameFault) (r : Result Written NameFault) (xs : List A)
    → next r (λ u. args_found f u xs) ≡ both_found applied_to r (all_found f xs)
behind_first f (Ok u) xs = args_are f u xs
behind_first f (Err e) xs = refl

-- ---- tuples

abbrev HasLength : ℕ → Result (List Written) NameFault → Type 0
HasLength n (Ok us) = length us ≡ n
HasLength n (Err e) = Unit {0}

length_by : (n : ℕ) (v : Written) (r : Result (List Written) NameFault) → HasLength n r
    → HasLength (suc n) (together (v ∷ []) r)
length_by n v (Ok us) h = ap suc h
length_by n v (Err e) h = tt

length_then : {A : Type 0} (f : A → Result Written NameFault) (r : Result Written NameFault) (xs : List A)
    → HasLength (length xs) (all_found f xs)
    → HasLength (suc (length xs)) (next r (λ v. together (v ∷ []) (all_found f xs)))
length_then f (Ok v) xs h = length_by (length xs) v (all_found f xs) h
length_then f (Err e) xs h = tt

-- as many as there are items
all_length : {A : Type 0} (f : A → Result Written NameFault) (xs : List A) → HasLength (length xs) (all_found f xs)
all_length f [] = refl
all_length f (x ∷ xs) = length_then f (f x) xs (all_length f xs)

counted : (us : List Written) → parts_count us ≡ suc (length us)
counted [] = refl
counted (u ∷ us) = ap suc (counted us)

tuple_of : (u : Written) (n : ℕ) (r : Result (List Written) NameFault) → HasLength (suc n) r
    → next r (λ us. Ok (applied_to (WApp (special_type (sp.Tuple (suc (suc n)))) u) us))
    ≡ next r (λ us. Ok (bracketed_types u us (parts_count us)))
tuple_of u n (Ok []) h = absurd (cc)
tuple_of u n (Ok (v ∷ vs)) h =
    ap (λ k. Ok (applied_to (special_type (sp.Tuple k)) (u ∷ v ∷ vs))) (sym (counted (v ∷ vs) ∙ ap suc h))
tuple_of u n (Err e) h = refl

-- brackets about one type vanish, and more are a tuple
tuple_is : {A : Type 0} (f : A → Result Written NameFault) (u : Written) (xs : List A)
    → tuple_found f u xs ≡ next (all_found f xs) (λ us. Ok (bracketed_types u us (parts_count us)))
tuple_is f u [] = refl
tuple_is f u (y ∷ ys) =
    args_are f (WApp (special_type (sp.Tuple (suc (suc (length ys))))) u) (y ∷ ys)
    ∙ tuple_of u (length ys) (all_found f (y ∷ ys)) (all_length f (y ∷ ys))

-- the same behind the first
behind_bracket : {A : Type 0} (f : A → Result Written NameFault) (r : Result Written NameFault) (xs : List A)
    → both_found (λ u us. bracketed_types u us (parts_count us)) r (all_found f xs)
    ≡ next r (λ u. tuple_found f u xs)
behind_bracket f (Ok u) xs = sym (tuple_is f u xs)
behind_bracket f (Err e) xs = refl

-- ---- arrows

arrow_by : (u v : Written) (r : Result (List Written) NameFault)
    → next (next r (λ us. Ok (arrow_chain v us))) (λ w. Ok (arrow_to u w))
    ≡ next (together (v ∷ []) r) (λ us. Ok (arrow_chain u us))
arrow_by u v (Ok us) = refl
arrow_by u v (Err e) = refl

arrow_first : (u : Written) (r : Result Written NameFault) (s : Result (List Written) NameFault)
    → next (next r (λ v. next s (λ us. Ok (arrow_chain v us)))) (λ w. Ok (arrow_to u w))
    ≡ next (next r (λ v. together (v ∷ []) s)) (λ us. Ok (arrow_chain u us))
arrow_first u (Ok v) s = arrow_by u v s
arrow_first u (Err e) s = refl

arrow_step : (q r : Result Written NameFault) (s : Result (List Written) NameFault)
    → both_found arrow_to q (next r (λ v. next s (λ us. Ok (arrow_chain v us))))
    ≡ next q (λ u. next (next r (λ v. together (v ∷ []) s)) (λ us. Ok (arrow_chain u us)))
arrow_step (Ok u) r s = arrow_first u r s
arrow_step (Err e) r s = refl

-- the types before the last, from the right
pub chain_is : (first last : Written) (before : List Written)
    → arrow_to first (arrows_to before last) ≡ arrow_chain first (before ++ last ∷ [])
chain_is first last [] = refl
chain_is first last (t ∷ ts) = ap (arrow_to first) (chain_is t last ts)

pub arrow_turn : (before : List Written) (from to : Written)
    → arrows_to before (arrow_to from to) ≡ arrows_to (before ++ from ∷ []) to
arrow_turn [] from to = refl
arrow_turn (t ∷ ts) from to = ap (arrow_to t) (arrow_turn ts from to)

pub ruleset arrow_steps = (chain_is, arrow_turn)

no_arrow : (r : Result Written NameFault) → r ≡ next r (λ v. Ok (arrow_chain v []))
no_arrow (Ok v) = refl
no_arrow (Err e) = refl

module _ (t : ScopeTable) (h : Option (List Text)) where
  -- ---- a row is its list

  types_list : (l : List TypeTree) → types_found t h (hidden-the_row-TypeTree-1 l) ≡ all_found (type_found t h) l
  unfolding hidden-the_row-TypeTree-1 hidden
  types_list [] = refl
  types_list (x ∷ xs) = ap (λ r. next (type_found t h x) (λ u. together (u ∷ []) r)) (types_list xs)

  atypes_list : (l : List ATypeTree) → atypes_found t h (hidden-the_row-ATypeTree-2 l) ≡ all_found (atype_found t h) l
  unfolding hidden-the_row-ATypeTree-2 hidden
  atypes_list [] = refl
  atypes_list (x ∷ xs) = ap (λ r. next (atype_found t h x) (λ u. together (u ∷ []) r)) (atypes_list xs)

  -- a type with its arguments, as they stand in a row
  btype_is : (b : BTypeTree) → both_found applied_to (atype_found t h b.first)
      (atypes_found t h (hidden-the_row-ATypeTree-2 b.rest)) ≡ btype_found t h b
  btype_is b = ap (both_found applied_to (atype_found t h b.first)) (atypes_list b.rest)
      ∙ sym (behind_first (atype_found t h) (atype_found t h b.first) b.rest)

  arrows_list : (l : List BTypeTree) (q : Result Written NameFault)
      → arrows_found t h q (hidden-the_row-BTypeTree-3 l)
      ≡ next q (λ u. next (all_found (btype_found t h) l) (λ us. Ok (arrow_chain u us)))
  unfolding hidden-the_row-BTypeTree-3 hidden
  arrows_list [] q = no_arrow q
  arrows_list (b ∷ l) q = ap (both_found arrow_to q) (arrows_list l _
      ∙ ap (λ r. next r (λ v. next (all_found (btype_found t h) l) (λ us. Ok (arrow_chain v us)))) (btype_is b))
      ∙ arrow_step q (btype_found t h b) (all_found (btype_found t h) l)

  -- ---- each layer

  type_roll : (b : BTypeTree) (l : List BTypeTree)
      → type_found t h (roll-TypeTree (record { first = b; rest = l })) ≡ next (btype_found t h b)
      (λ u. next (all_found (btype_found t h) l) (λ us. Ok (arrow_chain u us)))
  unfolding roll-TypeTree roll
  type_roll b l = arrows_list l _
      ∙ ap (λ r. next r (λ u. next (all_found (btype_found t h) l) (λ us. Ok (arrow_chain u us)))) (btype_is b)

  pub type_at : (x : TypeTree) → type_found t h x ≡ next (btype_found t h (out-TypeTree x).first)
      (λ u. next (all_found (btype_found t h) (out-TypeTree x).rest) (λ us. Ok (arrow_chain u us)))
  type_at x = ap (type_found t h) (sym (roll-out-TypeTree x)) ∙ type_roll _ _

  pub at-Parts : (x : TypeTree) (xs : List TypeTree)
      → atype_found t h (va.Parts x xs) ≡ next (type_found t h x) (λ u. tuple_found (type_found t h) u xs)
  unfolding hidden-the_row-TypeTree-0 hidden
  at-Parts x xs = ap (both_found (λ u us. bracketed_types u us (parts_count us)) (type_found t h x)) (types_list xs)
      ∙ behind_bracket (type_found t h) (type_found t h x) xs

  pub at-List : (x : TypeTree)
      → atype_found t h (va.List x) ≡ next (type_found t h x) (λ u. Ok (WApp (special_type sp.List) u))
  unfolding hidden-the_row-TypeTree-0 hidden
  at-List x = refl

  pub in-Parts : (x : ATypeTree) (y z : TypeTree) (ys zs : List TypeTree) (u : Written) (r : Result Written NameError)
      → x ≡ va.Parts y ys → z ≡ y → zs ≡ ys → type_found t h z ≡ Ok u → Answers (tuple_found (type_found t h) u zs) r
      → Answers (atype_found t h x) r
  in-Parts x y z ys zs u r is p q e a = subst (λ m. Answers m r) (sym (ap (atype_found t h) is ∙ at-Parts y ys
      ∙ ap₂ (λ v vs. next (type_found t h v) (λ w. tuple_found (type_found t h) w vs)) (sym p) (sym q)
      ∙ ap (λ v. next v (λ w. tuple_found (type_found t h) w zs)) e)) a

pub ruleset type_layers = (type_at, at-Parts, at-List)
