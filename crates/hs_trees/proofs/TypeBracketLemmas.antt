-- How an `atype` in brackets is read or refused.
use Rattle.std.proofs.Common.{◌≡◌, ℕ, zero, suc, ◌<◌, Bool, true, false, List, [], ◌∷◌, ◌++◌, refl, sym, ap, ◌∙◌, subst}
use Rattle.std.proofs.Common.{true≢false, arith}
use Rattle.std.specs.Prelude.{replicate, Option}
use Rattle.std.proofs.lemmas.Bool.Decides.{nat_tests}
use Rattle.hs_forms.specs.Reading.{Form, SameStart, begins, Reads, Refuses}
use Rattle.hs_forms.specs.Limits.{Within, lowered}
use Rattle.hs_trees.specs.Types.{starts_atype, spelling_atype, spelling_type, depth_of_atype, depth_of_type, is_atype}
use Rattle.hs_trees.specs.Types.{is_type, Parts, spelling_parts, depth_of_parts, are_parts, atype_form, type_form}
use Rattle.hs_trees.specs.Types.{parts_form, tuple_name_form, named_type, starts_tuple_name}
use Rattle.hs_tokens.specs.Terminals.{is_arrow, is_right_paren, is_right_bracket}
use Rattle.hs_tokens.specs.declared.terminal.Terminal.{Terminal}
use Rattle.hs_tokens.specs.declared.terminal.Terminal.TheVariants as t
use Rattle.hs_trees.specs.declared.types.ATypeTree.{ATypeTree, ATypeTree-F}
use Rattle.hs_trees.specs.declared.types.ATypeTree.TheVariants as a
use Rattle.hs_trees.specs.declared.types.TypeTree.{TypeTree}
use Rattle.hs_forms.proofs.FormLemmas.{begins_append, begins_same, same_start_append}
use Rattle.hs_forms.specs.Forms.{closed}
use Rattle.hs_forms.proofs.LimitLemmas.{within_less, within_lowered, within_raised, within_zero}
use Rattle.hs_trees.proofs.TypeLayerLemmas.{atype_spelled, atype_deep, atype_is, atype_starts, type_starts}
use Rattle.hs_trees.proofs.TypeCaseLemmas.{ParenCase, of_arrow, of_commas, of_parts, paren_cases, BracketCase}
use Rattle.hs_trees.proofs.TypeCaseLemmas.{of_list_con, of_list, bracket_cases, parts_spelled, parts_deep, parts_are}
use Rattle.hs_trees.proofs.TypeCaseLemmas.{list_spelled, list_deep, list_is}

-- the tokens after which a bracket is no round bracket about types
abbrev pub ends_name : Terminal → Bool
ends_name t.RightParen = true
ends_name t.Arrow = true
ends_name t.Comma = true
ends_name _ = false

parts_start : (p : Parts) (after : List Terminal) → begins starts_atype
    ((spelling_parts p ++ t.RightParen ∷ []) ++ after) ≡ true
parts_start p after =
    begins_append starts_atype (spelling_parts p ++ t.RightParen ∷ []) after
    (begins_append starts_atype (spelling_parts p) _
    (begins_append starts_atype (spelling_type p.0) _ (type_starts p.0)))

not_parts : (p : Parts) (s after : List Terminal) → begins starts_atype s ≡ false
    → s ≡ (spelling_parts p ++ t.RightParen ∷ []) ++ after → ⊥
not_parts p s after ends e = true≢false (sym (ap (begins starts_atype) e ∙ parts_start p after) ∙ ends)

module _ (limit : Option ℕ) where
  paren_read : (x : ATypeTree) (body rest : List Terminal) → spelling_atype x ≡ t.LeftParen ∷ body → is_atype x ≡ true
      → Within limit (depth_of_atype x) →
      ((s : List Terminal) (other : ATypeTree) (after : List Terminal) → SameStart rest s
      → (is_atype other ≡ true) × Within limit (depth_of_atype other) →
      ParenCase other (body ++ s) after → (other ≡ x) × (after ≡ s)) →
      Reads (atype_form limit) x rest
  paren_read x body rest spelled is within decide = record {
    good = (is, within);
    only = λ s other after same good quiet e.
        decide s other after same good (paren_cases other (body ++ s) after good.0 (sym (ap (λ l. l ++ s) spelled)
        ∙ e));
  }

  bracket_read : (x : ATypeTree) (body rest : List Terminal) → spelling_atype x ≡ t.LeftBracket ∷ body
      → is_atype x ≡ true → Within limit (depth_of_atype x) →
      ((s : List Terminal) (other : ATypeTree) (after : List Terminal) → SameStart rest s
      → (is_atype other ≡ true) × Within limit (depth_of_atype other) →
      BracketCase other (body ++ s) after → (other ≡ x) × (after ≡ s)) →
      Reads (atype_form limit) x rest
  bracket_read x body rest spelled is within decide = record {
    good = (is, within);
    only = λ s other after same good quiet e.
        decide s other after same good (bracket_cases other (body ++ s) after good.0 (sym (ap (λ l. l ++ s) spelled)
        ∙ e));
  }

  -- the name of the unit or of a tuple
  pub named_spelled : (n : ℕ) → spelling_atype (named_type n) ≡ t.LeftParen ∷ (replicate n t.Comma ++ t.RightParen ∷ [])
  named_spelled zero = ap spelling_atype (sym a.rolls-Unit) ∙ atype_spelled ATypeTree-F.Unit
  named_spelled (suc n) = ap spelling_atype (sym (a.rolls-TupleCon (suc n)))
      ∙ atype_spelled (ATypeTree-F.TupleCon (suc n))

  pub named_deep : (n : ℕ) → depth_of_atype (named_type n) ≡ 0
  named_deep zero = ap depth_of_atype (sym a.rolls-Unit) ∙ atype_deep ATypeTree-F.Unit
  named_deep (suc n) = ap depth_of_atype (sym (a.rolls-TupleCon (suc n))) ∙ atype_deep (ATypeTree-F.TupleCon (suc n))

  named_is : (n : ℕ) → n < 15 → is_atype (named_type n) ≡ true
  named_is zero most = ap is_atype (sym a.rolls-Unit) ∙ atype_is ATypeTree-F.Unit
  named_is (suc n) most =
      ap is_atype (sym (a.rolls-TupleCon (suc n))) ∙ atype_is (ATypeTree-F.TupleCon (suc n)) ∙ grind (arith, nat_tests)

  pub named_good : (n : ℕ) → n < 15 → (is_atype (named_type n) ≡ true) × Within limit (depth_of_atype (named_type n))
  named_good n most = (named_is n most, subst (Within limit) (sym (named_deep n)) (within_zero limit))

  name_first : (n : ℕ) (s : List Terminal) →
      begins starts_tuple_name ((replicate n t.Comma ++ t.RightParen ∷ []) ++ s) ≡ true
  name_first zero s = refl
  name_first (suc n) s = refl

  clash : (f : Terminal → Bool) (xs ys : List Terminal) → begins f xs ≡ true → xs ≡ ys → begins f ys ≡ false → ⊥
  clash f xs ys h e k = true≢false (sym h ∙ ap (begins f) e ∙ k)

  arrow_decide : (s : List Terminal) (other : ATypeTree) (after : List Terminal)
      → ParenCase other (t.Arrow ∷ t.RightParen ∷ s) after →
      (other ≡ a.ArrowCon) × (after ≡ s)
  arrow_decide s other after (of_arrow eq e) = (eq, cc)
  arrow_decide s other after (of_commas n eq most e) =
      absurd (clash starts_tuple_name _ _ (name_first n after) (sym e) refl)
  arrow_decide s other after (of_parts p eq are e) = absurd (not_parts p _ after refl e)

  pub arrow_spelled : spelling_atype a.ArrowCon ≡ t.LeftParen ∷ t.Arrow ∷ t.RightParen ∷ []
  arrow_spelled = ap spelling_atype (sym a.rolls-ArrowCon) ∙ atype_spelled ATypeTree-F.ArrowCon

  pub arrow_good : (is_atype a.ArrowCon ≡ true) × Within limit (depth_of_atype a.ArrowCon)
  arrow_good = (
    ap is_atype (sym a.rolls-ArrowCon) ∙ atype_is ATypeTree-F.ArrowCon,
    subst (Within limit) (sym (ap depth_of_atype (sym a.rolls-ArrowCon) ∙ atype_deep ATypeTree-F.ArrowCon))
        (within_zero limit),
  )

  pub arrow_read : (rest : List Terminal) → Reads (atype_form limit) a.ArrowCon rest
  arrow_read rest =
      paren_read a.ArrowCon (t.Arrow ∷ t.RightParen ∷ []) rest arrow_spelled arrow_good.0 arrow_good.1
      (λ s other after same good c. arrow_decide s other after c)

  starts_no_tuple : (xs : List Terminal) → begins starts_atype xs ≡ true → begins starts_tuple_name xs ≡ false
  starts_no_tuple [] h = refl
  starts_no_tuple (t.Con x ∷ xs) h = refl
  starts_no_tuple (t.Comma ∷ xs) h = absurd (true≢false (sym h))
  starts_no_tuple (t.RightParen ∷ xs) h = absurd (true≢false (sym h))
  starts_no_tuple (_ ∷ xs) h = refl

  parts_no_tuple : (p : Parts) (after : List Terminal) →
      begins starts_tuple_name ((spelling_parts p ++ t.RightParen ∷ []) ++ after) ≡ false
  parts_no_tuple p after = starts_no_tuple _ (parts_start p after)

  quiet : (xs : List Terminal) → begins (λ (k : Terminal). false) xs ≡ false
  quiet [] = refl
  quiet (x ∷ xs) = refl

  tuple_decide : (n : ℕ) (rest : List Terminal) → Reads tuple_name_form n rest
      → (s : List Terminal) (other : ATypeTree) (after : List Terminal) →
      SameStart rest s → ParenCase other ((replicate n t.Comma ++ t.RightParen ∷ []) ++ s) after
      → (other ≡ named_type n) × (after ≡ s)
  tuple_decide n rest r s other after same (of_arrow eq e) =
      absurd (clash starts_tuple_name _ _ (name_first n s) e refl)
  tuple_decide n rest r s other after same (of_commas m eq most e) =
      let found = r.only s m after same most (quiet after) e in
      (eq ∙ ap named_type found.0, found.1)
  tuple_decide n rest r s other after same (of_parts p eq are e) =
      absurd (clash starts_tuple_name _ _ (name_first n s) e (parts_no_tuple p after))

  pub tuple_read : (n : ℕ) (rest : List Terminal) → Reads tuple_name_form n rest
      → Reads (atype_form limit) (named_type n) rest
  tuple_read n rest r =
      paren_read (named_type n) (replicate n t.Comma ++ t.RightParen ∷ []) rest (named_spelled n)
      (named_good n r.good).0 (named_good n r.good).1
      (λ s other after same good c. tuple_decide n rest r s other after same c)

  -- types between round brackets
  abbrev pub inner_parts : Form Terminal Parts
  inner_parts = closed (parts_form (lowered limit 1)) t.RightParen

  good_inner : (p : Parts) (other : ATypeTree) → other ≡ a.Parts p.0 p.1 → are_parts p ≡ true
      → Within limit (depth_of_atype other) → inner_parts.Good p
  good_inner p other eq are within = (
    are,
    within_lowered limit (depth_of_parts p) 1
        (subst (Within limit) (ap depth_of_atype eq ∙ parts_deep p) within),
  )

  pub parts_good : (p : Parts) → Within limit 1 → inner_parts.Good p
      → (is_atype (a.Parts p.0 p.1) ≡ true) × Within limit (depth_of_atype (a.Parts p.0 p.1))
  parts_good p one good = (
    parts_are p ∙ good.0,
    subst (Within limit) (sym (parts_deep p))
        (within_raised limit (depth_of_parts p) 1 one good.1),
  )

  no_name : (xs ys : List Terminal) → begins ends_name xs ≡ false → xs ≡ ys → begins ends_name ys ≡ true → ⊥
  no_name xs ys h e k = true≢false (sym k ∙ sym (ap (begins ends_name) e) ∙ h)

  name_ends : (xs : List Terminal) → begins starts_tuple_name xs ≡ true → begins ends_name xs ≡ true
  name_ends [] h = absurd (true≢false (sym h))
  name_ends (t.Comma ∷ xs) h = refl
  name_ends (t.RightParen ∷ xs) h = refl
  name_ends (_ ∷ xs) h = absurd (true≢false (sym h))

  starts_no_name : (xs : List Terminal) → begins starts_atype xs ≡ true → begins ends_name xs ≡ false
  starts_no_name [] h = refl
  starts_no_name (t.Con x ∷ xs) h = refl
  starts_no_name (t.Comma ∷ xs) h = absurd (true≢false (sym h))
  starts_no_name (t.RightParen ∷ xs) h = absurd (true≢false (sym h))
  starts_no_name (t.Arrow ∷ xs) h = absurd (true≢false (sym h))
  starts_no_name (_ ∷ xs) h = refl

  parts_decide : (p : Parts) (rest : List Terminal) → Reads inner_parts p rest
      → (s : List Terminal) (other : ATypeTree) (after : List Terminal) →
      SameStart rest s → (is_atype other ≡ true) × Within limit (depth_of_atype other) →
      ParenCase other ((spelling_parts p ++ t.RightParen ∷ []) ++ s) after → (other ≡ a.Parts p.0 p.1) × (after ≡ s)
  parts_decide p rest r s other after same good (of_arrow eq e) =
      absurd (no_name _ _ (starts_no_name _ (parts_start p s)) e refl)
  parts_decide p rest r s other after same good (of_commas n eq most e) =
      absurd (no_name _ _ (starts_no_name _ (parts_start p s)) e (name_ends _ (name_first n after)))
  parts_decide p rest r s other after same good (of_parts q eq are e) =
      let found = r.only s q after same (good_inner q other eq are good.1) (quiet after) e in
      (eq ∙ ap (λ (v : Parts). a.Parts v.0 v.1) found.0, found.1)

  pub parts_read : (p : Parts) (rest : List Terminal) → Within limit 1 → Reads inner_parts p rest
      → Reads (atype_form limit) (a.Parts p.0 p.1) rest
  parts_read p rest one r =
      paren_read (a.Parts p.0 p.1) (spelling_parts p ++ t.RightParen ∷ []) rest (parts_spelled p)
      (parts_good p one r.good).0 (parts_good p one r.good).1
      (λ s other after same good c. parts_decide p rest r s other after same good c)

  -- types between square brackets
  abbrev pub inner_list : Form Terminal TypeTree
  inner_list = closed (type_form (lowered limit 1)) t.RightBracket

  pub list_con_spelled : spelling_atype a.ListCon ≡ t.LeftBracket ∷ t.RightBracket ∷ []
  list_con_spelled = ap spelling_atype (sym a.rolls-ListCon) ∙ atype_spelled ATypeTree-F.ListCon

  pub list_con_good : (is_atype a.ListCon ≡ true) × Within limit (depth_of_atype a.ListCon)
  list_con_good = (
    ap is_atype (sym a.rolls-ListCon) ∙ atype_is ATypeTree-F.ListCon,
    subst (Within limit) (sym (ap depth_of_atype (sym a.rolls-ListCon) ∙ atype_deep ATypeTree-F.ListCon))
        (within_zero limit),
  )

  list_start : (x : TypeTree) (after : List Terminal)
      → begins starts_atype ((spelling_type x ++ t.RightBracket ∷ []) ++ after) ≡ true
  list_start x after =
      begins_append starts_atype (spelling_type x ++ t.RightBracket ∷ []) after
      (begins_append starts_atype (spelling_type x) _ (type_starts x))

  not_list : (x : TypeTree) (s after : List Terminal) → begins starts_atype s ≡ false
      → s ≡ (spelling_type x ++ t.RightBracket ∷ []) ++ after → ⊥
  not_list x s after ends e = true≢false (sym (ap (begins starts_atype) e ∙ list_start x after) ∙ ends)

  list_con_decide : (s : List Terminal) (other : ATypeTree) (after : List Terminal)
      → BracketCase other (t.RightBracket ∷ s) after →
      (other ≡ a.ListCon) × (after ≡ s)
  list_con_decide s other after (of_list_con eq e) = (eq, cc)
  list_con_decide s other after (of_list x eq is e) = absurd (not_list x _ after refl e)

  pub list_con_read : (rest : List Terminal) → Reads (atype_form limit) a.ListCon rest
  list_con_read rest =
      bracket_read a.ListCon (t.RightBracket ∷ []) rest list_con_spelled list_con_good.0 list_con_good.1
      (λ s other after same good c. list_con_decide s other after c)

  good_list : (x : TypeTree) (other : ATypeTree) → other ≡ a.List x → is_type x ≡ true
      → Within limit (depth_of_atype other) → inner_list.Good x
  good_list x other eq is within =
      (is, within_lowered limit (depth_of_type x) 1 (subst (Within limit) (ap depth_of_atype eq ∙ list_deep x) within))

  pub list_good : (x : TypeTree) → Within limit 1 → inner_list.Good x
      → (is_atype (a.List x) ≡ true) × Within limit (depth_of_atype (a.List x))
  list_good x one good = (
    list_is x ∙ good.0,
    subst (Within limit) (sym (list_deep x))
        (within_raised limit (depth_of_type x) 1 one good.1),
  )

  list_decide : (x : TypeTree) (rest : List Terminal) → Reads inner_list x rest
      → (s : List Terminal) (other : ATypeTree) (after : List Terminal) →
      SameStart rest s → (is_atype other ≡ true) × Within limit (depth_of_atype other) →
      BracketCase other ((spelling_type x ++ t.RightBracket ∷ []) ++ s) after → (other ≡ a.List x) × (after ≡ s)
  list_decide x rest r s other after same good (of_list_con eq e) =
      absurd (true≢false (sym (list_start x s) ∙ ap (begins starts_atype) e))
  list_decide x rest r s other after same good (of_list y eq is e) =
      let found = r.only s y after same (good_list y other eq is good.1) (quiet after) e in
      (eq ∙ ap a.List found.0, found.1)

  pub list_read : (x : TypeTree) (rest : List Terminal) → Within limit 1 → Reads inner_list x rest
      → Reads (atype_form limit) (a.List x) rest
  list_read x rest one r =
      bracket_read (a.List x) (spelling_type x ++ t.RightBracket ∷ []) rest (list_spelled x) (list_good x one r.good).0
      (list_good x one r.good).1
      (λ s other after same good c. list_decide x rest r s other after same good c)

  -- Refusals.
  paren_refused : (before bad more : List Terminal) (x : ATypeTree)
      → (is_atype x ≡ true) × Within limit (depth_of_atype x) →
      spelling_atype x ≡ t.LeftParen ∷ (before ++ more) →
      ((s : List Terminal) (other : ATypeTree) (after : List Terminal) → SameStart bad s
      → (is_atype other ≡ true) × Within limit (depth_of_atype other) →
      ParenCase other (before ++ s) after → ⊥) →
      Refuses (atype_form limit) (t.LeftParen ∷ before) bad
  paren_refused before bad more x good spelled decide = record {
    begun = (more, x, good, sym spelled);
    never = λ s other after same good quiet e. decide s other after same good
        (paren_cases other (before ++ s) after good.0 e);
  }

  bracket_refused : (before bad more : List Terminal) (x : ATypeTree)
      → (is_atype x ≡ true) × Within limit (depth_of_atype x) →
      spelling_atype x ≡ t.LeftBracket ∷ (before ++ more) →
      ((s : List Terminal) (other : ATypeTree) (after : List Terminal) → SameStart bad s
      → (is_atype other ≡ true) × Within limit (depth_of_atype other) →
      BracketCase other (before ++ s) after → ⊥) →
      Refuses (atype_form limit) (t.LeftBracket ∷ before) bad
  bracket_refused before bad more x good spelled decide = record {
    begun = (more, x, good, sym spelled);
    never = λ s other after same good quiet e. decide s other after same good
        (bracket_cases other (before ++ s) after good.0 e);
  }

  -- nothing begins here
  pub none_refused : (bad : List Terminal) → begins starts_atype bad ≡ false → Refuses (atype_form limit) [] bad
  none_refused bad ends = record {
    begun = (t.LeftParen ∷ t.RightParen ∷ [], a.Unit, named_good 0 (omega arith), sym (named_spelled 0));
    never = λ s other after same good quiet e.
        true≢false (sym (ap (begins starts_atype) e
        ∙ begins_append starts_atype (spelling_atype other) after (atype_starts other))
        ∙ begins_same starts_atype bad s same ∙ ends);
  }

  parts_no_arrow : (p : Parts) (after : List Terminal)
      → begins is_arrow ((spelling_parts p ++ t.RightParen ∷ []) ++ after) ≡ false
  parts_no_arrow p after = starts_no_arrow _ (parts_start p after)
    where
      starts_no_arrow : (xs : List Terminal) → begins starts_atype xs ≡ true → begins is_arrow xs ≡ false
      starts_no_arrow [] h = refl
      starts_no_arrow (t.Con x ∷ xs) h = refl
      starts_no_arrow (t.Arrow ∷ xs) h = absurd (true≢false (sym h))
      starts_no_arrow (_ ∷ xs) h = refl

  arrow_only : (s : List Terminal) (other : ATypeTree) (after : List Terminal) → begins is_right_paren s ≡ false
      → ParenCase other (t.Arrow ∷ s) after → ⊥
  arrow_only s other after ends (of_arrow eq e) =
      let e' : s ≡ t.RightParen ∷ after = cc in true≢false (sym (ap (begins is_right_paren) e') ∙ ends)
  arrow_only s other after ends (of_commas n eq most e) = clash starts_tuple_name _ _ (name_first n after) (sym e) refl
  arrow_only s other after ends (of_parts p eq are e) = clash is_arrow _ _ refl e (parts_no_arrow p after)

  -- `(->` without its end
  pub arrow_refused : (bad : List Terminal) → begins is_right_paren bad ≡ false
      → Refuses (atype_form limit) (t.LeftParen ∷ t.Arrow ∷ []) bad
  arrow_refused bad ends =
      paren_refused (t.Arrow ∷ []) bad (t.RightParen ∷ []) a.ArrowCon arrow_good arrow_spelled
      (λ s other after same good c. arrow_only s other after (begins_same is_right_paren bad s same ∙ ends) c)

  tuple_only : (before bad : List Terminal) → Refuses tuple_name_form before bad
      → (s : List Terminal) (other : ATypeTree) (after : List Terminal) →
      SameStart bad s → begins starts_tuple_name (before ++ s) ≡ true → ParenCase other (before ++ s) after → ⊥
  tuple_only before bad r s other after same name (of_arrow eq e) = clash starts_tuple_name _ _ name e refl
  tuple_only before bad r s other after same name (of_commas n eq most e) = r.never s n after same most (quiet after) e
  tuple_only before bad r s other after same name (of_parts p eq are e) =
      clash starts_tuple_name _ _ name e (parts_no_tuple p after)

  pub tuple_refused : (before bad : List Terminal) → begins starts_tuple_name (before ++ bad) ≡ true
      → Refuses tuple_name_form before bad →
      Refuses (atype_form limit) (t.LeftParen ∷ before) bad
  tuple_refused before bad name r =
      paren_refused before bad r.begun.0 (named_type r.begun.1) (named_good r.begun.1 r.begun.2)
      (named_spelled r.begun.1 ∙ ap (λ xs. t.LeftParen ∷ xs) (sym r.begun.3))
      (λ s other after same good c.
      tuple_only before bad r s other after same (begins_same starts_tuple_name _ _
      (same_start_append before bad s same) ∙ name) c)

  parts_only : (before bad : List Terminal) → Refuses inner_parts before bad
      → (s : List Terminal) (other : ATypeTree) (after : List Terminal) →
      SameStart bad s → (is_atype other ≡ true) × Within limit (depth_of_atype other)
      → begins ends_name (before ++ s) ≡ false →
      ParenCase other (before ++ s) after → ⊥
  parts_only before bad r s other after same good ends (of_arrow eq e) = no_name _ _ ends e refl
  parts_only before bad r s other after same good ends (of_commas n eq most e) =
      no_name _ _ ends e (name_ends _ (name_first n after))
  parts_only before bad r s other after same good ends (of_parts p eq are e) =
      r.never s p after same (good_inner p other eq are good.1) (quiet after) e

  pub parts_refused : (before bad : List Terminal) → Within limit 1 → begins ends_name (before ++ bad) ≡ false
      → Refuses inner_parts before bad →
      Refuses (atype_form limit) (t.LeftParen ∷ before) bad
  parts_refused before bad one ends r =
      paren_refused before bad r.begun.0 (a.Parts r.begun.1.0 r.begun.1.1) (parts_good r.begun.1 one r.begun.2)
      (parts_spelled r.begun.1 ∙ ap (λ xs. t.LeftParen ∷ xs) (sym r.begun.3))
      (λ s other after same good c.
      parts_only before bad r s other after same good (begins_same ends_name _ _ (same_start_append before bad s same)
      ∙ ends) c)

  no_room : (p : Parts) (other : ATypeTree) → (Within limit 1 → ⊥) → other ≡ a.Parts p.0 p.1
      → Within limit (depth_of_atype other) → ⊥
  no_room p other over eq within =
      over (within_less limit 1 _ (omega arith) (subst (Within limit) (ap depth_of_atype eq ∙ parts_deep p) within))

  paren_deep : (s : List Terminal) (other : ATypeTree) (after : List Terminal) → (Within limit 1 → ⊥) →
      (is_atype other ≡ true) × Within limit (depth_of_atype other) → begins ends_name s ≡ false
      → ParenCase other s after → ⊥
  paren_deep s other after over good ends (of_arrow eq e) = no_name _ _ ends e refl
  paren_deep s other after over good ends (of_commas n eq most e) =
      no_name _ _ ends e (name_ends _ (name_first n after))
  paren_deep s other after over good ends (of_parts p eq are e) = no_room p other over eq good.1

  -- a bracket too deep
  pub paren_over : (bad : List Terminal) → (Within limit 1 → ⊥) → begins ends_name bad ≡ false
      → Refuses (atype_form limit) (t.LeftParen ∷ []) bad
  paren_over bad over ends =
      paren_refused [] bad (t.RightParen ∷ []) a.Unit (named_good 0 (omega arith)) (named_spelled 0)
      (λ s other after same good c. paren_deep s other after over good (begins_same ends_name bad s same ∙ ends) c)

  list_only : (before bad : List Terminal) → Refuses inner_list before bad
      → (s : List Terminal) (other : ATypeTree) (after : List Terminal) →
      SameStart bad s → (is_atype other ≡ true) × Within limit (depth_of_atype other)
      → begins is_right_bracket (before ++ s) ≡ false →
      BracketCase other (before ++ s) after → ⊥
  list_only before bad r s other after same good ends (of_list_con eq e) = clash is_right_bracket _ _ refl (sym e) ends
  list_only before bad r s other after same good ends (of_list x eq is e) =
      r.never s x after same (good_list x other eq is good.1) (quiet after) e

  pub list_refused : (before bad : List Terminal) → Within limit 1 → begins is_right_bracket (before ++ bad) ≡ false
      → Refuses inner_list before bad →
      Refuses (atype_form limit) (t.LeftBracket ∷ before) bad
  list_refused before bad one ends r =
      bracket_refused before bad r.begun.0 (a.List r.begun.1) (list_good r.begun.1 one r.begun.2)
      (list_spelled r.begun.1 ∙ ap (λ xs. t.LeftBracket ∷ xs) (sym r.begun.3))
      (λ s other after same good c.
      list_only before bad r s other after same good
      (begins_same is_right_bracket _ _ (same_start_append before bad s same) ∙ ends) c)

  bracket_deep : (s : List Terminal) (other : ATypeTree) (after : List Terminal) → (Within limit 1 → ⊥) →
      (is_atype other ≡ true) × Within limit (depth_of_atype other) → begins is_right_bracket s ≡ false
      → BracketCase other s after → ⊥
  bracket_deep s other after over good ends (of_list_con eq e) = clash is_right_bracket _ _ refl (sym e) ends
  bracket_deep s other after over good ends (of_list x eq is e) =
      over (within_less limit 1 _ (omega arith) (subst (Within limit) (ap depth_of_atype eq ∙ list_deep x) good.1))

  pub bracket_over : (bad : List Terminal) → (Within limit 1 → ⊥) → begins is_right_bracket bad ≡ false →
      Refuses (atype_form limit) (t.LeftBracket ∷ []) bad
  bracket_over bad over ends =
      bracket_refused [] bad (t.RightBracket ∷ []) a.ListCon list_con_good list_con_spelled
      (λ s other after same good c. bracket_deep s other after over good (begins_same is_right_bracket bad s same
      ∙ ends) c)
