-- How patterns in brackets are read or refused.
use Rattle.std.proofs.Common.{◌≡◌, ℕ, ◌+◌, ◌<◌, Bool, true, false, List, [], ◌∷◌, ◌++◌, length, refl, sym, ap, ◌∙◌}
use Rattle.std.proofs.Common.{subst, append_assoc, true≢false, arith, inl, inr, ◌⊎◌}
use Rattle.std.specs.Prelude.{max, not, ◌&&◌, ◌||◌, nat_lt, Option, Some, None}
use Rattle.std.specs.Str.{bytes_eq}
use Rattle.std.proofs.lemmas.Slice.Eq.{bytes_eq-Decides}
use Rattle.std.proofs.lemmas.List.{append-nil}
use Rattle.std.proofs.lemmas.Bool.Decides.{nat_tests}
use Rattle.std.proofs.lemmas.Bool.{cases_Bool}
use Rattle.hs_forms.specs.Reading.{Form, SameStart, begins, Reads, Refuses}
use Rattle.hs_forms.specs.Limits.{Within, lowered}
use Rattle.hs_forms.specs.Answers.{Accepts, Rejects, Fails}
use Rattle.hs_tokens.specs.Terminals.{is_right_paren, is_right_bracket, minus}
use Rattle.hs_trees.specs.Patterns.{Ts, spelling_apat, spelling_pat, spelling_lpat, is_pat, is_lpat, depth_of_apat}
use Rattle.hs_trees.specs.Patterns.{depth_of_pat, depth_of_lpat, starts_pat, opens_name, opens_pat, apat_form, Pats}
use Rattle.hs_trees.specs.Patterns.{pats_form, spelling_pats, depth_of_pats}
use Rattle.hs_tokens.specs.declared.terminal.Terminal.{Terminal}
use Rattle.hs_tokens.specs.declared.terminal.Terminal.TheVariants as t
use Rattle.hs_forms.specs.declared.fault.Fault.{Fault}
use Rattle.hs_trees.specs.declared.patterns.GConTree.TheVariants as g
use Rattle.hs_trees.specs.declared.patterns.PatTree.{PatTree}
use Rattle.hs_trees.specs.declared.patterns.LPatTree.{LPatTree-F}
use Rattle.hs_trees.specs.declared.patterns.LPatTree.TheVariants as lp
use Rattle.hs_trees.specs.declared.patterns.APatTree.{APatTree}
use Rattle.hs_trees.specs.declared.patterns.APatTree.TheVariants as a
use Rattle.hs_forms.proofs.FormLemmas.{begins_same, same_start_append, reads_closed, refuses_closed}
use Rattle.hs_forms.specs.Forms.{closed}
use Rattle.std.proofs.lemmas.Bool.{and_from}
use Rattle.hs_forms.proofs.LimitLemmas.{within_less, within_lowered, within_raised, within_zero, and_left, and_right}
use Rattle.hs_forms.proofs.StateLemmas.{fails_after}
use Rattle.hs_forms.proofs.FormLemmas.{closing_missed}
use Rattle.hs_forms.proofs.UnionLemmas.{refuses_later}
use Rattle.hs_trees.proofs.PatternLayerLemmas.{pat_spelled, pat_is, pat_deep, lpat_spelled, lpat_is, lpat_deep}
use Rattle.hs_trees.proofs.PatternCaseLemmas.{are_pats, parts_spelled, parts_deep, parts_are, list_spelled, list_deep}
use Rattle.hs_trees.proofs.PatternCaseLemmas.{list_are, con_spelled, con_deep, is_name, pat_no_name, pats_start}
use Rattle.hs_trees.proofs.PatternCaseLemmas.{ParenCase, of_commas, of_con, of_colon, of_var, of_as, of_parts}
use Rattle.hs_trees.proofs.PatternCaseLemmas.{paren_cases, BracketCase, of_nil, of_list, bracket_cases}
use Rattle.hs_trees.proofs.PatternChainLemmas.{make_pat}
use Rattle.hs_trees.proofs.PatternAtomLemmas.{con_good, paren_refused, name_opens, name_clash, comma_name, clash}
use Rattle.hs_trees.proofs.PatternAtomLemmas.{no_extends}

-- `-` and an integer
abbrev negative : List ℕ → Pats
negative n = (make_pat (lp.Negative n) [], [])

negative_spelled : (n : List ℕ) → spelling_pats (negative n) ≡ t.VarSym minus ∷ t.Integer n ∷ []
negative_spelled n =
    append-nil (spelling_pat (make_pat (lp.Negative n) [])) ∙ pat_spelled (record { first = lp.Negative n; rest = [] })
    ∙ append-nil (spelling_lpat (lp.Negative n)) ∙ ap spelling_lpat (sym (lp.rolls-Negative n))
    ∙ lpat_spelled (LPatTree-F.Negative n)

negative_is : (n : List ℕ) → is_pat (make_pat (lp.Negative n) []) ≡ true
negative_is n =
    pat_is (record { first = lp.Negative n; rest = [] })
    ∙ and_from (is_lpat (lp.Negative n)) true (ap is_lpat (sym (lp.rolls-Negative n))
    ∙ lpat_is (LPatTree-F.Negative n)) refl

negative_deep : (n : List ℕ) → depth_of_pats (negative n) ≡ 0
negative_deep n =
    let p : depth_of_pat (make_pat (lp.Negative n) []) ≡ max (depth_of_lpat (lp.Negative n)) 0 + 0 =
    pat_deep (record { first = lp.Negative n; rest = [] }) in
    let d : depth_of_lpat (lp.Negative n) ≡ 0 = ap depth_of_lpat (sym (lp.rolls-Negative n))
    ∙ lpat_deep (LPatTree-F.Negative n) in
    omega (arith, p, d)

minus_is : (m : List ℕ) → bytes_eq m minus ≡ true → m ≡ minus
minus_is m h = (bytes_eq-Decides m minus).0 h

-- what opens a name and begins a pattern is a negative literal
minus_shape : (ts : Ts) → begins opens_name ts ≡ true → starts_pat ts ≡ true
    → (n : List ℕ) × (tail : Ts) × (ts ≡ t.VarSym minus ∷ t.Integer n ∷ tail)
minus_shape [] h k = absurd (true≢false (sym h))
minus_shape (t.VarSym m ∷ []) h k = absurd (true≢false (sym k))
minus_shape (t.VarSym m ∷ t.Integer n ∷ tail) h k = (n, tail, ap (λ x. t.VarSym x ∷ t.Integer n ∷ tail) (minus_is m k))
minus_shape (t.VarSym m ∷ x ∷ tail) h k = absurd (true≢false (sym k))
minus_shape (t.RightParen ∷ tail) h k = absurd (true≢false (sym k))
minus_shape (t.Comma ∷ tail) h k = absurd (true≢false (sym k))
minus_shape (t.ConSym n ∷ tail) h k = absurd (true≢false (sym k))
minus_shape (t.Colon ∷ tail) h k = absurd (true≢false (sym k))
minus_shape (_ ∷ tail) h k = absurd (true≢false (sym h))

opens_starts : (ts : Ts) → opens_pat ts ≡ true → begins opens_name ts ≡ true → starts_pat ts ≡ true
opens_starts ts h e = force (begins opens_name ts) h e
  where
    force : (b : Bool) → not b || starts_pat ts ≡ true → b ≡ true → starts_pat ts ≡ true
    force true h e = h
    force false h e = absurd (true≢false (sym e))

module _ (limit : Option ℕ) where
  abbrev round : Form Terminal Pats
  round = closed (pats_form (Some 14) (lowered limit 1)) t.RightParen

  abbrev square : Form Terminal Pats
  square = closed (pats_form None (lowered limit 1)) t.RightBracket

  parts_good : (p : Pats) → Within limit 1 → round.Good p → (apat_form limit).Good (a.Parts p.0 p.1)
  parts_good p one good =
      let few = good.0 in (
        parts_are p ∙ and_from _ _ (grind (arith, nat_tests)) good.1,
        subst (Within limit) (sym (parts_deep p)) (within_raised limit (depth_of_pats p) 1 one good.2),
      )

  good_parts : (p : Pats) (other : APatTree) → other ≡ a.Parts p.0 p.1 → nat_lt (length p.1) 15 && are_pats p ≡ true
      → Within limit (depth_of_apat other) →
      round.Good p
  good_parts p other eq are within =
      let few = and_left (nat_lt (length p.1) 15) _ are in
      let lt : length p.1 < 15 = grind (arith, nat_tests) in (
        omega arith,
        and_right (nat_lt (length p.1) 15) _ are,
        within_lowered limit (depth_of_pats p) 1 (subst (Within limit) (ap depth_of_apat eq ∙ parts_deep p) within),
      )

  -- no name in brackets goes on where patterns are refused
  inside_no_name : (ts before bad s : Ts) → opens_pat ts ≡ true → ts ≡ before ++ bad → Refuses round before bad
      → SameStart bad s →
      is_name (before ++ s) ≡ false
  inside_no_name ts before bad s opens split r same = decide (cases_Bool (begins opens_name ts))
    where
      decide : (begins opens_name ts ≡ true) ⊎ (begins opens_name ts ≡ false) → is_name (before ++ s) ≡ false
      decide (inr not_) =
          name_opens limit (before ++ s) (begins_same opens_name (before ++ bad) (before ++ s)
          (same_start_append before bad s same) ∙ ap (begins opens_name) (sym split) ∙ not_)
      decide (inl yes_) =
          let shape = minus_shape ts yes_ (opens_starts ts opens yes_) in
          let good : round.Good (negative shape.0) = (
            omega arith,
            and_from (is_pat (make_pat (lp.Negative shape.0) [])) true (negative_is shape.0) refl,
            subst (Within (lowered limit 1)) (sym (negative_deep shape.0)) (within_zero (lowered limit 1)),
          ) in
          let far = refuses_later round before bad (t.VarSym minus ∷ []) (t.Integer shape.0) shape.1 (t.RightParen ∷ [])
          (negative shape.0) r
          (sym split ∙ shape.2) good (ap (λ l. l ++ t.RightParen ∷ []) (negative_spelled shape.0)) in
          ap (λ l. is_name (l ++ s)) far.1

  parts_only : (before bad : Ts) → Refuses round before bad → (s : Ts) (other : APatTree) (after : Ts) → SameStart bad s
      → (apat_form limit).Good other →
      is_name (before ++ s) ≡ false → ParenCase other (before ++ s) after → ⊥
  parts_only before bad r s other after same good missed (of_commas n eq most e) =
      name_clash _ _ (comma_name n after) (sym e) missed
  parts_only before bad r s other after same good missed (of_con n eq e) = name_clash _ _ refl (sym e) missed
  parts_only before bad r s other after same good missed (of_colon eq e) = name_clash _ _ refl (sym e) missed
  parts_only before bad r s other after same good missed (of_var n eq e) = name_clash _ _ refl (sym e) missed
  parts_only before bad r s other after same good missed (of_as n x eq is e) = name_clash _ _ refl (sym e) missed
  parts_only before bad r s other after same good missed (of_parts p eq are e) =
      r.never s p after same (good_parts p other eq are good.1) (no_extends limit after) e

  inside_refused : (ts before bad : Ts) → Within limit 1 → opens_pat ts ≡ true → ts ≡ before ++ bad
      → Refuses round before bad →
      Refuses (apat_form limit) (t.LeftParen ∷ before) bad
  inside_refused ts before bad one opens split r =
      paren_refused limit before bad r.begun.0 (a.Parts r.begun.1.0 r.begun.1.1) (parts_good r.begun.1 one r.begun.2)
      (parts_spelled r.begun.1 ∙ ap (λ xs. t.LeftParen ∷ xs) (sym r.begun.3))
      (λ s other after same good c. parts_only before bad r s other after same good
      (inside_no_name ts before bad s opens split r same) c)

  pub inside_fails : (ts : Ts) (b : Option ℕ) (e : Fault) → Within limit 1 → b ≡ lowered limit 1 → opens_pat ts ≡ true →
      Fails (pats_form (Some 14) b) ts e → Fails (apat_form limit) (t.LeftParen ∷ ts) e
  inside_fails ts b e one same opens r =
      fails_after (apat_form limit) (pats_form (Some 14) (lowered limit 1)) (t.LeftParen ∷ [])
      (t.LeftParen ∷ ts) ts e refl
      (λ before bad split q. inside_refused ts before bad one opens split
      (refuses_closed (pats_form (Some 14) (lowered limit 1)) t.RightParen (λ x. refl) before bad q))
      (subst (λ l. Fails (pats_form (Some 14) l) ts e) same r)

  parts_decide : (p : Pats) (rest : Ts) → Reads round p rest → (s : Ts) (other : APatTree) (after : Ts)
      → SameStart rest s → (apat_form limit).Good other →
      ParenCase other ((spelling_pats p ++ t.RightParen ∷ []) ++ s) after → (other ≡ a.Parts p.0 p.1) × (after ≡ s)
  parts_decide p rest r s other after same good (of_commas n eq most e) =
      absurd (name_clash _ _ (comma_name n after) (sym e) (pat_no_name _ (pats_start p t.RightParen s)))
  parts_decide p rest r s other after same good (of_con n eq e) =
      absurd (name_clash _ _ refl (sym e) (pat_no_name _ (pats_start p t.RightParen s)))
  parts_decide p rest r s other after same good (of_colon eq e) =
      absurd (name_clash _ _ refl (sym e) (pat_no_name _ (pats_start p t.RightParen s)))
  parts_decide p rest r s other after same good (of_var n eq e) =
      absurd (name_clash _ _ refl (sym e) (pat_no_name _ (pats_start p t.RightParen s)))
  parts_decide p rest r s other after same good (of_as n x eq is e) =
      absurd (name_clash _ _ refl (sym e) (pat_no_name _ (pats_start p t.RightParen s)))
  parts_decide p rest r s other after same good (of_parts q eq are e) =
      let found = r.only s q after same (good_parts q other eq are good.1) (no_extends limit after) e in
      (eq ∙ ap (λ (v : Pats). a.Parts v.0 v.1) found.0, found.1)

  pub parts_read : (p : Pats) (rest : Ts) → Within limit 1 → Reads round p rest
      → Reads (apat_form limit) (a.Parts p.0 p.1) rest
  parts_read p rest one r = record {
    good = parts_good p one r.good;
    only = λ s other after same good quiet e.
        parts_decide p rest r s other after same good
        (paren_cases other ((spelling_pats p ++ t.RightParen ∷ []) ++ s) after good.0
        (ap (λ l. l ++ s) (sym (parts_spelled p)) ∙ e));
  }

  pub inside_ok : (ts : Ts) (b : Option ℕ) (x : PatTree) (xs : List PatTree) (after rest : Ts) (d : ℕ) → Within limit 1
      → b ≡ lowered limit 1 →
      Accepts (pats_form (Some 14) b) depth_of_pats ts (x, xs) after d → after ≡ t.RightParen ∷ rest →
      Accepts (apat_form limit) depth_of_apat (t.LeftParen ∷ ts) (a.Parts x xs) rest (d + 1)
  inside_ok ts b x xs after rest d one same acc at =
      let p : Pats = (x, xs) in
      let acc' = subst (λ l. Accepts (pats_form (Some 14) l) depth_of_pats ts p after d) same acc in
      record {
        spelled = ap (λ l. t.LeftParen ∷ l) (acc'.spelled ∙ ap (λ l. spelling_pats p ++ l) at
            ∙ sym (append_assoc (spelling_pats p) (t.RightParen ∷ []) rest))
            ∙ ap (λ l. l ++ rest) (sym (parts_spelled p));
        reads = parts_read p rest one (reads_closed (pats_form (Some 14) (lowered limit 1)) t.RightParen
            (λ x. refl) p rest
            (subst (λ l. Reads (pats_form (Some 14) (lowered limit 1)) p l) at acc'.reads));
        measured_is = ap (λ n. n + 1) acc'.measured_is ∙ sym (parts_deep p);
        room = omega (arith, acc'.room, ap length at);
      }

  pub inside_none : (ts : Ts) (b : Option ℕ) (x : PatTree) (xs : List PatTree) (after : Ts) (d : ℕ) → Within limit 1
      → b ≡ lowered limit 1 →
      opens_pat ts ≡ true → Accepts (pats_form (Some 14) b) depth_of_pats ts (x, xs) after d
      → begins is_right_paren after ≡ false →
      Rejects (apat_form limit) (t.LeftParen ∷ ts) (length after)
  inside_none ts b x xs after d one same opens acc missed =
      let p : Pats = (x, xs) in
      let acc' = subst (λ l. Accepts (pats_form (Some 14) l) depth_of_pats ts p after d) same acc in
      record {
        before = t.LeftParen ∷ spelling_pats p;
        bad = after;
        split = ap (λ l. t.LeftParen ∷ l) acc'.spelled;
        left_is = refl;
        refuses = inside_refused ts (spelling_pats p) after one opens acc'.spelled
            (closing_missed (pats_form (Some 14) (lowered limit 1)) t.RightParen
            (λ x. refl) is_right_paren refl p after acc'.reads missed);
      }

  -- square brackets
  list_good : (p : Pats) → Within limit 1 → square.Good p → (apat_form limit).Good (a.List p.0 p.1)
  list_good p one good = (
    list_are p ∙ good.1,
    subst (Within limit) (sym (list_deep p))
        (within_raised limit (depth_of_pats p) 1 one good.2),
  )

  good_list : (p : Pats) (other : APatTree) → other ≡ a.List p.0 p.1 → are_pats p ≡ true
      → Within limit (depth_of_apat other) → square.Good p
  good_list p other eq are within = (
    tt,
    are,
    within_lowered limit (depth_of_pats p) 1
        (subst (Within limit) (ap depth_of_apat eq ∙ list_deep p) within),
  )

  nil_decide : (s : Ts) (other : APatTree) (after : Ts) → BracketCase other (t.RightBracket ∷ s) after
      → (other ≡ a.Con g.List) × (after ≡ s)
  nil_decide s other after (of_nil eq e) = (eq, cc)
  nil_decide s other after (of_list p eq are e) = absurd
      (true≢false (sym (ap starts_pat e ∙ pats_start p t.RightBracket after)))

  pub nil_ok : (ts rest : Ts) → ts ≡ t.RightBracket ∷ rest
      → Accepts (apat_form limit) depth_of_apat (t.LeftBracket ∷ ts) (a.Con g.List) rest 0
  nil_ok ts rest at = record {
    spelled = ap (λ l. t.LeftBracket ∷ l) at ∙ ap (λ l. l ++ rest) (sym (con_spelled g.List));
    reads = record {
      good = con_good limit g.List refl;
      only = λ s other after same good quiet e.
          nil_decide s other after (bracket_cases other (t.RightBracket ∷ s) after good.0
          (ap (λ l. l ++ s) (sym (con_spelled g.List)) ∙ e));
    };
    measured_is = sym (con_deep g.List);
    room = omega (arith, ap length at);
  }

  bracket_refused : (before bad more : Ts) (x : APatTree) →
      (apat_form limit).Good x → spelling_apat x ≡ t.LeftBracket ∷ (before ++ more) →
      ((s : Ts) (other : APatTree) (after : Ts) → SameStart bad s → (apat_form limit).Good other
      → BracketCase other (before ++ s) after → ⊥) →
      Refuses (apat_form limit) (t.LeftBracket ∷ before) bad
  bracket_refused before bad more x good spelled decide = record {
    begun = (more, x, good, sym spelled);
    never = λ s other after same good quiet e. decide s other after same good
        (bracket_cases other (before ++ s) after good.0 e);
  }

  bracket_deep : (s : Ts) (other : APatTree) (after : Ts) → (Within limit 1 → ⊥) → (apat_form limit).Good other
      → begins is_right_bracket s ≡ false →
      BracketCase other s after → ⊥
  bracket_deep s other after over good ends (of_nil eq e) = clash is_right_bracket _ _ refl (sym e) ends
  bracket_deep s other after over good ends (of_list p eq are e) =
      over (within_less limit 1 _ (omega arith) (subst (Within limit) (ap depth_of_apat eq ∙ list_deep p) good.1))

  pub bracket_over : (ts : Ts) → (Within limit 1 → ⊥) → begins is_right_bracket ts ≡ false
      → Rejects (apat_form limit) (t.LeftBracket ∷ ts) (length ts)
  bracket_over ts over ends = record {
    before = t.LeftBracket ∷ [];
    bad = ts;
    split = refl;
    left_is = refl;
    refuses = bracket_refused [] ts (t.RightBracket ∷ []) (a.Con g.List) (con_good limit g.List refl)
        (con_spelled g.List)
        (λ s other after same good c. bracket_deep s other after over good (begins_same is_right_bracket ts s same
        ∙ ends) c);
  }

  list_only : (before bad : Ts) → Refuses square before bad → (s : Ts) (other : APatTree) (after : Ts) → SameStart bad s
      → (apat_form limit).Good other →
      begins is_right_bracket (before ++ s) ≡ false → BracketCase other (before ++ s) after → ⊥
  list_only before bad r s other after same good ends (of_nil eq e) = clash is_right_bracket _ _ refl (sym e) ends
  list_only before bad r s other after same good ends (of_list p eq are e) =
      r.never s p after same (good_list p other eq are good.1) (no_extends limit after) e

  list_refused : (before bad : Ts) → Within limit 1 → begins is_right_bracket (before ++ bad) ≡ false
      → Refuses square before bad →
      Refuses (apat_form limit) (t.LeftBracket ∷ before) bad
  list_refused before bad one ends r =
      bracket_refused before bad r.begun.0 (a.List r.begun.1.0 r.begun.1.1) (list_good r.begun.1 one r.begun.2)
      (list_spelled r.begun.1 ∙ ap (λ xs. t.LeftBracket ∷ xs) (sym r.begun.3))
      (λ s other after same good c.
      list_only before bad r s other after same good
      (begins_same is_right_bracket _ _ (same_start_append before bad s same) ∙ ends) c)

  pub list_fails : (ts : Ts) (b : Option ℕ) (e : Fault) → Within limit 1 → b ≡ lowered limit 1
      → begins is_right_bracket ts ≡ false →
      Fails (pats_form None b) ts e → Fails (apat_form limit) (t.LeftBracket ∷ ts) e
  list_fails ts b e one same ends r =
      fails_after (apat_form limit) (pats_form None (lowered limit 1)) (t.LeftBracket ∷ [])
      (t.LeftBracket ∷ ts) ts e refl
      (λ before bad split q. list_refused before bad one (ap (begins is_right_bracket) (sym split) ∙ ends)
      (refuses_closed (pats_form None (lowered limit 1)) t.RightBracket (λ x. refl) before bad q))
      (subst (λ l. Fails (pats_form None l) ts e) same r)

  list_decide : (p : Pats) (rest : Ts) → Reads square p rest → (s : Ts) (other : APatTree) (after : Ts)
      → SameStart rest s → (apat_form limit).Good other →
      BracketCase other ((spelling_pats p ++ t.RightBracket ∷ []) ++ s) after → (other ≡ a.List p.0 p.1) × (after ≡ s)
  list_decide p rest r s other after same good (of_nil eq e) =
      absurd (true≢false (sym (pats_start p t.RightBracket s) ∙ ap starts_pat e))
  list_decide p rest r s other after same good (of_list q eq are e) =
      let found = r.only s q after same (good_list q other eq are good.1) (no_extends limit after) e in
      (eq ∙ ap (λ (v : Pats). a.List v.0 v.1) found.0, found.1)

  pub list_read : (p : Pats) (rest : Ts) → Within limit 1 → Reads square p rest
      → Reads (apat_form limit) (a.List p.0 p.1) rest
  list_read p rest one r = record {
    good = list_good p one r.good;
    only = λ s other after same good quiet e.
        list_decide p rest r s other after same good
        (bracket_cases other ((spelling_pats p ++ t.RightBracket ∷ []) ++ s) after good.0
        (ap (λ l. l ++ s) (sym (list_spelled p)) ∙ e));
  }

  pub list_ok : (ts : Ts) (b : Option ℕ) (x : PatTree) (xs : List PatTree) (after rest : Ts) (d : ℕ) → Within limit 1
      → b ≡ lowered limit 1 →
      Accepts (pats_form None b) depth_of_pats ts (x, xs) after d → after ≡ t.RightBracket ∷ rest →
      Accepts (apat_form limit) depth_of_apat (t.LeftBracket ∷ ts) (a.List x xs) rest (d + 1)
  list_ok ts b x xs after rest d one same acc at =
      let p : Pats = (x, xs) in
      let acc' = subst (λ l. Accepts (pats_form None l) depth_of_pats ts p after d) same acc in
      record {
        spelled = ap (λ l. t.LeftBracket ∷ l) (acc'.spelled ∙ ap (λ l. spelling_pats p ++ l) at
            ∙ sym (append_assoc (spelling_pats p) (t.RightBracket ∷ []) rest))
            ∙ ap (λ l. l ++ rest) (sym (list_spelled p));
        reads = list_read p rest one (reads_closed (pats_form None (lowered limit 1)) t.RightBracket (λ x. refl) p rest
            (subst (λ l. Reads (pats_form None (lowered limit 1)) p l) at acc'.reads));
        measured_is = ap (λ n. n + 1) acc'.measured_is ∙ sym (list_deep p);
        room = omega (arith, acc'.room, ap length at);
      }

  pub list_none : (ts : Ts) (b : Option ℕ) (x : PatTree) (xs : List PatTree) (after : Ts) (d : ℕ) → Within limit 1
      → b ≡ lowered limit 1 →
      begins is_right_bracket ts ≡ false → Accepts (pats_form None b) depth_of_pats ts (x, xs) after d
      → begins is_right_bracket after ≡ false →
      Rejects (apat_form limit) (t.LeftBracket ∷ ts) (length after)
  list_none ts b x xs after d one same ends acc missed =
      let p : Pats = (x, xs) in
      let acc' = subst (λ l. Accepts (pats_form None l) depth_of_pats ts p after d) same acc in
      record {
        before = t.LeftBracket ∷ spelling_pats p;
        bad = after;
        split = ap (λ l. t.LeftBracket ∷ l) acc'.spelled;
        left_is = refl;
        refuses = list_refused (spelling_pats p) after one (ap (begins is_right_bracket) (sym acc'.spelled) ∙ ends)
            (closing_missed (pats_form None (lowered limit 1)) t.RightBracket
            (λ x. refl) is_right_bracket refl p after acc'.reads missed);
      }
