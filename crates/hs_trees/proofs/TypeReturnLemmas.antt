-- The returns of the readers of types, over plain variables.
use Rattle.std.proofs.Common.{◌≡◌, ℕ, ◌+◌, Bool, true, false, List, [], ◌∷◌, ◌++◌, length, refl, sym, ap, ◌∙◌, subst}
use Rattle.std.proofs.Common.{append_assoc, arith}
use Rattle.std.specs.Prelude.{Option}
use Rattle.hs_forms.specs.Reading.{begins, Reads}
use Rattle.hs_forms.specs.Limits.{Within, lowered}
use Rattle.hs_forms.specs.Answers.{Accepts, Rejects, Fails}
use Rattle.hs_trees.specs.Types.{starts_atype, spelling_atype, spelling_type, depth_of_atype, depth_of_type}
use Rattle.hs_trees.specs.Types.{depth_of_parts, Parts, atype_form, type_form, parts_form, tuple_name_form, named_type}
use Rattle.hs_trees.specs.Types.{starts_tuple_name}
use Rattle.hs_tokens.specs.Terminals.{is_arrow, is_right_paren, is_right_bracket}
use Rattle.hs_tokens.specs.declared.terminal.Terminal.{Terminal}
use Rattle.hs_tokens.specs.declared.terminal.Terminal.TheVariants as t
use Rattle.hs_forms.specs.declared.fault.Fault.{Fault}
use Rattle.hs_trees.specs.declared.types.ATypeTree.{ATypeTree-F}
use Rattle.hs_trees.specs.declared.types.ATypeTree.TheVariants as a
use Rattle.hs_trees.specs.declared.types.TypeTree.{TypeTree}
use Rattle.hs_forms.proofs.FormLemmas.{reads_closed, refuses_closed, closing_missed}
use Rattle.hs_trees.proofs.TypeLayerLemmas.{atype_spelled, atype_deep}
use Rattle.hs_trees.proofs.TypeCaseLemmas.{parts_spelled, parts_deep, list_spelled, list_deep, con_read, var_read}
use Rattle.hs_trees.proofs.TypeBracketLemmas.{ends_name, named_spelled, named_deep, arrow_read, arrow_spelled}
use Rattle.hs_trees.proofs.TypeBracketLemmas.{tuple_read, parts_read, list_con_read, list_con_spelled, list_read}
use Rattle.hs_trees.proofs.TypeBracketLemmas.{none_refused, arrow_refused, tuple_refused, parts_refused, paren_over}
use Rattle.hs_trees.proofs.TypeBracketLemmas.{list_refused, bracket_over}
use Rattle.hs_forms.proofs.StateLemmas.{fails_after}

module _ (limit : Option ℕ) where
  -- atype
  pub con_ok : (ts : List Terminal) (name : List ℕ) (rest : List Terminal) → ts ≡ t.Con name ∷ rest →
      Accepts (atype_form limit) depth_of_atype ts (a.Con name) rest 0
  con_ok ts name rest at = record {
    spelled = at ∙ ap (λ l. l ++ rest) (sym (ap spelling_atype (sym (a.rolls-Con name))
        ∙ atype_spelled (ATypeTree-F.Con name)));
    reads = con_read limit name rest;
    measured_is = sym (ap depth_of_atype (sym (a.rolls-Con name)) ∙ atype_deep (ATypeTree-F.Con name));
    room = omega (arith, ap length at);
  }

  pub var_ok : (ts : List Terminal) (name : List ℕ) (rest : List Terminal) → ts ≡ t.Var name ∷ rest →
      Accepts (atype_form limit) depth_of_atype ts (a.Var name) rest 0
  var_ok ts name rest at = record {
    spelled = at ∙ ap (λ l. l ++ rest) (sym (ap spelling_atype (sym (a.rolls-Var name))
        ∙ atype_spelled (ATypeTree-F.Var name)));
    reads = var_read limit name rest;
    measured_is = sym (ap depth_of_atype (sym (a.rolls-Var name)) ∙ atype_deep (ATypeTree-F.Var name));
    room = omega (arith, ap length at);
  }

  pub none_here : (ts : List Terminal) → begins starts_atype ts ≡ false → Rejects (atype_form limit) ts (length ts)
  none_here ts ends = record {
    before = [];
    bad = ts;
    split = refl;
    left_is = refl;
    refuses = none_refused limit ts ends;
  }

  pub arrow_ok : (ts next rest : List Terminal) → ts ≡ t.Arrow ∷ next → next ≡ t.RightParen ∷ rest →
      Accepts (atype_form limit) depth_of_atype (t.LeftParen ∷ ts) a.ArrowCon rest 0
  arrow_ok ts next rest at and = record {
    spelled = ap (λ l. t.LeftParen ∷ l) (at ∙ ap (λ l. t.Arrow ∷ l) and)
        ∙ ap (λ l. l ++ rest) (sym (arrow_spelled limit));
    reads = arrow_read limit rest;
    measured_is = sym (ap depth_of_atype (sym a.rolls-ArrowCon) ∙ atype_deep ATypeTree-F.ArrowCon);
    room = omega (arith, ap length at, ap length and);
  }

  pub arrow_none : (ts next : List Terminal) → ts ≡ t.Arrow ∷ next → begins is_right_paren next ≡ false →
      Rejects (atype_form limit) (t.LeftParen ∷ ts) (length next)
  arrow_none ts next at ends = record {
    before = t.LeftParen ∷ t.Arrow ∷ [];
    bad = next;
    split = ap (λ l. t.LeftParen ∷ l) at;
    left_is = refl;
    refuses = arrow_refused limit next ends;
  }

  pub tuple_ok : (ts : List Terminal) (commas : ℕ) (rest : List Terminal) (d : ℕ)
      → Accepts tuple_name_form (λ n. 0) ts commas rest d →
      Accepts (atype_form limit) depth_of_atype (t.LeftParen ∷ ts) (named_type commas) rest d
  tuple_ok ts n rest d acc = record {
    spelled = ap (λ l. t.LeftParen ∷ l) acc.spelled ∙ ap (λ l. l ++ rest) (sym (named_spelled limit n));
    reads = tuple_read limit n rest acc.reads;
    measured_is = acc.measured_is ∙ sym (named_deep limit n);
    room = omega (arith, acc.room);
  }

  pub tuple_fails : (ts : List Terminal) (e : Fault) → begins starts_tuple_name ts ≡ true → Fails tuple_name_form ts e →
      Fails (atype_form limit) (t.LeftParen ∷ ts) e
  tuple_fails ts e name r =
      fails_after (atype_form limit) tuple_name_form (t.LeftParen ∷ []) (t.LeftParen ∷ ts) ts e refl
      (λ before bad split r'. tuple_refused limit before bad (ap (begins starts_tuple_name) (sym split) ∙ name) r') r

  pub paren_too_deep : (ts : List Terminal) → (Within limit 1 → ⊥) → begins ends_name ts ≡ false →
      Rejects (atype_form limit) (t.LeftParen ∷ ts) (length ts)
  paren_too_deep ts over ends = record {
    before = t.LeftParen ∷ [];
    bad = ts;
    split = refl;
    left_is = refl;
    refuses = paren_over limit ts over ends;
  }

  pub inner_fails : (ts : List Terminal) (l : Option ℕ) (e : Fault) → Within limit 1 → l ≡ lowered limit 1
      → begins ends_name ts ≡ false →
      Fails (parts_form l) ts e → Fails (atype_form limit) (t.LeftParen ∷ ts) e
  inner_fails ts l e one same ends r =
      fails_after (atype_form limit) (parts_form (lowered limit 1)) (t.LeftParen ∷ []) (t.LeftParen ∷ ts) ts e refl
      (λ before bad split r'. parts_refused limit before bad one (ap (begins ends_name) (sym split) ∙ ends)
      (refuses_closed (parts_form (lowered limit 1)) t.RightParen (λ x. refl) before bad r'))
      (subst (λ l. Fails (parts_form l) ts e) same r)

  pub inner_ok : (ts : List Terminal) (l : Option ℕ) (first : TypeTree) (more : List TypeTree)
      (after rest : List Terminal) (d : ℕ) → Within limit 1 →
      l ≡ lowered limit 1 → Accepts (parts_form l) depth_of_parts ts (first, more) after d
      → after ≡ t.RightParen ∷ rest →
      Accepts (atype_form limit) depth_of_atype (t.LeftParen ∷ ts) (a.Parts first more) rest (d + 1)
  inner_ok ts l first more after rest d one same acc at =
      let p : Parts = (first, more) in
      let acc' = subst (λ l. Accepts (parts_form l) depth_of_parts ts p after d) same acc in
      record {
        spelled = ap (λ l. t.LeftParen ∷ l) (acc'.spelled ∙ ap (λ l. (parts_form limit).tokens p ++ l) at
            ∙ sym (append_assoc ((parts_form limit).tokens p) (t.RightParen ∷ []) rest))
            ∙ ap (λ l. l ++ rest) (sym (parts_spelled p));
        reads = parts_read limit p rest one (reads_closed (parts_form (lowered limit 1)) t.RightParen (λ x. refl) p rest
            (subst (λ l. Reads (parts_form (lowered limit 1)) p l) at acc'.reads));
        measured_is = ap (λ n. n + 1) acc'.measured_is ∙ sym (parts_deep p);
        room = omega (arith, acc'.room, ap length at);
      }

  pub inner_none : (ts : List Terminal) (l : Option ℕ) (first : TypeTree) (more : List TypeTree) (after : List Terminal)
      (d : ℕ) → Within limit 1 →
      l ≡ lowered limit 1 → begins ends_name ts ≡ false
      → Accepts (parts_form l) depth_of_parts ts (first, more) after d →
      begins is_right_paren after ≡ false → Rejects (atype_form limit) (t.LeftParen ∷ ts) (length after)
  inner_none ts l first more after d one same ends acc missed =
      let p : Parts = (first, more) in
      let acc' = subst (λ l. Accepts (parts_form l) depth_of_parts ts p after d) same acc in
      record {
        before = t.LeftParen ∷ (parts_form limit).tokens p;
        bad = after;
        split = ap (λ l. t.LeftParen ∷ l) acc'.spelled;
        left_is = refl;
        refuses = parts_refused limit ((parts_form limit).tokens p) after one (ap (begins ends_name) (sym acc'.spelled)
            ∙ ends)
            (closing_missed (parts_form (lowered limit 1)) t.RightParen
            (λ x. refl) is_right_paren refl p after acc'.reads missed);
      }

  pub list_con_ok : (ts rest : List Terminal) → ts ≡ t.RightBracket ∷ rest →
      Accepts (atype_form limit) depth_of_atype (t.LeftBracket ∷ ts) a.ListCon rest 0
  list_con_ok ts rest at = record {
    spelled = ap (λ l. t.LeftBracket ∷ l) at ∙ ap (λ l. l ++ rest) (sym (list_con_spelled limit));
    reads = list_con_read limit rest;
    measured_is = sym (ap depth_of_atype (sym a.rolls-ListCon) ∙ atype_deep ATypeTree-F.ListCon);
    room = omega (arith, ap length at);
  }

  pub bracket_too_deep : (ts : List Terminal) → (Within limit 1 → ⊥)
      → begins is_right_bracket ts ≡ false → Rejects (atype_form limit) (t.LeftBracket ∷ ts) (length ts)
  bracket_too_deep ts over ends = record {
    before = t.LeftBracket ∷ [];
    bad = ts;
    split = refl;
    left_is = refl;
    refuses = bracket_over limit ts over ends;
  }

  pub list_fails : (ts : List Terminal) (l : Option ℕ) (e : Fault) → Within limit 1 → l ≡ lowered limit 1
      → begins is_right_bracket ts ≡ false →
      Fails (type_form l) ts e → Fails (atype_form limit) (t.LeftBracket ∷ ts) e
  list_fails ts l e one same ends r =
      fails_after (atype_form limit) (type_form (lowered limit 1)) (t.LeftBracket ∷ []) (t.LeftBracket ∷ ts) ts e refl
      (λ before bad split r'. list_refused limit before bad one (ap (begins is_right_bracket) (sym split) ∙ ends)
      (refuses_closed (type_form (lowered limit 1)) t.RightBracket (λ x. refl) before bad r'))
      (subst (λ l. Fails (type_form l) ts e) same r)

  pub list_ok : (ts : List Terminal) (l : Option ℕ) (x : TypeTree) (after rest : List Terminal) (d : ℕ)
      → Within limit 1 →
      l ≡ lowered limit 1 → Accepts (type_form l) depth_of_type ts x after d → after ≡ t.RightBracket ∷ rest →
      Accepts (atype_form limit) depth_of_atype (t.LeftBracket ∷ ts) (a.List x) rest (d + 1)
  list_ok ts l x after rest d one same acc at =
      let acc' = subst (λ l. Accepts (type_form l) depth_of_type ts x after d) same acc in
      record {
        spelled = ap (λ l. t.LeftBracket ∷ l) (acc'.spelled ∙ ap (λ l. spelling_type x ++ l) at
            ∙ sym (append_assoc (spelling_type x) (t.RightBracket ∷ []) rest))
            ∙ ap (λ l. l ++ rest) (sym (list_spelled x));
        reads = list_read limit x rest one (reads_closed (type_form (lowered limit 1)) t.RightBracket (λ x. refl) x rest
            (subst (λ l. Reads (type_form (lowered limit 1)) x l) at acc'.reads));
        measured_is = ap (λ n. n + 1) acc'.measured_is ∙ sym (list_deep x);
        room = omega (arith, acc'.room, ap length at);
      }

  pub list_none : (ts : List Terminal) (l : Option ℕ) (x : TypeTree) (after : List Terminal) (d : ℕ) → Within limit 1 →
      l ≡ lowered limit 1 → begins is_right_bracket ts ≡ false → Accepts (type_form l) depth_of_type ts x after d →
      begins is_right_bracket after ≡ false → Rejects (atype_form limit) (t.LeftBracket ∷ ts) (length after)
  list_none ts l x after d one same ends acc missed =
      let acc' = subst (λ l. Accepts (type_form l) depth_of_type ts x after d) same acc in
      record {
        before = t.LeftBracket ∷ spelling_type x;
        bad = after;
        split = ap (λ l. t.LeftBracket ∷ l) acc'.spelled;
        left_is = refl;
        refuses = list_refused limit (spelling_type x) after one (ap (begins is_right_bracket) (sym acc'.spelled)
            ∙ ends)
            (closing_missed (type_form (lowered limit 1)) t.RightBracket
            (λ x. refl) is_right_bracket refl x after acc'.reads missed);
      }

pub empty_begins : (f : Terminal → Bool) (ts : List Terminal) → length ts ≡ 0 → begins f ts ≡ false
empty_begins f [] e = refl
empty_begins f (x ∷ ts) e = absurd (omega arith)

pub no_start : (x : Terminal) → ((n : List ℕ) → x ≡ t.Con n → ⊥) → ((n : List ℕ) → x ≡ t.Var n → ⊥)
    → (x ≡ t.LeftParen → ⊥) →
    (x ≡ t.LeftBracket → ⊥) → starts_atype x ≡ false
no_start (t.Con n) c v p b = absurd (c n refl)
no_start (t.Var n) c v p b = absurd (v n refl)
no_start t.LeftParen c v p b = absurd (p refl)
no_start t.LeftBracket c v p b = absurd (b refl)
no_start _ c v p b = refl

pub ends_none : (ts : List Terminal) → begins starts_tuple_name ts ≡ false → begins is_arrow ts ≡ false →
    begins ends_name ts ≡ false
ends_none [] n a = refl
ends_none (t.RightParen ∷ ts) n a = n
ends_none (t.Arrow ∷ ts) n a = a
ends_none (t.Comma ∷ ts) n a = n
ends_none (_ ∷ ts) n a = refl

pub none_at_end : (limit : Option ℕ) (ts : List Terminal) → length ts ≡ 0 → Rejects (atype_form limit) ts 0
none_at_end limit ts e = subst (λ n. Rejects (atype_form limit) ts n) e
    (none_here limit ts (empty_begins starts_atype ts e))
