-- Productions without depth: a part behind a fixed front, a tree that ends there, and a token that no tree has there.
use Rattle.std.proofs.Common.{◌≡◌, ℕ, ◌<◌, Bool, true, false, ◌++◌, length, refl, sym, ap, ◌∙◌, subst}
use Rattle.std.proofs.Common.{append_assoc, arith, length-append, true≢false}
use Rattle.std.proofs.lemmas.List.{append_cancel_left}
use Rattle.hs_forms.specs.Reading.{Form, SameStart, begins, Refuses}
use Rattle.hs_forms.specs.Answers.{Accepts, Rejects, Fails}
use Rattle.hs_forms.specs.declared.fault.Fault.{Fault}
use Rattle.hs_forms.proofs.FormLemmas.{same_start_append, begins_same, begins_within}
use Rattle.hs_forms.proofs.StateLemmas.{fails_after}
use Rattle.hs_tokens.specs.declared.terminal.Terminal.{Terminal}
use Rattle.hs_headers.specs.Lists.{Ts}

-- A part behind a fixed front, where such a token stands or does not: the trees that begin so are those made of a part.
pub record Turn {P T : Type 0} (form : Form Terminal T) (front : Ts) (here : Terminal → Bool) (stands : Bool)
    (part : Form Terminal P) (make : P → T) : Type 0 where
  pub tokens : (p : P) → part.Good p → form.tokens (make p) ≡ front ++ part.tokens p
  pub good : (p : P) → part.Good p → form.Good (make p)
  pub extends : (p : P) (k : Terminal) → form.extends (make p) k ≡ false → part.extends p k ≡ false
  pub only : (x : T) (s after : Ts) → begins here s ≡ stands → form.Good x → begins (form.extends x) after ≡ false →
      front ++ s ≡ form.tokens x ++ after → (p : P) × (x ≡ make p) × part.Good p

module _ {P T : Type 0} (form : Form Terminal T) (front : Ts) (here : Terminal → Bool) (stands : Bool)
    (part : Form Terminal P) (make : P → T) (turn : Turn form front here stands part make) where
  quiet_part : (other : T) (p : P) (after : Ts) → other ≡ make p → begins (form.extends other) after ≡ false →
      begins (part.extends p) after ≡ false
  quiet_part other p after is q =
      begins_within (form.extends (make p)) (part.extends p) after (turn.extends p)
      (subst (λ o. begins (form.extends o) after ≡ false) is q)

  behind : (other : T) (p : P) (s after : Ts) → other ≡ make p → part.Good p →
      front ++ s ≡ form.tokens other ++ after → s ≡ part.tokens p ++ after
  behind other p s after is good e =
      append_cancel_left front s (part.tokens p ++ after)
      (e ∙ ap (λ o. form.tokens o ++ after) is ∙ ap (λ l. l ++ after) (turn.tokens p good)
      ∙ append_assoc front (part.tokens p) after)

  pub turn_ok : (ts next : Ts) (p : P) (rest : Ts) (d : ℕ) → ts ≡ front ++ next → begins here next ≡ stands →
      Accepts part (λ p. 0) next p rest d → Accepts form (λ x. 0) ts (make p) rest d
  turn_ok ts next p rest d at h a = record {
    spelled = at ∙ ap (λ l. front ++ l) a.spelled ∙ sym (append_assoc front (part.tokens p) rest)
        ∙ ap (λ l. l ++ rest) (sym (turn.tokens p a.reads.good));
    reads = record {
      good = turn.good p a.reads.good;
      only = λ s other after same good quiet e.
          let e' : front ++ (part.tokens p ++ s) ≡ form.tokens other ++ after =
          sym (append_assoc front (part.tokens p) s) ∙ ap (λ l. l ++ s) (sym (turn.tokens p a.reads.good)) ∙ e in
          let stays : begins here (part.tokens p ++ s) ≡ stands =
          begins_same here next (part.tokens p ++ s) (subst (λ l. SameStart l (part.tokens p ++ s)) (sym a.spelled)
          (same_start_append (part.tokens p) rest s same)) ∙ h in
          let q = turn.only other (part.tokens p ++ s) after stays good quiet e' in
          let found = a.reads.only s q.0 after same q.2 (quiet_part other q.0 after q.1 quiet)
          (behind other q.0 (part.tokens p ++ s) after q.1 q.2 e') in
          (q.1 ∙ ap make found.0, found.1);
    };
    measured_is = a.measured_is;
    room = omega (arith, a.room, ap length at, length-append front next);
  }

  pub turn_fails : (ts next : Ts) (f : Fault) → ts ≡ front ++ next → begins here next ≡ stands →
      Fails part next f → Fails form ts f
  turn_fails ts next f at h r = fails_after form part front ts next f at refused r
    where
      refused : (before bad : Ts) → next ≡ before ++ bad → Refuses part before bad → Refuses form (front ++ before) bad
      refused before bad split q = record {
        begun = (
          q.begun.0,
          make q.begun.1,
          turn.good q.begun.1 q.begun.2,
          append_assoc front before q.begun.0 ∙ ap (λ l. front ++ l) q.begun.3
              ∙ sym (turn.tokens q.begun.1 q.begun.2),
        );
        never = λ s other after same good quiet e.
            let e' : front ++ (before ++ s) ≡ form.tokens other ++ after = sym (append_assoc front before s) ∙ e in
            let stays : begins here (before ++ s) ≡ stands =
            begins_same here next (before ++ s) (subst (λ l. SameStart l (before ++ s)) (sym split)
            (same_start_append before bad s same)) ∙ h in
            let o = turn.only other (before ++ s) after stays good quiet e' in
            q.never s o.0 after same o.2 (quiet_part other o.0 after o.1 quiet)
            (behind other o.0 (before ++ s) after o.1 o.2 e');
      }

module _ {T : Type 0} (form : Form Terminal T) where
  -- the other trees that begin so, before such tokens, are this one
  abbrev pub Alone : Ts → Ts → T → Type 0
  Alone front rest x = (s : Ts) (other : T) (after : Ts) → SameStart rest s → form.Good other →
      begins (form.extends other) after ≡ false → front ++ s ≡ form.tokens other ++ after → other ≡ x

  -- a tree that ends here
  pub tree_ok : (ts front rest : Ts) (x : T) → ts ≡ front ++ rest → 0 < length front → form.tokens x ≡ front →
      form.Good x → Alone front rest x → Accepts form (λ x. 0) ts x rest 0
  tree_ok ts front rest x at some is good alone = record {
    spelled = at ∙ ap (λ l. l ++ rest) (sym is);
    reads = record {
      good = good;
      only = λ s other after same fits quiet e.
          let e' : front ++ s ≡ form.tokens other ++ after = ap (λ l. l ++ s) (sym is) ∙ e in
          let one = alone s other after same fits quiet e' in (
            one,
            append_cancel_left front after s (sym (e' ∙ ap (λ o. form.tokens o ++ after) one
                ∙ ap (λ l. l ++ after) is)),
          );
    };
    measured_is = refl;
    room = omega (arith, ap length at, length-append front rest);
  }

  -- in each tree that begins so such a token stands next
  abbrev pub Next : Ts → (Terminal → Bool) → Type 0
  Next front f = (other : T) (s after : Ts) → form.Good other → begins (form.extends other) after ≡ false →
      front ++ s ≡ form.tokens other ++ after → begins f s ≡ true

  -- another token stands here
  pub stuck : (f : Terminal → Bool) (ts front bad more : Ts) (x : T) → form.Good x → front ++ more ≡ form.tokens x →
      Next front f → ts ≡ front ++ bad → begins f bad ≡ false → Rejects form ts (length bad)
  stuck f ts front bad more x good is next at ends = record {
    before = front;
    bad = bad;
    split = at;
    left_is = refl;
    refuses = record {
      begun = (more, x, good, is);
      never = λ s other after same fits quiet e.
          true≢false (sym (next other s after fits quiet e) ∙ begins_same f bad s same ∙ ends);
    };
  }
