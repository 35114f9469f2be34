-- Productions behind a fixed front, or known by their first token.
use Rattle.std.proofs.Common.{◌≡◌, Bool, true, false, List, [], ◌∷◌, ◌++◌, refl, sym, ap, ◌∙◌, subst, append_assoc}
use Rattle.std.proofs.Common.{true≢false}
use Rattle.std.proofs.lemmas.List.{append_cancel_left}
use Rattle.hs_forms.specs.Reading.{Form, begins, Reads, Refuses}
use Rattle.hs_forms.specs.Forms.{leaf}
use Rattle.hs_forms.specs.Productions.{Leads, Variant}
use Rattle.hs_forms.proofs.FormLemmas.{same_start_append, begins_within, begins_same, begins_append}

module _ {K P T : Type 0} (form : Form K T) (front : List K) (part : Form K P) (make : P
    → T) (l : Leads form front part make) where
  behind_lead : (other : T) (p : P) (s after : List K) → other ≡ make p → front ++ s ≡ form.tokens other ++ after →
      s ≡ part.tokens p ++ after
  behind_lead other p s after is e =
      append_cancel_left front s (part.tokens p ++ after)
      (e ∙ ap (λ o. form.tokens o ++ after) is ∙ ap (λ ts. ts ++ after) (l.tokens p)
      ∙ append_assoc front (part.tokens p) after)

  quiet_part : (other : T) (p : P) (after : List K) → other ≡ make p → begins (form.extends other) after ≡ false →
      begins (part.extends p) after ≡ false
  quiet_part other p after is q =
      begins_within (form.extends (make p)) (part.extends p) after (l.extends p)
      (subst (λ o. begins (form.extends o) after ≡ false) is q)

  pub lead_reads : (p : P) (rest : List K) → Reads part p rest → Reads form (make p) rest
  lead_reads p rest r = record {
    good = l.good p r.good;
    only = λ s other after same good quiet e.
        let e' : front ++ (part.tokens p ++ s) ≡ form.tokens other ++ after =
        sym (append_assoc front (part.tokens p) s) ∙ ap (λ ts. ts ++ s) (sym (l.tokens p)) ∙ e in
        let q = l.only other (part.tokens p ++ s) after good quiet e' in
        let found = r.only s q.0 after same (l.good_back q.0 (subst form.Good q.1 good))
        (quiet_part other q.0 after q.1 quiet)
        (behind_lead other q.0 (part.tokens p ++ s) after q.1 e') in
        (q.1 ∙ ap make found.0, found.1);
  }

  pub lead_refuses : (before bad : List K) → Refuses part before bad → Refuses form (front ++ before) bad
  lead_refuses before bad r = record {
    begun = (
      r.begun.0,
      make r.begun.1,
      l.good r.begun.1 r.begun.2,
      append_assoc front before r.begun.0 ∙ ap (λ ts. front ++ ts) r.begun.3 ∙ sym (l.tokens r.begun.1),
    );
    never = λ s other after same good quiet e.
        let e' : front ++ (before ++ s) ≡ form.tokens other ++ after = sym (append_assoc front before s) ∙ e in
        let q = l.only other (before ++ s) after good quiet e' in
        r.never s q.0 after same (l.good_back q.0 (subst form.Good q.1 good)) (quiet_part other q.0 after q.1 quiet)
        (behind_lead other q.0 (before ++ s) after q.1 e');
  }

module _ {K P T : Type 0} (form : Form K T) (part : Form K P) (make : P → T) (starter : K
    → Bool) (v : Variant form part make starter) where
  pub variant_reads : (p : P) (rest : List K) → Reads part p rest → Reads form (make p) rest
  variant_reads p rest r = record {
    good = v.good p r.good;
    only = λ s other after same good quiet e.
        let e' : part.tokens p ++ s ≡ form.tokens other ++ after = ap (λ ts. ts ++ s) (sym (v.tokens p)) ∙ e in
        let q = v.only other after good (subst (λ l. begins starter l ≡ true) e'
        (begins_append starter (part.tokens p) s (v.starts p))) in
        let found = r.only s q.0 after same (v.good_back q.0 (subst form.Good q.1 good))
        (begins_within (form.extends (make q.0)) (part.extends q.0) after (v.extends q.0)
        (subst (λ o. begins (form.extends o) after ≡ false) q.1 quiet))
        (e' ∙ ap (λ o. form.tokens o ++ after) q.1 ∙ ap (λ ts. ts ++ after) (v.tokens q.0)) in
        (q.1 ∙ ap make found.0, found.1);
  }

  pub variant_refuses : (before bad : List K) → begins starter (before ++ bad) ≡ true → Refuses part before bad →
      Refuses form before bad
  variant_refuses before bad starts r = record {
    begun = (r.begun.0, make r.begun.1, v.good r.begun.1 r.begun.2, r.begun.3 ∙ sym (v.tokens r.begun.1));
    never = λ s other after same good quiet e.
        let first = begins_same starter (before ++ bad) (before ++ s) (same_start_append before bad s same) ∙ starts in
        let q = v.only other after good (subst (λ l. begins starter l ≡ true) e first) in
        r.never s q.0 after same (v.good_back q.0 (subst form.Good q.1 good))
        (begins_within (form.extends (make q.0)) (part.extends q.0) after (v.extends q.0)
        (subst (λ o. begins (form.extends o) after ≡ false) q.1 quiet))
        (e ∙ ap (λ o. form.tokens o ++ after) q.1 ∙ ap (λ ts. ts ++ after) (v.tokens q.0));
  }

-- No tree begins here.
pub none_refused : {K T : Type 0} (form : Form K T) (starter : K → Bool) (least : T) → form.Good least →
    ((x : T) → form.Good x → begins starter (form.tokens x) ≡ true) → (bad : List K) → begins starter bad ≡ false
    → Refuses form [] bad
none_refused form starter least good starts bad ends = record {
  begun = (form.tokens least, least, good, refl);
  never = λ s other after same g quiet e.
      true≢false (sym (begins_append starter (form.tokens other) after (starts other g)) ∙ ap (begins starter) (sym e)
      ∙ begins_same starter bad s same ∙ ends);
}

heads : {K : Type 0} (x y : K) (xs ys : List K) → x ∷ xs ≡ y ∷ ys → (x ≡ y) × (xs ≡ ys)
heads x y xs ys e = (cc, cc)

pub reads_leaf : {K N : Type 0} (token : N → K) → ((n m : N) → token n ≡ token m → m ≡ n) → (n : N) (rest : List K) →
    Reads (leaf token) n rest
reads_leaf token inj n rest = record {
  good = tt;
  only = λ s other after same good quiet e. let both = heads (token n) (token other) s after e in
      (inj n other both.0, sym both.1);
}

-- variants, for readers of expressions and declarations
pub ruleset variant_laws = (variant_refuses)
