-- The returns of the readers of heads, over plain variables.
use Rattle.std.proofs.Common.{◌≡◌, ℕ, false, List, [], ◌∷◌, ◌++◌, length, refl, sym, ap, ◌∙◌, arith}
use Rattle.std.proofs.Common.{true≢false, append_assoc, subst}
use Rattle.std.specs.Prelude.{codes}
use Rattle.hs_forms.specs.Reading.{begins, Reads}
use Rattle.hs_forms.specs.Answers.{Accepts, Rejects, Fails}
use Rattle.hs_forms.specs.Forms.{closed}
use Rattle.hs_forms.specs.declared.fault.Fault.{Fault}
use Rattle.hs_forms.specs.declared.fault.Fault.TheVariants.{At}
use Rattle.hs_forms.proofs.FormLemmas.{reads_closed, refuses_closed, closing_missed}
use Rattle.hs_forms.proofs.StateLemmas.{fails_after}
use Rattle.hs_tokens.specs.Terminals.{is_con}
use Rattle.hs_tokens.specs.declared.terminal.Terminal.TheVariants as t
use Rattle.hs_tokens.specs.declared.word.Word.TheVariants as w
use Rattle.hs_modules.specs.ModuleTokens.{exports_tokens}
use Rattle.hs_modules.specs.declared.module.ExportsTree.{ExportsTree}
use Rattle.hs_headers.specs.Lists.{Ts}
use Rattle.hs_headers.specs.Names.{is_module_word, is_where_word, is_signature_word}
use Rattle.hs_headers.specs.Headers.{exports_form}
use Rattle.hs_headers.specs.Heads.{module_head_form, module_head_tokens, signature_head_form}
use Rattle.hs_headers.specs.declared.heads.ModuleHead.{ModuleHead}
use Rattle.hs_headers.specs.declared.heads.ModuleHead.TheVariants as h
use Rattle.hs_headers.proofs.TurnLemmas.{Turn, Next, stuck, turn_ok, turn_fails}

abbrev name_front : List ℕ → Ts
name_front name = t.Word w.Module ∷ t.Con name ∷ []

pub head_none : (ts : Ts) → begins is_module_word ts ≡ false → Rejects module_head_form ts (length ts)
head_none ts p =
    stuck module_head_form is_module_word ts [] ts (module_head_tokens (h.Named [])) (h.Named []) refl refl next refl p
  where
    next : Next module_head_form [] is_module_word
    next (h.Named m) s after good quiet e = ap (begins is_module_word) e
    next (h.Exporting m y) s after good quiet e = ap (begins is_module_word) e

pub head_no_name : (ts : Ts)
    → begins is_con ts ≡ false →
    Rejects module_head_form (t.Word w.Module ∷ ts) (length ts)
head_no_name ts p =
    stuck module_head_form is_con (t.Word w.Module ∷ ts) (t.Word w.Module ∷ []) ts (t.Con [] ∷ t.Word w.Where ∷ [])
    (h.Named []) refl refl next refl p
  where
    next : Next module_head_form (t.Word w.Module ∷ []) is_con
    next (h.Named m) s after good quiet e =
        let at : s ≡ t.Con m ∷ t.Word w.Where ∷ after = cc in ap (begins is_con) at
    next (h.Exporting m y) s after good quiet e =
        let at : s ≡ t.Con m ∷ ((exports_tokens y ++ t.Word w.Where ∷ []) ++ after) = cc in ap (begins is_con) at

exporting : (name : List ℕ) →
    Turn module_head_form (name_front name) is_where_word false (closed exports_form (t.Word w.Where)) (h.Exporting
    name)
exporting name = record {
  tokens = λ y good. refl;
  good = λ y good. good;
  extends = λ y k e. refl;
  only = λ x s after stands good quiet e. only x s after stands good e;
}
  where
    only : (x : ModuleHead) (s after : Ts) → begins is_where_word s ≡ false → module_head_form.Good x →
        name_front name ++ s ≡ module_head_tokens x ++ after →
        (p : ExportsTree) × (x ≡ h.Exporting name p) × (closed exports_form (t.Word w.Where)).Good p
    only (h.Named m) s after stands good e =
        let at : s ≡ t.Word w.Where ∷ after = cc in
        absurd (true≢false (sym (ap (begins is_where_word) at) ∙ stands))
    only (h.Exporting m y) s after stands good e =
        let is : m ≡ name = cc in (y, ap (λ k. h.Exporting k y) is, good)

module _ (name : List ℕ) (ts : Ts) (stands : begins is_where_word ts ≡ false) where
  pub exporting_ok : (y : ExportsTree) (after rest : Ts) (d : ℕ) → Accepts exports_form (λ x. 0) ts y after d →
      after ≡ t.Word w.Where ∷ rest →
      Accepts module_head_form (λ x. 0) (t.Word w.Module ∷ t.Con name ∷ ts) (h.Exporting name y) rest d
  exporting_ok y after rest d a shut =
      turn_ok module_head_form (name_front name) is_where_word false (closed exports_form (t.Word w.Where))
      (h.Exporting name) (exporting name) (t.Word w.Module ∷ t.Con name ∷ ts) ts y rest d refl stands
      (record {
        spelled = a.spelled ∙ ap (λ l. exports_tokens y ++ l) shut
            ∙ sym (append_assoc (exports_tokens y) (t.Word w.Where ∷ []) rest);
        reads = reads_closed exports_form (t.Word w.Where) (λ x. refl) y rest
            (subst (Reads exports_form y) shut a.reads);
        measured_is = a.measured_is;
        room = omega (arith, a.room, ap length shut);
      })

  pub exporting_fails : (f : Fault) → Fails exports_form ts f →
      Fails module_head_form (t.Word w.Module ∷ t.Con name ∷ ts) f
  exporting_fails f r =
      turn_fails module_head_form (name_front name) is_where_word false (closed exports_form (t.Word w.Where))
      (h.Exporting name) (exporting name) (t.Word w.Module ∷ t.Con name ∷ ts) ts f refl stands
      (fails_after (closed exports_form (t.Word w.Where)) exports_form [] ts ts f refl
      (λ before bad split q. refuses_closed exports_form (t.Word w.Where) (λ x. refl) before bad q) r)

  pub exporting_open : (y : ExportsTree) (after : Ts) (d : ℕ) → Accepts exports_form (λ x. 0) ts y after d →
      begins is_where_word after ≡ false →
      Rejects module_head_form (t.Word w.Module ∷ t.Con name ∷ ts) (length after)
  exporting_open y after d a missed =
      turn_fails module_head_form (name_front name) is_where_word false (closed exports_form (t.Word w.Where))
      (h.Exporting name) (exporting name) (t.Word w.Module ∷ t.Con name ∷ ts) ts (At (length after)) refl stands
      (record {
        before = exports_tokens y;
        bad = after;
        split = a.spelled;
        left_is = refl;
        refuses = closing_missed exports_form (t.Word w.Where) (λ x. refl) is_where_word refl y after a.reads missed;
      })

-- signatures
pub signature_none : (ts : Ts) → begins is_signature_word ts ≡ false → Rejects signature_head_form ts (length ts)
signature_none ts p =
    stuck signature_head_form is_signature_word ts [] ts (signature_head_form.tokens []) [] tt refl
    (λ x s after good quiet e. ap (begins is_signature_word) e) refl p

pub signature_no_name : (ts next : Ts) → ts ≡ t.Var (codes "signature") ∷ next → begins is_con next ≡ false →
    Rejects signature_head_form ts (length next)
signature_no_name ts next at p =
    stuck signature_head_form is_con ts (t.Var (codes "signature") ∷ []) next (t.Con [] ∷ t.Word w.Where ∷ []) [] tt
    refl
    (λ x s after good quiet e. (let is : s ≡ t.Con x ∷ t.Word w.Where ∷ after = cc in ap (begins is_con) is)) at p

pub signature_open : (ts next behind : Ts) (name : List ℕ) → ts ≡ t.Var (codes "signature") ∷ next →
    next ≡ t.Con name ∷ behind → begins is_where_word behind ≡ false → Rejects signature_head_form ts (length behind)
signature_open ts next behind name at named p =
    stuck signature_head_form is_where_word ts (t.Var (codes "signature") ∷ t.Con name ∷ []) behind (t.Word w.Where
    ∷ [])
    name tt refl
    (λ x s after good quiet e. (let is : s ≡ t.Word w.Where ∷ after = cc in ap (begins is_where_word) is))
    (at ∙ ap (λ l. t.Var (codes "signature") ∷ l) named) p
