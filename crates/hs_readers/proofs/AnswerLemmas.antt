-- What a reader answers, from what a reader of a part answered.
use Rattle.std.proofs.Common.{◌≡◌, ℕ, zero, suc, ◌+◌, ◌<◌, true, false, List, [], ◌∷◌, ◌++◌, length, drop, refl, sym}
use Rattle.std.proofs.Common.{ap, ◌∙◌, true≢false, arith}
use Rattle.std.specs.Prelude.{Result, Ok, Err, replicate}
use Rattle.std.specs.List.{prefix_len}
use Rattle.hs_forms.specs.Reading.{begins}
use Rattle.hs_forms.specs.Answers.{Sort}
use Rattle.hs_forms.specs.Forms.{behind}
use Rattle.hs_forms.specs.declared.fault.Fault.{Fault}
use Rattle.hs_forms.proofs.FormLemmas.{reads_behind, refuses_behind}
use Rattle.hs_forms.proofs.StateLemmas.{fails_after}
use Rattle.hs_tokens.specs.declared.terminal.Terminal.{Terminal}
use Rattle.hs_tokens.specs.declared.terminal.Terminal.TheVariants as t
use Rattle.hs_tokens.specs.Terminals.{is_arrow, is_comma}
use Rattle.hs_readers.specs.Answers.{Answers}
use Rattle.hs_readers.specs.declared.read.Read.{Read}

-- a tree behind a token
pub behind_answers : {T : Type 0} (k : Terminal) (sort : Sort Terminal T) (ts next : List Terminal)
    (r : Result (Read T) Fault) → ts ≡ k ∷ next → Answers sort next r →
    Answers (record { form = behind k sort.form; depth = sort.depth }) ts r
behind_answers k sort ts next (Ok r) at a = record {
  spelled = at ∙ ap (λ l. k ∷ l) a.spelled;
  reads = reads_behind k sort.form r.tree r.rest.now a.reads;
  measured_is = a.measured_is;
  room = omega (arith, a.room, ap length at);
}
behind_answers k sort ts next (Err e) at a =
    fails_after (behind k sort.form) sort.form (k ∷ []) ts next e at
    (λ before bad split q. refuses_behind k sort.form before bad q) a

-- the token that stands here
pub arrow_led : (ts : List Terminal) → begins is_arrow ts ≡ true → ts ≡ t.Arrow ∷ drop 1 ts
arrow_led [] h = absurd (true≢false (sym h))
arrow_led (t.Arrow ∷ ts) h = refl
arrow_led (_ ∷ ts) h = absurd (true≢false (sym h))

pub comma_led : (ts : List Terminal) → begins is_comma ts ≡ true → ts ≡ t.Comma ∷ drop 1 ts
comma_led [] h = absurd (true≢false (sym h))
comma_led (t.Comma ∷ ts) h = refl
comma_led (_ ∷ ts) h = absurd (true≢false (sym h))

-- the commas at the front
pub commas_split : (ts : List Terminal) → ts ≡ replicate (prefix_len is_comma ts) t.Comma
    ++ drop (prefix_len is_comma ts) ts
commas_split [] = refl
commas_split (t.Comma ∷ ts) =
    let n = prefix_len is_comma ts in
    let one : 1 + n ≡ suc n = omega arith in
    rw one (ap (λ l. t.Comma ∷ l) (commas_split ts))
commas_split (_ ∷ ts) = refl

pub commas_stop : (ts : List Terminal) → begins is_comma (drop (prefix_len is_comma ts) ts) ≡ false
commas_stop [] = refl
commas_stop (t.Comma ∷ ts) =
    let n = prefix_len is_comma ts in
    let one : 1 + n ≡ suc n = omega arith in
    rw one (commas_stop ts)
commas_stop (_ ∷ ts) = refl

-- behind fewer than all of them stands a comma
pub commas_front : (ts : List Terminal) (n : ℕ) → n < prefix_len is_comma ts →
    (ts ≡ replicate n t.Comma ++ drop n ts) × (begins is_comma (drop n ts) ≡ true)
commas_front [] n lt = absurd (omega arith)
commas_front (t.Comma ∷ ts) zero lt = (refl, refl)
commas_front (t.Comma ∷ ts) (suc n) lt =
    let found = commas_front ts n (omega arith) in (ap (λ l. t.Comma ∷ l) found.0, found.1)
commas_front (_ ∷ ts) n lt = absurd (omega arith)
