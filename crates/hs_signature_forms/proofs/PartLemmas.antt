-- The parts of a signature's block, each behind the token before it.
use Rattle.std.proofs.Common.{◌≡◌, ℕ, ◌+◌, Bool, true, false, List, [], ◌∷◌, ◌++◌, length, refl, sym, ap, ◌∙◌, arith}
use Rattle.std.proofs.Common.{true≢false, subst, inl, inr, ◌⊎◌, append_assoc}
use Rattle.std.proofs.lemmas.List.{append-nil}
use Rattle.std.specs.Prelude.{not, max, map, ◌&&◌, ◌||◌, Option, None}
use Rattle.std.proofs.lemmas.Bool.{and_from}
use Rattle.hs_forms.specs.Reading.{begins, SameStart, Reads}
use Rattle.hs_forms.specs.Limits.{Within}
use Rattle.hs_forms.specs.Productions.{Chain}
use Rattle.hs_forms.specs.Answers.{Accepts, Fails}
use Rattle.hs_forms.specs.declared.fault.Fault.{Fault}
use Rattle.hs_forms.proofs.FormLemmas.{begins_same, begins_append, reads_behind, same_start_append}
use Rattle.hs_forms.proofs.LimitLemmas.{and_left, and_right, within_zero, or_left, or_right}
use Rattle.hs_tokens.specs.declared.terminal.Terminal.{Terminal}
use Rattle.hs_tokens.specs.declared.terminal.Terminal.TheVariants as t
use Rattle.hs_trees.specs.Patterns.{Ts}
use Rattle.hs_modules.specs.ModuleTokens.{import_tokens, sig_decl_tokens, sig_slot_tokens}
use Rattle.hs_modules.specs.ModuleForms.{is_sig_decl, is_import_list}
use Rattle.hs_modules.specs.declared.module.ImpDeclTree.{ImpDeclTree}
use Rattle.hs_modules.specs.declared.declarations.SigDeclTree.{SigDeclTree}
use Rattle.hs_modules.specs.declared.declarations.SigSlot.{SigSlot}
use Rattle.hs_modules.specs.declared.declarations.SigSlot.TheVariants as v
use Rattle.hs_headers.specs.Names.{is_import_word, goes_on}
use Rattle.hs_headers.specs.Headers.{import_form}
use Rattle.hs_expression_forms.specs.Trees.{Trees, Took, Failed, behind_token, within}
use Rattle.hs_expression_forms.proofs.TreesLemmas.{behind_took, behind_failed, Stays, stays_first}
use Rattle.hs_block_forms.specs.Combined.{Heads}
use Rattle.hs_block_forms.specs.Blocks.{ends_item, is_semicolon}
use Rattle.hs_block_forms.proofs.CombinedLemmas.{headed_chain}
use Rattle.hs_declaration_forms.proofs.FlatLemmas.{flat_took, flat_failed}
use Rattle.hs_declaration_forms.proofs.MergeLemmas.{Joins, joined_took, joined_failed}
use Rattle.hs_signature_forms.specs.declared.parts.SigPart.{SigPart}
use Rattle.hs_signature_forms.specs.declared.parts.SigPart.TheVariants as p
use Rattle.hs_signature_forms.specs.Signatures.{sig_decls, imports, later_slots, decl_runs, parts, part_tokens, is_part}
use Rattle.hs_declaration_forms.specs.Typings.{fills_place}
use Rattle.hs_signature_forms.proofs.SigDeclLemmas.{sig_decl_busy, decl_no_import, import_flat}

-- Trees of which one has no tokens, and each other begins with a token that ends no item.
pub record Blank {T : Type 0} (a : Trees Terminal T) (blank : T) : Type 0 where
  pub tokens : a.tokens blank ≡ []
  pub formed : a.formed blank ≡ true
  pub deep : a.deep blank ≡ 0
  pub others : (x : T) → a.formed x ≡ true →
      (x ≡ blank) ⊎ ((after : Ts) → begins fills_place (a.tokens x ++ after) ≡ true)

module _ {T : Type 0} (a : Trees Terminal T) (blank : T) (b : Blank a blank) (limit : Option ℕ) where
  blank_reads : (here : Ts) → begins fills_place here ≡ false → Reads (within a limit) blank here
  blank_reads here off = record {
    good = (b.formed, subst (Within limit) (sym b.deep) (within_zero limit));
    only = λ s other after same good quiet e.
        by s other after same (ap (λ l. l ++ s) (sym b.tokens) ∙ e) (b.others other good.0);
  }
    where
      by : (s : Ts) (other : T) (after : Ts) → SameStart here s → s ≡ a.tokens other ++ after →
          (other ≡ blank) ⊎ ((after : Ts) → begins fills_place (a.tokens other ++ after) ≡ true) →
          (other ≡ blank) × (after ≡ s)
      by s other after same e (inl is) =
          (is, sym (e ∙ ap (λ y. a.tokens y ++ after) is ∙ ap (λ l. l ++ after) b.tokens))
      by s other after same e (inr f) =
          absurd (true≢false (sym (f after) ∙ ap (begins fills_place) (sym e) ∙ begins_same fills_place here s same ∙ off))

  -- nothing stands between the token before and what ends an item
  pub blank_took : (k : Terminal) (here : Ts) → begins fills_place here ≡ false →
      Took (behind_token k a) limit (k ∷ here) blank here 0
  blank_took k here off = record {
    spelled = ap (λ l. k ∷ (l ++ here)) (sym b.tokens);
    reads = reads_behind k (within a limit) blank here (blank_reads here off);
    measured_is = sym b.deep;
    room = omega arith;
  }

-- places behind a declaration
pub slot_blank : Blank later_slots v.Empty
slot_blank = record { tokens = refl; formed = refl; deep = refl; others = others }
  where
    others : (x : SigSlot) → later_slots.formed x ≡ true →
        (x ≡ v.Empty) ⊎ ((after : Ts) → begins fills_place (sig_slot_tokens x ++ after) ≡ true)
    others v.Empty g = inl refl
    others (v.Import i) g = inr (λ after. refl)
    others (v.Decl d) g = inr (λ after. sig_decl_busy d after (and_left (is_sig_decl d) true g))

abbrev pub make_slot : SigDeclTree → SigSlot
make_slot d = v.Decl d

pub slot_joins : Joins later_slots sig_decls make_slot (begins fills_place)
slot_joins = record {
  tokens = λ d. refl;
  formed = λ d g. and_from (is_sig_decl d) true g refl;
  deep = λ d. refl;
  extends = λ d k e. e;
  starts = λ d after g. sig_decl_busy d after g;
  only = only;
}
  where
    only : (x : SigSlot) (after : Ts) → later_slots.formed x ≡ true → begins fills_place after ≡ false →
        begins fills_place (sig_slot_tokens x ++ after) ≡ true →
        (d : SigDeclTree) × (x ≡ make_slot d) × (is_sig_decl d ≡ true)
    only v.Empty after g q e = absurd (true≢false (sym e ∙ q))
    only (v.Import i) after g q e = absurd (true≢false (sym (and_right (is_import_list i.list) false g)))
    only (v.Decl d) after g q e = (d, refl, and_left (is_sig_decl d) true g)

semicolon_idle : (k : Terminal) → is_semicolon k ≡ true → fills_place k ≡ false
semicolon_idle t.Semicolon h = refl
semicolon_idle _ h = absurd (true≢false (sym h))

pub run_heads : Heads sig_decls (behind_token t.Semicolon later_slots) is_semicolon
run_heads = record {
  starts = λ x. refl;
  apart_head = λ h k e. semicolon_idle k e;
  apart = λ x k e. semicolon_idle k e;
}

abbrev pub Run : Type 0
Run = SigDeclTree × List SigSlot

abbrev pub run_chain : Option ℕ → Chain Terminal Run SigDeclTree SigSlot
run_chain limit =
    headed_chain sig_decls (behind_token t.Semicolon later_slots) is_semicolon run_heads None limit
    (within (behind_token t.Semicolon later_slots) limit).Good (Unit {0}) (λ r x g. g) (λ x g. (tt, g))

module _ (limit : Option ℕ) (k : Terminal) (here : Ts) where
  pub slot_took : (d : SigDeclTree) (rest : Ts) (m : ℕ) → Took sig_decls limit here d rest m →
      Took (behind_token k later_slots) limit (k ∷ here) (make_slot d) rest m
  slot_took d rest m acc =
      behind_took later_slots limit k (k ∷ here) here (make_slot d) rest m refl
      (joined_took later_slots sig_decls make_slot (begins fills_place) slot_joins limit here d rest m acc)

  pub slot_failed : begins fills_place here ≡ true → (e : Fault) → Failed sig_decls limit here e →
      Failed (behind_token k later_slots) limit (k ∷ here) e
  slot_failed on e r =
      behind_failed later_slots limit k (k ∷ here) here e refl
      (joined_failed later_slots sig_decls make_slot (begins fills_place) slot_joins limit here e (stays_first fills_place here on) r)

-- parts
run_busy : (d : SigDeclTree) (ss : List SigSlot) (after : Ts) → decl_runs.formed (d, ss) ≡ true →
    begins fills_place (decl_runs.tokens (d, ss) ++ after) ≡ true
run_busy d ss after g =
    begins_append fills_place (decl_runs.tokens (d, ss)) after (begins_append fills_place (sig_decl_tokens d) _ (first d
    (and_left (is_sig_decl d) _ g)))
  where
    first : (d : SigDeclTree) → is_sig_decl d ≡ true → begins fills_place (sig_decl_tokens d) ≡ true
    first d g = ap (begins fills_place) (sym (append-nil (sig_decl_tokens d))) ∙ sig_decl_busy d [] g

pub part_blank : Blank parts p.Empty
part_blank = record { tokens = refl; formed = refl; deep = refl; others = others }
  where
    others : (x : SigPart) → is_part x ≡ true →
        (x ≡ p.Empty) ⊎ ((after : Ts) → begins fills_place (part_tokens x ++ after) ≡ true)
    others p.Empty g = inl refl
    others (p.Import i) g = inr (λ after. refl)
    others (p.Decls d ss) g = inr (λ after. run_busy d ss after g)

abbrev pub make_import : ImpDeclTree → SigPart
make_import x = p.Import x

import_ends : (k : Terminal) → fills_place k ≡ false → goes_on k ≡ false
import_ends t.Semicolon h = refl
import_ends t.RightBrace h = refl
import_ends _ h = absurd (true≢false h)

pub import_joins : Joins parts imports make_import (begins is_import_word)
import_joins = record {
  tokens = λ x. refl;
  formed = λ x g. g;
  deep = λ x. refl;
  extends = λ x k e. import_ends k e;
  starts = λ x after g. refl;
  only = only;
}
  where
    quiet_import : (after : Ts) → begins fills_place after ≡ false → begins is_import_word after ≡ false
    quiet_import [] q = refl
    quiet_import (t.Semicolon ∷ after) q = refl
    quiet_import (t.RightBrace ∷ after) q = refl
    quiet_import (_ ∷ after) q = absurd (true≢false q)

    only : (x : SigPart) (after : Ts) → is_part x ≡ true → begins (parts.extends x) after ≡ false →
        begins is_import_word (part_tokens x ++ after) ≡ true →
        (i : ImpDeclTree) × (x ≡ make_import i) × (is_import_list i.list ≡ true)
    only p.Empty after g q e = absurd (true≢false (sym e ∙ quiet_import after q))
    only (p.Import i) after g q e = (i, refl, g)
    only (p.Decls d ss) after g q e =
        absurd (true≢false (sym e ∙ ap (begins is_import_word) (append_assoc (sig_decl_tokens d) _ after)
        ∙ decl_no_import d _ (and_left (is_sig_decl d) _ g)))

-- something else than an import stands there
abbrev pub other_part : Terminal → Bool
other_part k = fills_place k && not (is_import_word k)

abbrev pub make_run : Run → SigPart
make_run x = p.Decls x.0 x.1

pub run_joins : Joins parts decl_runs make_run (begins other_part)
run_joins = record {
  tokens = λ x. refl;
  formed = λ x g. g;
  deep = λ x. refl;
  extends = λ x k e. e;
  starts = λ x after g. other (decl_runs.tokens x ++ after) (run_busy x.0 x.1 after g)
      (ap (begins is_import_word) (append_assoc (sig_decl_tokens x.0) _ after)
      ∙ decl_no_import x.0 _ (and_left (is_sig_decl x.0) _ g));
  only = only;
}
  where
    other : (ts : Ts) → begins fills_place ts ≡ true → begins is_import_word ts ≡ false → begins other_part ts ≡ true
    other [] h e = h
    other (k ∷ ts) h e = and_from (fills_place k) (not (is_import_word k)) h (ap not e)

    idle : (after : Ts) → begins fills_place after ≡ false → begins other_part after ≡ false
    idle [] q = refl
    idle (k ∷ after) q = ap (λ b. b && not (is_import_word k)) q

    only : (x : SigPart) (after : Ts) → is_part x ≡ true → begins (parts.extends x) after ≡ false →
        begins other_part (part_tokens x ++ after) ≡ true →
        (r : Run) × (x ≡ make_run r) × (decl_runs.formed r ≡ true)
    only p.Empty after g q e = absurd (true≢false (sym e ∙ idle after q))
    only (p.Import i) after g q e = absurd (true≢false (sym e))
    only (p.Decls d ss) after g q e = ((d, ss), refl, g)

module _ (limit : Option ℕ) (k : Terminal) (here : Ts) where
  pub import_took : (x : ImpDeclTree) (rest : Ts) (m : ℕ) → Accepts import_form (λ x. 0) here x rest m →
      Took (behind_token k parts) limit (k ∷ here) (make_import x) rest m
  import_took x rest m acc =
      behind_took parts limit k (k ∷ here) here (make_import x) rest m refl
      (joined_took parts imports make_import (begins is_import_word) import_joins limit here x rest m
      (flat_took import_form imports import_flat limit here x rest m acc))

  pub import_failed : begins is_import_word here ≡ true → (e : Fault) → Fails import_form here e →
      Failed (behind_token k parts) limit (k ∷ here) e
  import_failed on e r =
      behind_failed parts limit k (k ∷ here) here e refl
      (joined_failed parts imports make_import (begins is_import_word) import_joins limit here e
      (stays_first is_import_word here on) (flat_failed import_form imports import_flat limit here e r))

  pub run_took : (x : Run) (rest : Ts) (m : ℕ) → Took decl_runs limit here x rest m →
      Took (behind_token k parts) limit (k ∷ here) (make_run x) rest m
  run_took x rest m acc =
      behind_took parts limit k (k ∷ here) here (make_run x) rest m refl
      (joined_took parts decl_runs make_run (begins other_part) run_joins limit here x rest m acc)

  pub run_failed : begins fills_place here ≡ true → begins is_import_word here ≡ false → (e : Fault) →
      Failed decl_runs limit here e → Failed (behind_token k parts) limit (k ∷ here) e
  run_failed on off e r =
      behind_failed parts limit k (k ∷ here) here e refl
      (joined_failed parts decl_runs make_run (begins other_part) run_joins limit here e
      (stays_first other_part here (other here on off)) r)
    where
      other : (ts : Ts) → begins fills_place ts ≡ true → begins is_import_word ts ≡ false → begins other_part ts ≡ true
      other [] h e = h
      other (k ∷ ts) h e = and_from (fills_place k) (not (is_import_word k)) h (ap not e)
