-- Where no operator stands.
use Rattle.std.proofs.Common.{◌≡◌, ℕ, true, false, List, [], ◌∷◌, ◌++◌, length, refl, sym, ap, ◌∙◌}
use Rattle.std.proofs.Common.{true≢false, inl, inr, ◌⊎◌}
use Rattle.std.specs.Prelude.{Option}
use Rattle.hs_forms.specs.Reading.{SameStart, begins}
use Rattle.hs_forms.specs.Answers.{Rejects}
use Rattle.hs_forms.proofs.FormLemmas.{begins_append, begins_same}
use Rattle.hs_forms.proofs.LimitLemmas.{within_zero}
use Rattle.hs_tokens.specs.Terminals.{is_backquote}
use Rattle.hs_tokens.specs.declared.terminal.Terminal.{Terminal}
use Rattle.hs_tokens.specs.declared.terminal.Terminal.TheVariants as t
use Rattle.hs_trees.specs.Patterns.{Ts}
use Rattle.hs_trees.specs.declared.patterns.QConOpTree.TheVariants as o
use Rattle.hs_modules.specs.Words.{qop_tokens, quoted}
use Rattle.hs_modules.specs.declared.names.QOpTree.{QOpTree}
use Rattle.hs_modules.specs.declared.names.QOpTree.TheVariants as q
use Rattle.hs_expression_forms.specs.Trees.{within}
use Rattle.hs_expression_forms.specs.Expressions.{qops, starts_qop}
use Rattle.hs_expression_forms.proofs.PieceLemmas.{qop_starts}
use Rattle.hs_expressions.specs.Leaves.{is_quotable}

-- a symbol, or a name between backquotes
shape : (op : QOpTree) → (begins is_backquote (qop_tokens op) ≡ false)
    ⊎ ((k : Terminal) × (is_quotable k ≡ true) × (qop_tokens op ≡ quoted k))
shape (q.Sym n) = inl refl
shape (q.Quoted n) = inr (t.Var n, refl, refl)
shape (q.QualifiedSym n) = inl refl
shape (q.QualifiedQuoted n) = inr (t.QVar n, refl, refl)
shape (q.Con (o.Sym n)) = inl refl
shape (q.Con o.Colon) = inl refl
shape (q.Con (o.Quoted n)) = inr (t.Con n, refl, refl)

of_name : (k : Terminal) → is_quotable k ≡ true → (op : QOpTree) × (qop_tokens op ≡ quoted k)
of_name (t.Var n) h = (q.Quoted n, refl)
of_name (t.QVar n) h = (q.QualifiedQuoted n, refl)
of_name (t.Con n) h = (q.Con (o.Quoted n), refl)
of_name _ h = absurd (true≢false (sym h))

first_quote : (ts after s : Ts) → begins is_backquote ts ≡ false → t.Backquote ∷ s ≡ ts ++ after →
    begins starts_qop ts ≡ true → ⊥
first_quote [] after s h e k = true≢false (sym k)
first_quote (x ∷ ts) after s h e k = true≢false (ap (begins is_backquote) e ∙ h)

behind_quote : (k : Terminal) (s after : Ts) → t.Backquote ∷ s ≡ quoted k ++ after → s ≡ k ∷ t.Backquote ∷ after
behind_quote k s after e = cc

pub no_qop : (k : Terminal) → ((n : List ℕ) → k ≡ t.VarSym n → ⊥) → ((n : List ℕ) → k ≡ t.QVarSym n → ⊥) →
    ((n : List ℕ) → k ≡ t.ConSym n → ⊥) → (k ≡ t.Colon → ⊥) → (k ≡ t.Backquote → ⊥) → starts_qop k ≡ false
no_qop (t.VarSym n) a b c d e = absurd (a n refl)
no_qop (t.QVarSym n) a b c d e = absurd (b n refl)
no_qop (t.ConSym n) a b c d e = absurd (c n refl)
no_qop t.Colon a b c d e = absurd (d refl)
no_qop t.Backquote a b c d e = absurd (e refl)
no_qop _ a b c d e = refl

pub not_quotable : (k : Terminal) → ((n : List ℕ) → k ≡ t.Var n → ⊥) → ((n : List ℕ) → k ≡ t.QVar n → ⊥) →
    ((n : List ℕ) → k ≡ t.Con n → ⊥) → is_quotable k ≡ false
not_quotable (t.Var n) a b c = absurd (a n refl)
not_quotable (t.QVar n) a b c = absurd (b n refl)
not_quotable (t.Con n) a b c = absurd (c n refl)
not_quotable _ a b c = refl

module _ (limit : Option ℕ) where
  pub qop_none : (ts : Ts) → begins starts_qop ts ≡ false → Rejects (within qops limit) ts (length ts)
  qop_none ts ends = record {
    before = [];
    bad = ts;
    split = refl;
    left_is = refl;
    refuses = record {
      begun = (_, q.Con o.Colon, (refl, within_zero limit), refl);
      never = λ s other after same good quiet e.
          true≢false (sym (begins_append starts_qop (qop_tokens other) after (qop_starts other))
          ∙ ap (begins starts_qop) (sym e)
          ∙ begins_same starts_qop ts s same ∙ ends);
    };
  }

  pub quoted_none : (ts : Ts) → begins is_quotable ts ≡ false → Rejects (within qops limit) (t.Backquote ∷ ts)
      (length ts)
  quoted_none ts ends = record {
    before = t.Backquote ∷ [];
    bad = ts;
    split = refl;
    left_is = refl;
    refuses = record {
      begun = (t.Var [] ∷ t.Backquote ∷ [], q.Quoted [], (refl, within_zero limit), refl);
      never = λ s other after same good quiet e. go s other after same e (shape other);
    };
  }
    where
      go : (s : Ts) (other : QOpTree) (after : Ts) → SameStart ts s → t.Backquote ∷ s ≡ qop_tokens other ++ after →
          (begins is_backquote (qop_tokens other) ≡ false)
          ⊎ ((k : Terminal) × (is_quotable k ≡ true) × (qop_tokens other ≡ quoted k)) → ⊥
      go s other after same e (inl h) = first_quote (qop_tokens other) after s h e (qop_starts other)
      go s other after same e (inr k) =
          true≢false (sym (ap (begins is_quotable) (behind_quote k.0 s after (e ∙ ap (λ l. l ++ after) k.2)) ∙ k.1)
          ∙ begins_same is_quotable ts s same ∙ ends)

  pub quoted_open : (k : Terminal) (ts rest : Ts) → is_quotable k ≡ true → ts ≡ k ∷ rest →
      begins is_backquote rest ≡ false → Rejects (within qops limit) (t.Backquote ∷ ts) (length rest)
  quoted_open k ts rest is at ends = record {
    before = t.Backquote ∷ k ∷ [];
    bad = rest;
    split = ap (λ l. t.Backquote ∷ l) at;
    left_is = refl;
    refuses = record {
      begun = (let op = of_name k is in (t.Backquote ∷ [], op.0, (refl, within_zero limit), sym op.1));
      never = λ s other after same good quiet e. go s other after same e (shape other);
    };
  }
    where
      second : (k x : Terminal) (s after : Ts) → k ∷ s ≡ x ∷ t.Backquote ∷ after → s ≡ t.Backquote ∷ after
      second k x s after e = cc

      go : (s : Ts) (other : QOpTree) (after : Ts) → SameStart rest s →
          t.Backquote ∷ k ∷ s ≡ qop_tokens other ++ after →
          (begins is_backquote (qop_tokens other) ≡ false)
          ⊎ ((k : Terminal) × (is_quotable k ≡ true) × (qop_tokens other ≡ quoted k)) → ⊥
      go s other after same e (inl h) = first_quote (qop_tokens other) after (k ∷ s) h e (qop_starts other)
      go s other after same e (inr x) =
          true≢false (sym (ap (begins is_backquote) (second k x.0 s after
          (behind_quote x.0 (k ∷ s) after (e ∙ ap (λ l. l ++ after) x.2))))
          ∙ begins_same is_backquote rest s same ∙ ends)
