-- A source has one outcome.
use Rattle.std.proofs.Common.{◌≡◌, ℕ, List, length, Result, Ok, Err, refl, sym, ap, ◌∙◌}
use Rattle.bp_checks.specs.Check.{IsExact}
use Rattle.bp_checks.proofs.CheckLemmas.{IsExact-then}
use Rattle.hs_tokens.specs.declared.token.Token.{Token}
use Rattle.hs_lex.specs.declared.reader.LexError.{LexError}
use Rattle.hs_lex.specs.declared.reader.LexError.TheVariants as l
use Rattle.hs_lex.specs.Cover.{Lexes}
use Rattle.hs_lex.proofs.UniquenessLemmas.{one_answer}
use Rattle.haskell_layout.specs.Layout.{layout_of}
use Rattle.haskell_module.specs.declared.error.SourceError.{SourceError}
use Rattle.haskell_module.specs.declared.error.SourceError.TheVariants as e
use Rattle.haskell_module.specs.Sources.{LexFails, lexed, laid_out, offset_at, tokens_read}

answered-once : (r : Result (List Token) ℕ) (a b : List Token) → r ≡ Ok a → r ≡ Ok b → a ≡ b
answered-once r a b p q = cc (p, q)

failed-once : (r : Result (List Token) ℕ) (i j : ℕ) → r ≡ Err i → r ≡ Err j → i ≡ j
failed-once r i j p q = cc (p, q)

never : {A B : Type 0} (a : A) (b : B) → Ok a ≡ Err b → ⊥
never a b is = cc

lexed-once : (r s : Result (List Token) LexError) (a b : List Token) → r ≡ Ok a → s ≡ Ok b → r ≡ s → a ≡ b
lexed-once r s a b p q e = cc (p, q, e)

-- two refusals of one text are one
refused-once : (bytes : List ℕ) (r q : SourceError) → LexFails bytes r → LexFails bytes q → r ≡ q
refused-once bytes (e.Lexical a) (e.Lexical b) p q =
    ap (λ (n : ℕ). e.Lexical n) (cc (one_answer bytes (Err (l.Lexical a)) (Err (l.Lexical b)) p q (λ x. cc) (λ x. cc)))
refused-once bytes (e.Lexical a) (e.LeftOut b) p q =
    cc (one_answer bytes (Err (l.Lexical a)) (Err (l.LeftOut b)) p q (λ x. cc) (λ x. cc))
refused-once bytes (e.LeftOut a) (e.Lexical b) p q =
    cc (one_answer bytes (Err (l.LeftOut a)) (Err (l.Lexical b)) p q (λ x. cc) (λ x. cc))
refused-once bytes (e.LeftOut a) (e.LeftOut b) p q =
    ap (λ (n : ℕ). e.LeftOut n) (cc (one_answer bytes (Err (l.LeftOut a)) (Err (l.LeftOut b)) p q (λ x. cc) (λ x. cc)))
refused-once bytes (e.Layout a) q p r = absurd p
refused-once bytes e.NoMemory q p r = absurd p
refused-once bytes (e.Syntax a) q p r = absurd p
refused-once bytes e.Nesting q p r = absurd p
refused-once bytes (e.Lexical a) (e.Layout b) p q = absurd q
refused-once bytes (e.Lexical a) e.NoMemory p q = absurd q
refused-once bytes (e.Lexical a) (e.Syntax b) p q = absurd q
refused-once bytes (e.Lexical a) e.Nesting p q = absurd q
refused-once bytes (e.LeftOut a) (e.Layout b) p q = absurd q
refused-once bytes (e.LeftOut a) e.NoMemory p q = absurd q
refused-once bytes (e.LeftOut a) (e.Syntax b) p q = absurd q
refused-once bytes (e.LeftOut a) e.Nesting p q = absurd q

-- a text that has tokens is not refused
tokens-refuse-nothing : (bytes : List ℕ) (tokens : List Token) (r : SourceError) → Lexes bytes (Ok tokens)
    → LexFails bytes r → ⊥
tokens-refuse-nothing bytes tokens (e.Lexical a) p q =
    never tokens (l.Lexical a) (one_answer bytes (Ok tokens) (Err (l.Lexical a)) p q (λ x. cc) (λ x. cc))
tokens-refuse-nothing bytes tokens (e.LeftOut a) p q =
    never tokens (l.LeftOut a) (one_answer bytes (Ok tokens) (Err (l.LeftOut a)) p q (λ x. cc) (λ x. cc))
tokens-refuse-nothing bytes tokens (e.Layout a) p q = q
tokens-refuse-nothing bytes tokens e.NoMemory p q = q
tokens-refuse-nothing bytes tokens (e.Syntax a) p q = q
tokens-refuse-nothing bytes tokens e.Nesting p q = q

pub IsExact-lexed : (bytes : List ℕ) → IsExact (lexed bytes)
IsExact-lexed bytes = record {
  one_answer = λ a b p q. lexed-once (Ok a) (Ok b) a b refl refl
      (one_answer bytes (Ok a) (Ok b) p q (λ x. cc) (λ x. cc));
  one_refusal = refused-once bytes;
  never_both = tokens-refuse-nothing bytes;
}

pub IsExact-laid_out : (end : ℕ) (tokens : List Token) → IsExact (laid_out end tokens)
IsExact-laid_out end tokens = record {
  one_answer = answered-once (layout_of tokens end);
  one_refusal = λ r q (i, at, is) (j, at', is').
      is ∙ ap (λ (n : ℕ). e.Layout (offset_at tokens end n)) (failed-once (layout_of tokens end) i j at at') ∙ sym is';
  never_both = λ b r p (i, at, is). never b i (sym p ∙ at);
}

pub IsExact-tokens_read : (bytes : List ℕ) → IsExact (tokens_read bytes)
IsExact-tokens_read bytes = IsExact-then (lexed bytes) (laid_out (length bytes)) (IsExact-lexed bytes)
    (IsExact-laid_out (length bytes))
