-- A source has one tree of a form, or one reason why it has none; and what it has within a nesting it has without one.
use Rattle.std.proofs.Common.{◌≡◌, ℕ, ◌+◌, List, ◌++◌, length, take, Option, None, refl, sym, ap, ◌∙◌}
use Rattle.std.proofs.Common.{subst, Some, inl, inr, Result, Ok, Err}
use Rattle.std.specs.Prelude.{map}
use Rattle.bp_base.specs.Texts.{Text}
use Rattle.bp_checks.specs.Check.{IsExact, IsWithin}
use Rattle.bp_checks.proofs.CheckLemmas.{IsExact-then, IsWithin-then}
use Rattle.hs_forms.specs.Reading.{Form}
use Rattle.hs_forms.specs.Whole.{Spells, Begins}
use Rattle.hs_tokens.specs.Terminals.{terminal_of}
use Rattle.hs_tokens.specs.declared.terminal.Terminal.{Terminal}
use Rattle.hs_tokens.specs.declared.token.Token.{Token}
use Rattle.hs_modules.specs.declared.module.Module.{Module}
use Rattle.hs_modules.specs.ModuleForms.{module_form, sig_form}
use Rattle.hs_one_tree.proofs.ModuleLemmas.{one_module, one_signature}
use Rattle.haskell_parse.specs.Parsed.{GoesOn}
use Rattle.haskell_parse.proofs.ParsedLemmas.{one_place, place_of_all}
use Rattle.haskell_module.specs.declared.error.SourceError.{SourceError}
use Rattle.haskell_module.specs.declared.error.SourceError.TheVariants as e
use Rattle.haskell_module.specs.Sources.{offset_at, tokens_read, ChecksSource}
use Rattle.haskell_module.specs.Modules.{IsKept, module_read, signature_read}
use Rattle.haskell_module.specs.Modules.{StopsAt, parsed, named_as, tree_read}
use Rattle.haskell_module.proofs.SourceLemmas.{IsExact-tokens_read}

-- Productions of which trees within a nesting are trees, and no two have one spelling.
pub record IsOne (form : Option ℕ → Form Terminal Module) : Type 0 where
  pub wider : (nesting : Option ℕ) (tree : Module) (ts : List Terminal) → Spells (form nesting) tree ts
      → Spells (form None) tree ts
  pub one : (ts : List Terminal) (tree other : Module) → Spells (form None) tree ts → Spells (form None) other ts
      → other ≡ tree

module _ (form : Option ℕ → Form Terminal Module) (is : IsOne form) (end : ℕ) (laid : List Token) where
  abbrev ts : List Terminal
  ts = map terminal_of laid

  one_stop : (nesting : Option ℕ) (r q : SourceError) → StopsAt form nesting end laid r
      → StopsAt form nesting end laid q → r ≡ q
  one_stop nesting (e.Syntax a) (e.Syntax b) (i, at, none, x) (j, to, never, y) =
      ap (λ (n : ℕ). e.Syntax n) (x ∙ ap (offset_at laid end) (one_place (form nesting) ts i j at to) ∙ sym y)
  one_stop nesting (e.Syntax a) e.Nesting (i, at, none, x) (j, to, on) =
      absurd (none (subst (GoesOn (form None) ts) (one_place (form nesting) ts j i to at) on))
  one_stop nesting (e.Syntax a) (e.LeftOut b) p q = absurd q
  one_stop nesting (e.Syntax a) (e.Lexical b) p q = absurd q
  one_stop nesting (e.Syntax a) (e.Layout b) p q = absurd q
  one_stop nesting (e.Syntax a) e.NoMemory p q = absurd q
  one_stop nesting e.Nesting (e.Syntax b) (j, to, on) (i, at, none, x) =
      absurd (none (subst (GoesOn (form None) ts) (one_place (form nesting) ts j i to at) on))
  one_stop nesting e.Nesting e.Nesting p q = refl
  one_stop nesting e.Nesting (e.LeftOut b) p q = absurd q
  one_stop nesting e.Nesting (e.Lexical b) p q = absurd q
  one_stop nesting e.Nesting (e.Layout b) p q = absurd q
  one_stop nesting e.Nesting e.NoMemory p q = absurd q
  one_stop nesting (e.LeftOut a) q p z = absurd p
  one_stop nesting (e.Lexical a) q p z = absurd p
  one_stop nesting (e.Layout a) q p z = absurd p
  one_stop nesting e.NoMemory q p z = absurd p

  never_both : (nesting : Option ℕ) (tree : Module) (r : SourceError) → Spells (form nesting) tree ts
      → StopsAt form nesting end laid r → ⊥
  never_both nesting tree (e.Syntax a) p (i, at, none, x) = at.none tree p
  never_both nesting tree e.Nesting p (i, at, on) = at.none tree p
  never_both nesting tree (e.LeftOut a) p q = q
  never_both nesting tree (e.Lexical a) p q = q
  never_both nesting tree (e.Layout a) p q = q
  never_both nesting tree e.NoMemory p q = q

  pub IsExact-parsed : (nesting : Option ℕ) → IsExact (parsed form nesting end laid)
  IsExact-parsed nesting = record {
    one_answer = λ a b p q. sym (is.one ts a b (is.wider nesting a ts p) (is.wider nesting b ts q));
    one_refusal = one_stop nesting;
    never_both = never_both nesting;
  }

  wider_begins : (nesting : Option ℕ) (j : ℕ) → Begins (form nesting) (take j ts) → Begins (form None) (take j ts)
  wider_begins nesting j (more, tree, spelled) = (more, tree, is.wider nesting tree (take j ts ++ more) spelled)

  kept : (nesting : Option ℕ) (r : SourceError) → IsKept r → StopsAt form nesting end laid r
      → StopsAt form None end laid r
  kept nesting (e.Syntax a) k (i, at, none, x) =
      (i, place_of_all (form nesting) (form None) ts i (wider_begins nesting) at none, none, x)
  kept nesting e.Nesting k p = absurd k
  kept nesting (e.LeftOut a) k p = p
  kept nesting (e.Lexical a) k p = p
  kept nesting (e.Layout a) k p = p
  kept nesting e.NoMemory k p = p

  pub IsWithin-parsed : (nesting : Option ℕ)
      → IsWithin IsKept (parsed form nesting end laid) (parsed form None end laid)
  IsWithin-parsed nesting = record {
    answer = λ tree p. is.wider nesting tree ts p;
    refusal = kept nesting;
  }

pub IsExact-named_as : (name : Text) (end : ℕ) (laid : List Token) (tree : Module)
    → IsExact (named_as name end laid tree)
IsExact-named_as name end laid tree = record {
  one_answer = λ a b p q. p.1 ∙ sym q.1;
  one_refusal = λ r q p z. p.1 ∙ sym z.1;
  never_both = λ b r p z. z.0 p.0;
}

pub IsExact-tree_read : (form : Option ℕ → Form Terminal Module) → IsOne form → (nesting : Option ℕ) (name : Text)
    (bytes : List ℕ) → IsExact (tree_read form nesting name bytes)
IsExact-tree_read form is nesting name bytes = IsExact-then _ _ (IsExact-tokens_read bytes) (λ laid.
    IsExact-then _ _ (IsExact-parsed form is (length bytes) laid nesting) (λ tree.
    IsExact-named_as name (length bytes) laid tree))

pub IsWithin-tree_read : (form : Option ℕ → Form Terminal Module) → IsOne form → (nesting : Option ℕ) (name : Text)
    (bytes : List ℕ) → IsWithin IsKept (tree_read form nesting name bytes) (tree_read form None name bytes)
IsWithin-tree_read form is nesting name bytes =
    IsWithin-then IsKept _ _ _ _ (record { answer = λ b p. p; refusal = λ r k p. p }) (λ laid.
    IsWithin-then IsKept _ _ _ _ (IsWithin-parsed form is (length bytes) laid nesting)
    (λ tree. record { answer = λ b p. p; refusal = λ r k p. p }))

module_is_one : IsOne module_form
module_is_one = record { wider = λ nesting tree ts p. (p.0, (p.1.0, tt)); one = one_module }

signature_is_one : IsOne sig_form
signature_is_one = record { wider = λ nesting tree ts p. (p.0, (p.1.0, tt)); one = one_signature }

-- a source is one module of a name, or there is one reason why it is none
pub IsExact-module_read : (nesting : Option ℕ) (name : Text) (bytes : List ℕ) → IsExact (module_read nesting name bytes)
unfolding module_read
IsExact-module_read = IsExact-tree_read module_form module_is_one

-- what it is within a nesting it is without one
pub IsWithin-module_read : (nesting : Option ℕ) (name : Text) (bytes : List ℕ)
    → IsWithin IsKept (module_read nesting name bytes) (module_read None name bytes)
unfolding module_read
IsWithin-module_read = IsWithin-tree_read module_form module_is_one

-- a source is one signature of a name, or there is one reason why it is none
pub IsExact-signature_read : (nesting : Option ℕ) (name : Text) (bytes : List ℕ)
    → IsExact (signature_read nesting name bytes)
unfolding signature_read
IsExact-signature_read = IsExact-tree_read sig_form signature_is_one

pub IsWithin-signature_read : (nesting : Option ℕ) (name : Text) (bytes : List ℕ)
    → IsWithin IsKept (signature_read nesting name bytes) (signature_read None name bytes)
unfolding signature_read
IsWithin-signature_read = IsWithin-tree_read sig_form signature_is_one

module _ (form : Option ℕ → Form Terminal Module) (nesting : Option ℕ) (name : Text) (bytes : List ℕ) (laid : List Token)
    (p : (tokens_read bytes).passes laid) where
  read_refused : (error : SourceError) → ChecksSource (parsed form nesting (length bytes) laid) (Err error)
      → ChecksSource (tree_read form nesting name bytes) (Err error)
  read_refused (e.LeftOut n) h = inr (laid, p, inl h)
  read_refused (e.Lexical n) h = inr (laid, p, inl h)
  read_refused (e.Layout n) h = inr (laid, p, inl h)
  read_refused (e.Syntax n) h = inr (laid, p, inl h)
  read_refused e.Nesting h = inr (laid, p, inl h)
  read_refused e.NoMemory h = tt

  read_named : (tree : Module) → (parsed form nesting (length bytes) laid).passes tree
      → (r : Result Module SourceError) → ChecksSource (named_as name (length bytes) laid tree) r
      → ChecksSource (tree_read form nesting name bytes) r
  read_named tree q (Ok it) h = (laid, p, (tree, q, h))
  read_named tree q (Err (e.LeftOut n)) h = inr (laid, p, inr (tree, q, h))
  read_named tree q (Err (e.Lexical n)) h = inr (laid, p, inr (tree, q, h))
  read_named tree q (Err (e.Layout n)) h = inr (laid, p, inr (tree, q, h))
  read_named tree q (Err (e.Syntax n)) h = inr (laid, p, inr (tree, q, h))
  read_named tree q (Err e.Nesting) h = inr (laid, p, inr (tree, q, h))
  read_named tree q (Err e.NoMemory) h = tt

-- what the steps of the two readers say, of the whole
module _ (name : Text) (bytes : List ℕ) (laid : List Token) (p : (tokens_read bytes).passes laid) where
  pub module_refused : (error : SourceError)
      → ChecksSource (parsed module_form (Some 200) (length bytes) laid) (Err error)
      → ChecksSource (module_read (Some 200) name bytes) (Err error)
  unfolding module_read
  module_refused error h = read_refused module_form (Some 200) name bytes laid p error h

  pub module_named : (tree : Module) → (parsed module_form (Some 200) (length bytes) laid).passes tree
      → (r : Result Module SourceError) → ChecksSource (named_as name (length bytes) laid tree) r
      → ChecksSource (module_read (Some 200) name bytes) r
  unfolding module_read
  module_named tree q r h = read_named module_form (Some 200) name bytes laid p tree q r h

  pub signature_refused : (error : SourceError)
      → ChecksSource (parsed sig_form (Some 200) (length bytes) laid) (Err error)
      → ChecksSource (signature_read (Some 200) name bytes) (Err error)
  unfolding signature_read
  signature_refused error h = read_refused sig_form (Some 200) name bytes laid p error h

  pub signature_named : (tree : Module) → (parsed sig_form (Some 200) (length bytes) laid).passes tree
      → (r : Result Module SourceError) → ChecksSource (named_as name (length bytes) laid tree) r
      → ChecksSource (signature_read (Some 200) name bytes) r
  unfolding signature_read
  signature_named tree q r h = read_named sig_form (Some 200) name bytes laid p tree q r h
