-- The tokens that begin expressions and their parts, and by which expressions go on.
use Rattle.std.proofs.Common.{◌≡◌, Bool, true, false, [], ◌∷◌, refl, sym, true≢false}
use Rattle.std.specs.Prelude.{◌&&◌, ◌||◌}
use Rattle.std.proofs.lemmas.Bool.{or_from}
use Rattle.hs_forms.specs.Reading.{begins}
use Rattle.hs_forms.proofs.LimitLemmas.{or_left, or_right}
use Rattle.hs_tokens.specs.Terminals.{is_arrow}
use Rattle.hs_tokens.specs.declared.terminal.Terminal.{Terminal}
use Rattle.hs_tokens.specs.declared.terminal.Terminal.TheVariants as t
use Rattle.hs_tokens.specs.declared.word.Word.TheVariants as w
use Rattle.hs_trees.specs.Types.{starts_atype}
use Rattle.hs_trees.specs.Patterns.{Ts}
use Rattle.hs_expression_forms.specs.Expressions.{is_double_colon, starts_aexp, starts_operand, starts_qop}
use Rattle.hs_expression_forms.specs.Expressions.{goes_on}

-- fewer ways to go on
pub and_fewer : (b c : Bool) (x : Bool) → (c ≡ true → b ≡ true) → b && x ≡ false → c && x ≡ false
and_fewer true c true f h = absurd (true≢false h)
and_fewer true true false f h = refl
and_fewer true false x f h = refl
and_fewer false true x f h = absurd (true≢false (sym (f refl)))
and_fewer false false x f h = refl

pub goes_on_fewer : (o a r o' a' r' : Bool) (k : Terminal) → (o' ≡ true → o ≡ true) → (a' ≡ true → a ≡ true) →
    (r' ≡ true → r ≡ true) → goes_on o a r k ≡ false → goes_on o' a' r' k ≡ false
goes_on_fewer o a r o' a' r' k fo fa fr e =
    let more = or_right (starts_aexp k) _ e in
    let last = or_right (o && starts_qop k) _ more in
    or_from _ _ (or_left (starts_aexp k) _ e)
    (or_from _ _ (and_fewer o o' (starts_qop k) fo (or_left (o && starts_qop k) _ more))
    (or_from _ _ (and_fewer a a' (is_double_colon k) fa (or_left (a && is_double_colon k) _ last))
    (and_fewer r r' (is_arrow k) fr (or_right (a && is_double_colon k) _ last))))

-- an atype begins with a token that begins an aexp
pub atype_aexp : (k : Terminal) → starts_aexp k ≡ false → starts_atype k ≡ false
atype_aexp (t.Con n) h = absurd (true≢false h)
atype_aexp (t.Var n) h = absurd (true≢false h)
atype_aexp t.LeftParen h = absurd (true≢false h)
atype_aexp t.LeftBracket h = absurd (true≢false h)
atype_aexp _ h = refl

pub type_quiet : (o a : Bool) (k : Terminal) → goes_on o a true k ≡ false → starts_atype k || is_arrow k ≡ false
type_quiet o a k e =
    let more = or_right (starts_aexp k) _ e in
    or_from _ _ (atype_aexp k (or_left (starts_aexp k) _ e))
    (or_right (a && is_double_colon k) _ (or_right (o && starts_qop k) _ more))

-- operators begin no operand, and are neither `::` nor `->`
pub qop_apart : (a r : Bool) (k : Terminal) → starts_qop k ≡ true → goes_on false a r k ≡ false
qop_apart a r (t.VarSym n) h = both a r
  where
    both : (a r : Bool) → goes_on false a r (t.VarSym n) ≡ false
    both true true = refl
    both true false = refl
    both false true = refl
    both false false = refl
qop_apart a r (t.QVarSym n) h = both a r
  where
    both : (a r : Bool) → goes_on false a r (t.QVarSym n) ≡ false
    both true true = refl
    both true false = refl
    both false true = refl
    both false false = refl
qop_apart a r (t.ConSym n) h = both a r
  where
    both : (a r : Bool) → goes_on false a r (t.ConSym n) ≡ false
    both true true = refl
    both true false = refl
    both false true = refl
    both false false = refl
qop_apart a r t.Colon h = both a r
  where
    both : (a r : Bool) → goes_on false a r t.Colon ≡ false
    both true true = refl
    both true false = refl
    both false true = refl
    both false false = refl
qop_apart a r t.Backquote h = both a r
  where
    both : (a r : Bool) → goes_on false a r t.Backquote ≡ false
    both true true = refl
    both true false = refl
    both false true = refl
    both false false = refl
qop_apart a r _ h = absurd (true≢false (sym h))

pub aexp_operand : (k : Terminal) → starts_aexp k ≡ true → starts_operand k ≡ true
aexp_operand t.Backslash h = refl
aexp_operand (t.Word w.Let) h = refl
aexp_operand (t.Word w.If) h = refl
aexp_operand (t.Word w.Case) h = refl
aexp_operand (t.Word _) h = h
aexp_operand (t.Var n) h = refl
aexp_operand (t.QVar n) h = refl
aexp_operand (t.Con n) h = refl
aexp_operand (t.Integer n) h = refl
aexp_operand (t.Char n) h = refl
aexp_operand (t.Text n) h = refl
aexp_operand t.LeftParen h = refl
aexp_operand t.LeftBracket h = refl
aexp_operand _ h = absurd (true≢false (sym h))

pub aexp_starts_operand : (ts : Ts) → begins starts_aexp ts ≡ true → begins starts_operand ts ≡ true
aexp_starts_operand [] h = h
aexp_starts_operand (k ∷ ts) h = aexp_operand k h

-- tokens that close an expression
pub closes : (k : Terminal) → goes_on true true true k ≡ false → (o a r : Bool) → goes_on o a r k ≡ false
closes k e o a r = goes_on_fewer true true true o a r k (λ h. refl) (λ h. refl) (λ h. refl) e
