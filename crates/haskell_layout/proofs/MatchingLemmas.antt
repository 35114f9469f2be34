-- The braces of a layout match.
use Rattle.std.proofs.Common.{◌≡◌, ◌⊎◌, ℕ, suc, ◌+◌, Bool, true, false, not, ◌&&◌, ◌==◌, nat_lt, nat_le, List, [], ◌∷◌}
use Rattle.std.proofs.Common.{◌++◌, Option, Some, None, Ok, Err, if◌then◌else◌, append-nil, append_assoc, refl, sym, ap}
use Rattle.std.proofs.Common.{subst, ◌∙◌, inl, inr}
use Rattle.std.proofs.Common.{arith}
use Rattle.std.proofs.lemmas.Bool.Decides.{nat_tests}
use Rattle.hs_tokens.specs.declared.token.Token.{Token}
use Rattle.haskell_layout.specs.declared.role.Role.{Role}
use Rattle.haskell_layout.specs.declared.role.Role.TheVariants as r
use Rattle.haskell_layout.specs.declared.role.Made.{Made}
use Rattle.haskell_layout.specs.declared.role.Made.TheVariants as m
use Rattle.haskell_layout.specs.declared.stack.Item.{Item}
use Rattle.haskell_layout.specs.declared.stack.Item.TheVariants as i
use Rattle.haskell_layout.specs.declared.stack.Sought.{Sought}
use Rattle.haskell_layout.specs.declared.stack.Sought.TheVariants as s
use Rattle.haskell_layout.specs.declared.stack.Until.{Until}
use Rattle.haskell_layout.specs.declared.stack.Until.TheVariants as u
use Rattle.haskell_layout.specs.Role.{role_of, is_open_brace}
use Rattle.haskell_layout.specs.Stack.{column_of, is_implicit, seeks, bars, finds, reached}
use Rattle.haskell_layout.specs.Rules.{Moved, nothing_made, behind, end_of, closed, closed_to, closed_over, without_top}
use Rattle.haskell_layout.specs.Rules.{popped, item_ended, item_begun, line_begun, block_begun, before_token, arrow_met}
use Rattle.haskell_layout.specs.Rules.{equals_met, where_met, token_met, unmatched}
use Rattle.haskell_layout.specs.Layout.{State, Answer, going_on, layout_from, due_at_start, fresh_after, made_at_end}
use Rattle.haskell_layout.specs.Layout.{made_tokens, token_moves, state_behind}
use Rattle.haskell_layout.specs.Laws.{matched_by, Matched, BracesMatch}
use Rattle.haskell_layout.proofs.AdvancingLemmas.{made_tokens-append}
use Rattle.haskell_layout.proofs.StandingLemmas.{before_inverts}

leb-zero : (n : ℕ) → nat_le 0 n ≡ true
leb-zero n = grind (arith, nat_tests)

-- how many blocks are open
abbrev blocks : List Item → ℕ
blocks [] = 0
blocks (i.Block column ∷ outer) = suc (blocks outer)
blocks (i.Explicit ∷ outer) = suc (blocks outer)
blocks (item ∷ outer) = blocks outer

-- What is made leads from so many open blocks to so many.
abbrev Leads : ℕ → List Made → ℕ → Type 0
Leads before made after = (offset : ℕ) (rest : List Token) → Matched after rest
    → Matched before (made_tokens made offset ++ rest)

leads_on : (before mid after : ℕ) (made more : List Made) → Leads before made mid → Leads mid more after
    → Leads before (made ++ more) after
leads_on before mid after made more first second offset rest h =
    let is : made_tokens made offset ++ (made_tokens more offset ++ rest) ≡ made_tokens (made ++ more) offset ++ rest =
    sym (append_assoc (made_tokens made offset) (made_tokens more offset) rest)
    ∙ ap (λ (list : List Token). list ++ rest) (sym (made_tokens-append made more offset)) in
    subst (Matched before) is (first offset (made_tokens more offset ++ rest) (second offset rest h))

-- what is made fits what is opened and closed
abbrev Fits : List Item → Moved → Type 0
Fits stack moved = Leads (blocks stack) moved.made (blocks moved.stack)

at_rest : (stack : List Item) → Fits stack (nothing_made stack)
at_rest stack offset rest h = h

-- Each item is an explicit block, or none.
is_explicit : (item : Item) → (item ≡ i.Explicit) ⊎ (item ≡ i.Explicit → ⊥)
is_explicit (i.Block column) = inr (λ e. cc)
is_explicit i.Explicit = inl refl
is_explicit i.Paren = inr (λ e. cc)
is_explicit i.Bracket = inr (λ e. cc)
is_explicit i.If = inr (λ e. cc)
is_explicit i.Then = inr (λ e. cc)
is_explicit i.Case = inr (λ e. cc)
is_explicit i.Let = inr (λ e. cc)
is_explicit i.Lam = inr (λ e. cc)
is_explicit i.Guard = inr (λ e. cc)

end_fits : (item : Item) (outer : List Item) → (item ≡ i.Explicit → ⊥)
    → Leads (blocks (item ∷ outer)) (end_of item) (blocks outer)
end_fits (i.Block column) outer other offset rest h = h
end_fits i.Explicit outer other offset rest h = absurd (other refl)
end_fits i.Paren outer other offset rest h = h
end_fits i.Bracket outer other offset rest h = h
end_fits i.If outer other offset rest h = h
end_fits i.Then outer other offset rest h = h
end_fits i.Case outer other offset rest h = h
end_fits i.Let outer other offset rest h = h
end_fits i.Lam outer other offset rest h = h
end_fits i.Guard outer other offset rest h = h

-- Closing stops before an explicit block is popped.
abbrev Spares : Until → List Item → Type 0
Spares until [] = Unit {0}
Spares until (item ∷ outer) = (reached until (item ∷ outer) ≡ true) ⊎ ((item ≡ i.Explicit → ⊥) × Spares until outer)

false-true : {P : Type 0} → false ≡ true → P
false-true e = absurd (cc)

true-false : {P : Type 0} → true ≡ false → P
true-false e = absurd (cc)

closed_fits_by : (stop : Bool) (until : Until) (item : Item) (outer : List Item)
    → (stop ≡ true) ⊎ ((item ≡ i.Explicit → ⊥) × Spares until outer) →
    (Spares until outer → Fits outer (closed until outer)) →
    Fits (item ∷ outer) (if stop then nothing_made (item ∷ outer) else behind (end_of item) (closed until outer))
closed_fits_by true until item outer spares below = at_rest (item ∷ outer)
closed_fits_by false until item outer (inl e) below = false-true e
closed_fits_by false until item outer (inr spares) below =
    leads_on (blocks (item ∷ outer)) (blocks outer) (blocks (closed until outer).stack) (end_of item)
    (closed until outer).made
    (end_fits item outer spares.0) (below spares.1)

closed_fits : (until : Until) (stack : List Item) → Spares until stack → Fits stack (closed until stack)
closed_fits until [] spares = at_rest []
closed_fits until (item ∷ outer) spares =
    closed_fits_by (reached until (item ∷ outer)) until item outer spares
    (λ (h : Spares until outer). closed_fits until outer h)

spares_by : (until : Until) (item : Item) (outer : List Item) → reached until (i.Explicit ∷ outer) ≡ true
    → Spares until outer → Spares until (item ∷ outer)
spares_by until item outer stops below =
    elim (is_explicit item) [
      | inl is ↦ inl (ap (λ (it : Item). reached until (it ∷ outer)) is ∙ stops)
      | inr other ↦
          inr (other, below)
    ]

spares_column : (column : ℕ) (stack : List Item) → Spares (u.Column column) stack
spares_column column [] = tt
spares_column column (item ∷ outer) = spares_by (u.Column column) item outer (leb-zero column)
    (spares_column column outer)

spares_block : (stack : List Item) → Spares u.Block stack
spares_block [] = tt
spares_block (item ∷ outer) = spares_by u.Block item outer refl (spares_block outer)

explicit_is_met : (sought : Sought) → seeks sought i.Explicit ≡ false → bars sought i.Explicit ≡ false → ⊥
explicit_is_met s.Paren seek bar = cc
explicit_is_met s.Bracket seek bar = cc
explicit_is_met s.Parts seek bar = cc
explicit_is_met s.Explicit seek bar = cc
explicit_is_met s.If seek bar = cc
explicit_is_met s.Then seek bar = cc
explicit_is_met s.Case seek bar = cc
explicit_is_met s.Let seek bar = cc

spares_sought_by : (sought : Sought) (item : Item) (outer : List Item) (seek bar : Bool) → seeks sought item ≡ seek
    → bars sought item ≡ bar →
    (if seek then true else (if bar then false else finds sought outer)) ≡ true →
    (finds sought outer ≡ true → Spares (u.Top sought) outer) → Spares (u.Top sought) (item ∷ outer)
spares_sought_by sought item outer true bar is_sought is_barred found below = inl is_sought
spares_sought_by sought item outer false true is_sought is_barred found below = false-true found
spares_sought_by sought item outer false false is_sought is_barred found below =
    inr (
      (λ (is : item ≡ i.Explicit).
          explicit_is_met sought (ap (seeks sought) (sym is) ∙ is_sought) (ap (bars sought) (sym is) ∙ is_barred)),
      below found,
    )

spares_sought : (sought : Sought) (stack : List Item) → finds sought stack ≡ true → Spares (u.Top sought) stack
spares_sought sought [] found = tt
spares_sought sought (item ∷ outer) found =
    spares_sought_by sought item outer (seeks sought item) (bars sought item) refl refl found
    (λ (h : finds sought outer ≡ true). spares_sought sought outer h)

spares_bottom : (stack : List Item) → finds s.Explicit stack ≡ false → Spares u.Bottom stack
spares_bottom [] found = tt
spares_bottom (item ∷ outer) found =
    elim (is_explicit item) [
      | inl is ↦ true-false (sym (ap (λ (it : Item). finds s.Explicit (it ∷ outer)) is) ∙ found)
      | inr other ↦ inr (other, spares_bottom outer (none_outer item outer found))
    ]
  where
    none_outer : (item : Item) (outer : List Item) → finds s.Explicit (item ∷ outer) ≡ false
        → finds s.Explicit outer ≡ false
    none_outer (i.Block column) outer found = found
    none_outer i.Explicit outer found = true-false found
    none_outer i.Paren outer found = found
    none_outer i.Bracket outer found = found
    none_outer i.If outer found = found
    none_outer i.Then outer found = found
    none_outer i.Case outer found = found
    none_outer i.Let outer found = found
    none_outer i.Lam outer found = found
    none_outer i.Guard outer found = found

-- a sought item is on top, once it is closed down to
top_by : (sought : Sought) (item : Item) (outer : List Item) (seek bar : Bool) → seeks sought item ≡ seek →
    (if seek then true else (if bar then false else finds sought outer)) ≡ true →
    (finds sought outer ≡ true → (it : Item) × (rest : List Item) × ((closed (u.Top sought) outer).stack ≡ it ∷ rest)
    × (seeks sought it ≡ true)) →
    (it : Item) × (rest : List Item)
    × ((if seek then nothing_made (item ∷ outer) else behind (end_of item) (closed (u.Top sought) outer)).stack ≡ it
    ∷ rest) × (seeks sought it ≡ true)
top_by sought item outer true bar is found below = (item, outer, refl, is)
top_by sought item outer false true is found below = false-true found
top_by sought item outer false false is found below = below found

top_is_sought : (sought : Sought) (stack : List Item) → finds sought stack ≡ true →
    (it : Item) × (rest : List Item) × ((closed (u.Top sought) stack).stack ≡ it ∷ rest) × (seeks sought it ≡ true)
top_is_sought sought [] found = false-true found
top_is_sought sought (item ∷ outer) found =
    top_by sought item outer (seeks sought item) (bars sought item) refl found
    (λ (h : finds sought outer ≡ true). top_is_sought sought outer h)

-- Of what is sought, only an explicit block is a block.
no_block : (sought : Sought) (item : Item) (outer : List Item) → (sought ≡ s.Explicit → ⊥) → seeks sought item ≡ true
    → blocks (item ∷ outer) ≡ blocks outer
no_block sought (i.Block column) outer other is = false-true (sym (never sought column) ∙ is)
  where
    never : (sought : Sought) (column : ℕ) → seeks sought (i.Block column) ≡ false
    never s.Paren column = refl
    never s.Bracket column = refl
    never s.Parts column = refl
    never s.Explicit column = refl
    never s.If column = refl
    never s.Then column = refl
    never s.Case column = refl
    never s.Let column = refl
no_block s.Paren i.Explicit outer other is = false-true is
no_block s.Bracket i.Explicit outer other is = false-true is
no_block s.Parts i.Explicit outer other is = false-true is
no_block s.Explicit i.Explicit outer other is = absurd (other refl)
no_block s.If i.Explicit outer other is = false-true is
no_block s.Then i.Explicit outer other is = false-true is
no_block s.Case i.Explicit outer other is = false-true is
no_block s.Let i.Explicit outer other is = false-true is
no_block sought i.Paren outer other is = refl
no_block sought i.Bracket outer other is = refl
no_block sought i.If outer other is = refl
no_block sought i.Then outer other is = refl
no_block sought i.Case outer other is = refl
no_block sought i.Let outer other is = refl
no_block sought i.Lam outer other is = refl
no_block sought i.Guard outer other is = refl

over_fits_by : (found : Bool) (sought : Sought) (stack : List Item) → (sought ≡ s.Explicit → ⊥)
    → finds sought stack ≡ found →
    Fits stack (if found then without_top (closed (u.Top sought) stack) else nothing_made stack)
over_fits_by false sought stack other found = at_rest stack
over_fits_by true sought stack other found =
    let top = top_is_sought sought stack found in
    let moved = closed (u.Top sought) stack in
    let same : blocks moved.stack ≡ blocks (popped moved.stack) =
    ap blocks top.2 ∙ no_block sought top.0 top.1 other top.3
    ∙ ap (λ (stack : List Item). blocks (popped stack)) (sym top.2) in
    subst (Leads (blocks stack) moved.made) same (closed_fits (u.Top sought) stack (spares_sought sought stack found))

over_fits : (sought : Sought) (stack : List Item) → (sought ≡ s.Explicit → ⊥) → Fits stack (closed_over sought stack)
over_fits sought stack other = over_fits_by (finds sought stack) sought stack other refl

to_fits_by : (found : Bool) (sought : Sought) (stack : List Item) → finds sought stack ≡ found →
    Fits stack (if found then closed (u.Top sought) stack else nothing_made stack)
to_fits_by false sought stack found = at_rest stack
to_fits_by true sought stack found = closed_fits (u.Top sought) stack (spares_sought sought stack found)

behind_fits : (stack : List Item) (one two : Moved) → Fits stack one → Fits one.stack two
    → Fits stack (behind one.made two)
behind_fits stack one two first second = leads_on (blocks stack) (blocks one.stack)
    (blocks two.stack) one.made two.made first second

item_begun_fits_by : (begins : Bool) (stack : List Item) →
    Fits stack (if begins then behind (m.Semicolon ∷ []) (item_ended stack) else nothing_made stack)
item_begun_fits_by true stack offset rest h = closed_fits u.Block stack (spares_block stack) offset rest h
item_begun_fits_by false stack offset rest h = h

line_begun_fits : (column : ℕ) (stack : List Item) → Fits stack (line_begun column stack)
line_begun_fits column stack =
    let moved = closed (u.Column column) stack in
    behind_fits stack moved (item_begun column moved.stack)
    (closed_fits (u.Column column) stack (spares_column column stack))
    (item_begun_fits_by (is_implicit moved.stack && column_of moved.stack == column) moved.stack)

block_begun_fits_by : (begins : Bool) (column : ℕ) (stack : List Item) →
    Fits stack (if begins then record {
      made = m.Open ∷ [];
      stack = i.Block column ∷ stack;
    } else behind (m.Open ∷ m.Close ∷ []) (line_begun column stack))
block_begun_fits_by true column stack offset rest h = h
block_begun_fits_by false column stack offset rest h = line_begun_fits column stack offset rest h

before_fits_by : (due first : Bool) (column : ℕ) (stack : List Item) →
    Fits stack (if due then block_begun column stack else
    (if first then line_begun column stack else nothing_made stack))
before_fits_by true first column stack = block_begun_fits_by (nat_lt (column_of stack) column) column stack
before_fits_by false true column stack = line_begun_fits column stack
before_fits_by false false column stack = at_rest stack

-- What a token makes and what it is lead from what is open before it to what is open behind it.
abbrev Passes : Role → List Item → Moved → Type 0
Passes role stack moved =
    (offset : ℕ) (token : Token) (rest : List Token) → role_of token ≡ role → Matched (blocks moved.stack) rest →
    Matched (blocks stack) (made_tokens moved.made offset ++ token ∷ rest)

-- a token that is no brace
passes_by : (role : Role) (stack : List Item) (moved : Moved) →
    ((depth : ℕ) (Rest : ℕ → Type 0) → Rest depth → matched_by role depth Rest) → Fits stack moved
    → Passes role stack moved
passes_by role stack moved plain fits offset token rest is h =
    fits offset (token ∷ rest)
    (subst (λ (it : Role). matched_by it (blocks moved.stack) (λ next. Matched next rest)) (sym is)
    (plain (blocks moved.stack) (λ next. Matched next rest) h))

-- `->` and `=` pop no block
arrow_fits : (stack : List Item) → Fits stack (nothing_made (arrow_met stack))
arrow_fits [] offset rest h = h
arrow_fits (i.Block column ∷ outer) offset rest h = h
arrow_fits (i.Explicit ∷ outer) offset rest h = h
arrow_fits (i.Paren ∷ outer) offset rest h = h
arrow_fits (i.Bracket ∷ outer) offset rest h = h
arrow_fits (i.If ∷ outer) offset rest h = h
arrow_fits (i.Then ∷ outer) offset rest h = h
arrow_fits (i.Case ∷ outer) offset rest h = h
arrow_fits (i.Let ∷ outer) offset rest h = h
arrow_fits (i.Lam ∷ outer) offset rest h = h
arrow_fits (i.Guard ∷ outer) offset rest h = h

equals_fits : (stack : List Item) → Fits stack (nothing_made (equals_met stack))
equals_fits [] offset rest h = h
equals_fits (i.Block column ∷ outer) offset rest h = h
equals_fits (i.Explicit ∷ outer) offset rest h = h
equals_fits (i.Paren ∷ outer) offset rest h = h
equals_fits (i.Bracket ∷ outer) offset rest h = h
equals_fits (i.If ∷ outer) offset rest h = h
equals_fits (i.Then ∷ outer) offset rest h = h
equals_fits (i.Case ∷ outer) offset rest h = h
equals_fits (i.Let ∷ outer) offset rest h = h
equals_fits (i.Lam ∷ outer) offset rest h = h
equals_fits (i.Guard ∷ outer) offset rest h = h

where_fits : (fresh : Bool) (stack : List Item) → Fits stack (where_met fresh stack)
where_fits fresh [] offset rest h = h
where_fits true (i.Block column ∷ outer) offset rest h = h
where_fits false (i.Block column ∷ outer) offset rest h = h
where_fits fresh (i.Explicit ∷ outer) offset rest h = h
where_fits fresh (i.Paren ∷ outer) offset rest h = h
where_fits fresh (i.Bracket ∷ outer) offset rest h = h
where_fits fresh (i.If ∷ outer) offset rest h = h
where_fits fresh (i.Then ∷ outer) offset rest h = h
where_fits fresh (i.Case ∷ outer) offset rest h = h
where_fits fresh (i.Let ∷ outer) offset rest h = h
where_fits fresh (i.Lam ∷ outer) offset rest h = h
where_fits fresh (i.Guard ∷ outer) offset rest h = h

-- `}` ends the explicit block that is on top, once it is closed down to
explicit_top : (item : Item) (outer : List Item) → seeks s.Explicit item ≡ true
    → blocks (item ∷ outer) ≡ suc (blocks outer)
explicit_top (i.Block column) outer is = refl
explicit_top i.Explicit outer is = refl
explicit_top i.Paren outer is = false-true is
explicit_top i.Bracket outer is = false-true is
explicit_top i.If outer is = false-true is
explicit_top i.Then outer is = false-true is
explicit_top i.Case outer is = false-true is
explicit_top i.Let outer is = false-true is
explicit_top i.Lam outer is = false-true is
explicit_top i.Guard outer is = false-true is

brace_passes_by : (found : Bool) (stack : List Item) → finds s.Explicit stack ≡ found → not found ≡ false →
    Passes r.CloseBrace stack (if found then without_top (closed (u.Top s.Explicit) stack) else nothing_made stack)
brace_passes_by false stack found matched offset token rest is h = true-false matched
brace_passes_by true stack found matched offset token rest is h =
    let top = top_is_sought s.Explicit stack found in
    let moved = closed (u.Top s.Explicit) stack in
    let depth : blocks moved.stack ≡ suc (blocks (popped moved.stack)) =
    ap blocks top.2 ∙ explicit_top top.0 top.1 top.3
    ∙ ap (λ (stack : List Item). suc (blocks (popped stack))) (sym top.2) in
    let here : matched_by (role_of token) (blocks moved.stack) (λ next. Matched next rest) =
    subst (λ (it : Role). matched_by it (blocks moved.stack) (λ next. Matched next rest)) (sym is)
    (subst (λ (n : ℕ). matched_by r.CloseBrace n (λ next. Matched next rest)) (sym depth) h) in
    closed_fits (u.Top s.Explicit) stack (spares_sought s.Explicit stack found) offset (token ∷ rest) here

open_passes : (stack : List Item) → Passes r.OpenBrace stack (nothing_made (i.Explicit ∷ stack))
open_passes stack offset token rest is h =
    subst (λ (it : Role). matched_by it (blocks stack) (λ next. Matched next rest)) (sym is) h

met_passes : (fresh : Bool) (role : Role) (stack : List Item) → unmatched role stack ≡ false
    → Passes role stack (token_met fresh role stack)
met_passes fresh r.OpenBrace stack matched = open_passes stack
met_passes fresh r.CloseBrace stack matched = brace_passes_by (finds s.Explicit stack) stack refl matched
met_passes fresh r.Semicolon stack matched = passes_by r.Semicolon stack (item_ended stack) (λ depth Rest h. h)
    (closed_fits u.Block stack (spares_block stack))
met_passes fresh r.OpenParen stack matched = passes_by r.OpenParen stack (nothing_made (i.Paren ∷ stack))
    (λ depth Rest h. h) (at_rest stack)
met_passes fresh r.OpenBracket stack matched = passes_by r.OpenBracket stack (nothing_made (i.Bracket ∷ stack))
    (λ depth Rest h. h) (at_rest stack)
met_passes fresh r.CloseParen stack matched = passes_by r.CloseParen stack (closed_over s.Paren stack)
    (λ depth Rest h. h) (over_fits s.Paren stack (λ e. cc))
met_passes fresh r.CloseBracket stack matched = passes_by r.CloseBracket stack (closed_over s.Bracket stack)
    (λ depth Rest h. h) (over_fits s.Bracket stack (λ e. cc))
met_passes fresh r.Comma stack matched = passes_by r.Comma stack (closed_to s.Parts stack) (λ depth Rest h. h)
    (to_fits_by (finds s.Parts stack) s.Parts stack refl)
met_passes fresh r.If stack matched = passes_by r.If stack (nothing_made (i.If ∷ stack)) (λ depth Rest h. h)
    (at_rest stack)
met_passes fresh r.Case stack matched = passes_by r.Case stack (nothing_made (i.Case ∷ stack)) (λ depth Rest h. h)
    (at_rest stack)
met_passes fresh r.Let stack matched = passes_by r.Let stack (nothing_made (i.Let ∷ stack)) (λ depth Rest h. h)
    (at_rest stack)
met_passes fresh r.Lambda stack matched = passes_by r.Lambda stack (nothing_made (i.Lam ∷ stack)) (λ depth Rest h. h)
    (at_rest stack)
met_passes fresh r.Bar stack matched = passes_by r.Bar stack (nothing_made (i.Guard ∷ stack)) (λ depth Rest h. h)
    (at_rest stack)
met_passes fresh r.Then stack matched = passes_by r.Then stack (token_met fresh r.Then stack) (λ depth Rest h. h)
    (over_fits s.If stack (λ e. cc))
met_passes fresh r.Else stack matched = passes_by r.Else stack (closed_over s.Then stack) (λ depth Rest h. h)
    (over_fits s.Then stack (λ e. cc))
met_passes fresh r.Of stack matched = passes_by r.Of stack (closed_over s.Case stack) (λ depth Rest h. h)
    (over_fits s.Case stack (λ e. cc))
met_passes fresh r.In stack matched = passes_by r.In stack (closed_over s.Let stack) (λ depth Rest h. h)
    (over_fits s.Let stack (λ e. cc))
met_passes fresh r.Arrow stack matched = passes_by r.Arrow stack (nothing_made (arrow_met stack)) (λ depth Rest h. h)
    (arrow_fits stack)
met_passes fresh r.Equals stack matched = passes_by r.Equals stack (nothing_made (equals_met stack)) (λ depth Rest h. h)
    (equals_fits stack)
met_passes fresh r.Where stack matched = passes_by r.Where stack (where_met fresh stack) (λ depth Rest h. h)
    (where_fits fresh stack)
met_passes fresh r.Header stack matched = passes_by r.Header stack (nothing_made stack) (λ depth Rest h. h)
    (at_rest stack)
met_passes fresh r.Other stack matched = passes_by r.Other stack (nothing_made stack) (λ depth Rest h. h)
    (at_rest stack)

abbrev GoesMatched : Role → List Item → Option Moved → Type 0
GoesMatched role stack None = Unit {0}
GoesMatched role stack (Some moved) = Passes role stack moved

behind_passes : (role : Role) (stack : List Item) (one two : Moved) → Fits stack one → Passes role one.stack two
    → Passes role stack (behind one.made two)
behind_passes role stack one two first second offset token rest is h =
    let list : made_tokens one.made offset ++ (made_tokens two.made offset ++ token ∷ rest) ≡ made_tokens
    (one.made ++ two.made) offset ++ token ∷ rest =
    sym (append_assoc (made_tokens one.made offset) (made_tokens two.made offset) (token ∷ rest))
    ∙ ap (λ (made : List Token). made ++ token ∷ rest) (sym (made_tokens-append one.made two.made offset)) in
    subst (Matched (blocks stack)) list (first offset (made_tokens two.made offset ++ token ∷ rest)
    (second offset token rest is h))

goes_matched_by : (role : Role) (stack : List Item) (stuck : Bool) (moved : Moved)
    → (stuck ≡ false → Passes role stack moved) →
    GoesMatched role stack (if stuck then None else Some moved)
goes_matched_by role stack true moved passes = tt
goes_matched_by role stack false moved passes = passes refl

goes_matched : (state : State) (token : Token) → GoesMatched (role_of token) state.stack (token_moves state token)
goes_matched state token =
    let role = role_of token in
    let before = before_token state.due role token.column token.first state.stack in
    let met = token_met (fresh_after state.fresh before.made) role before.stack in
    goes_matched_by role state.stack (unmatched role before.stack) (behind before.made met)
    (λ (matched : unmatched role before.stack ≡ false).
    behind_passes role state.stack before met
    (before_fits_by (state.due && not (is_open_brace role)) token.first token.column state.stack)
    (met_passes (fresh_after state.fresh before.made) role before.stack matched))

gone_matched : (index : ℕ) (token : Token) (stack : List Item) (rest : State
    → Answer) (moves : Option Moved) (answer : List Token) →
    GoesMatched (role_of token) stack moves →
    ((next : List Item) (more : List Token) → rest (state_behind (role_of token) next) ≡ Ok more
    → Matched (blocks next) more) →
    going_on token index rest moves ≡ Ok answer → Matched (blocks stack) answer
gone_matched index token stack rest None answer goes matched e = absurd (cc)
gone_matched index token stack rest (Some moved) answer goes matched e =
    let inverted = before_inverts (made_tokens moved.made token.offset ++ token ∷ []) _ answer e in
    let is : made_tokens moved.made token.offset ++ (token ∷ inverted.0) ≡ answer =
    sym (append_assoc (made_tokens moved.made token.offset) (token ∷ []) inverted.0) ∙ sym inverted.2 in
    subst (Matched (blocks stack)) is (goes token.offset token inverted.0 refl
    (matched moved.stack inverted.0 inverted.1))

bottom_empty : (stack : List Item) → (closed u.Bottom stack).stack ≡ []
bottom_empty [] = refl
bottom_empty (item ∷ outer) = bottom_empty outer

end_fits_by : (due : Bool) (stack : List Item) → finds s.Explicit stack ≡ false →
    Leads (blocks stack) ((if due then m.Open ∷ m.Close ∷ [] else []) ++ (closed u.Bottom stack).made) 0
end_fits_by due stack found offset rest h =
    let closing : Leads (blocks stack) (closed u.Bottom stack).made 0 =
    subst (Leads (blocks stack) (closed u.Bottom stack).made) (ap blocks (bottom_empty stack))
    (closed_fits u.Bottom stack (spares_bottom stack found)) in
    elim due as (λ d. Matched (blocks stack) (made_tokens
    ((if d then m.Open ∷ m.Close ∷ [] else []) ++ (closed u.Bottom stack).made) offset ++ rest))
    [ true ↦ closing offset rest h | false ↦ closing offset rest h ]

ended_matched : (source_length index : ℕ) (state : State) (explicit : Bool) (answer : List Token)
    → finds s.Explicit state.stack ≡ explicit →
    ◌≡◌ {A = Answer} (if explicit then Err index else Ok (made_tokens (made_at_end state) source_length)) (Ok answer)
    → Matched (blocks state.stack) answer
ended_matched source_length index state true answer found e = absurd (cc)
ended_matched source_length index state false answer found e =
    let is : made_tokens (made_at_end state) source_length ++ [] ≡ answer =
    append-nil (made_tokens (made_at_end state) source_length) ∙ cc in
    subst (Matched (blocks state.stack)) is (end_fits_by state.due state.stack found source_length [] refl)

from_matched : (source_length : ℕ) (tokens : List Token) (index : ℕ) (state : State) (answer : List Token) →
    layout_from source_length tokens index state ≡ Ok answer → Matched (blocks state.stack) answer
from_matched source_length [] index state answer e =
    ended_matched source_length index state (finds s.Explicit state.stack) answer refl e
from_matched source_length (token ∷ tokens) index state answer e =
    gone_matched index token state.stack (λ next. layout_from source_length tokens (index + 1) next)
    (token_moves state token) answer
    (goes_matched state token)
    (λ stack more is. from_matched source_length tokens (index + 1) (state_behind (role_of token) stack) more is) e

pub braces_match : BracesMatch
braces_match tokens answer source_length e =
    from_matched source_length tokens 0 (record { stack = []; due = due_at_start tokens; fresh = false }) answer e
