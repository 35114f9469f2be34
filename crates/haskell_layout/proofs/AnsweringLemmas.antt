-- Where no block is due and braces match, layout answers the tokens themselves: it makes nothing and fails nowhere.
use Rattle.std.proofs.Common.{◌≡◌, ℕ, zero, suc, ◌+◌, Bool, true, false, not, ◌&&◌, ◌==◌, List, [], ◌∷◌, ◌++◌, Option}
use Rattle.std.proofs.Common.{Some, None, Ok, Err, if◌then◌else◌, refl, sym, ap, subst, ◌∙◌, arith}
use Rattle.std.specs.Prelude.{nat_le}
use Rattle.std.proofs.lemmas.Bool.{and_parts}
use Rattle.std.proofs.lemmas.Bool.Decides.{nat_tests}
use Rattle.hs_tokens.specs.declared.token.Token.{Token}
use Rattle.haskell_layout.specs.declared.role.Role.{Role}
use Rattle.haskell_layout.specs.declared.role.Role.TheVariants as r
use Rattle.haskell_layout.specs.declared.role.Made.{Made}
use Rattle.haskell_layout.specs.declared.role.Made.TheVariants as m
use Rattle.haskell_layout.specs.declared.stack.Item.{Item}
use Rattle.haskell_layout.specs.declared.stack.Item.TheVariants as i
use Rattle.haskell_layout.specs.declared.stack.Sought.{Sought}
use Rattle.haskell_layout.specs.declared.stack.Sought.TheVariants as s
use Rattle.haskell_layout.specs.declared.stack.Until.{Until}
use Rattle.haskell_layout.specs.declared.stack.Until.TheVariants as u
use Rattle.haskell_layout.specs.Role.{role_of, makes_due, is_open_brace}
use Rattle.haskell_layout.specs.Stack.{column_of, is_implicit, finds, reached, seeks, bars}
use Rattle.haskell_layout.specs.Rules.{Moved, nothing_made, behind, end_of, closed, closed_over, closed_to}
use Rattle.haskell_layout.specs.Rules.{without_top, popped, item_ended, item_begun, line_begun, block_begun}
use Rattle.haskell_layout.specs.Rules.{before_token, arrow_met, equals_met, where_met, token_met, unmatched}
use Rattle.haskell_layout.specs.Layout.{State, Answer, going_on, layout_from, layout_of, due_at_start, fresh_after}
use Rattle.haskell_layout.specs.Layout.{made_tokens, made_at_end, token_moves, state_behind, ending, before_answer}
use Rattle.haskell_layout.specs.Laws.{none_due, matched_by, Matched, BracesLayOut}
use Rattle.haskell_layout.proofs.StayingLemmas.{IsPlain, plain_item, plain_implicit}

-- what an item counts
abbrev weight : Item → ℕ
weight i.Explicit = 1
weight _ = 0

-- how many explicit blocks are open
abbrev opens : List Item → ℕ
opens [] = 0
opens (item ∷ outer) = weight item + opens outer

-- nothing is made, no implicit block is open, and so many explicit ones are
record Quiet (moved : Moved) (depth : ℕ) : Type 0 where
  made : moved.made ≡ []
  plain : IsPlain moved.stack
  open_is : opens moved.stack ≡ depth

-- without an implicit block the innermost column is 0
plain_column : (stack : List Item) → IsPlain stack → column_of stack ≡ 0
plain_column [] plain = refl
plain_column (i.Block column ∷ outer) plain = absurd plain
plain_column (i.Explicit ∷ outer) plain = refl
plain_column (i.Paren ∷ outer) plain = plain_column outer plain
plain_column (i.Bracket ∷ outer) plain = plain_column outer plain
plain_column (i.If ∷ outer) plain = plain_column outer plain
plain_column (i.Then ∷ outer) plain = plain_column outer plain
plain_column (i.Case ∷ outer) plain = plain_column outer plain
plain_column (i.Let ∷ outer) plain = plain_column outer plain
plain_column (i.Lam ∷ outer) plain = plain_column outer plain
plain_column (i.Guard ∷ outer) plain = plain_column outer plain

-- a line's first token closes and begins nothing
column_stays : (column : ℕ) (stack : List Item) → IsPlain stack → closed (u.Column column) stack ≡ nothing_made stack
column_stays column [] plain = refl
column_stays column (item ∷ outer) plain =
    ap (λ n. if nat_le n column then nothing_made (item ∷ outer)
    else behind (end_of item) (closed (u.Column column) outer)) (plain_column (item ∷ outer) plain)
    ∙ ap (λ v. if v then nothing_made (item ∷ outer) else behind (end_of item) (closed (u.Column column) outer))
    (zero_le column)
  where
    zero_le : (column : ℕ) → nat_le 0 column ≡ true
    zero_le column = grind (arith, nat_tests)

line_stays : (column : ℕ) (stack : List Item) → IsPlain stack → line_begun column stack ≡ nothing_made stack
line_stays column stack plain =
    ap (λ moved. behind moved.made (item_begun column moved.stack)) (column_stays column stack plain)
    ∙ ap (λ v. behind [] (if v && column_of stack == column then behind (m.Semicolon ∷ []) (item_ended stack)
    else nothing_made stack)) (plain_implicit stack plain)

before_stays : (due : Bool) (role : Role) (column : ℕ) (first : Bool) (stack : List Item)
    → (if due then is_open_brace role else true) ≡ true → IsPlain stack →
    before_token due role column first stack ≡ nothing_made stack
before_stays true role column first stack brace plain =
    ap (λ v. if not v then block_begun column stack else (if first then line_begun column stack
    else nothing_made stack)) brace ∙ by first
  where
    by : (first : Bool) → (if first then line_begun column stack else nothing_made stack) ≡ nothing_made stack
    by true = line_stays column stack plain
    by false = refl
before_stays false role column true stack brace plain = line_stays column stack plain
before_stays false role column false stack brace plain = refl

-- `;` pops marks alone
block_stays : (stack : List Item) → IsPlain stack → Quiet (closed u.Block stack) (opens stack)
block_stays [] plain = record { made = refl; plain = tt; open_is = refl }
block_stays (i.Block column ∷ outer) plain = absurd plain
block_stays (i.Explicit ∷ outer) plain = record { made = refl; plain = plain; open_is = refl }
block_stays (i.Paren ∷ outer) plain = let h = block_stays outer plain in
    record { made = h.made; plain = h.plain; open_is = h.open_is ∙ omega arith }
block_stays (i.Bracket ∷ outer) plain = let h = block_stays outer plain in
    record { made = h.made; plain = h.plain; open_is = h.open_is ∙ omega arith }
block_stays (i.If ∷ outer) plain = let h = block_stays outer plain in
    record { made = h.made; plain = h.plain; open_is = h.open_is ∙ omega arith }
block_stays (i.Then ∷ outer) plain = let h = block_stays outer plain in
    record { made = h.made; plain = h.plain; open_is = h.open_is ∙ omega arith }
block_stays (i.Case ∷ outer) plain = let h = block_stays outer plain in
    record { made = h.made; plain = h.plain; open_is = h.open_is ∙ omega arith }
block_stays (i.Let ∷ outer) plain = let h = block_stays outer plain in
    record { made = h.made; plain = h.plain; open_is = h.open_is ∙ omega arith }
block_stays (i.Lam ∷ outer) plain = let h = block_stays outer plain in
    record { made = h.made; plain = h.plain; open_is = h.open_is ∙ omega arith }
block_stays (i.Guard ∷ outer) plain = let h = block_stays outer plain in
    record { made = h.made; plain = h.plain; open_is = h.open_is ∙ omega arith }

-- a look down passes no explicit block
passed : (sought : Sought) (item : Item) → seeks sought item ≡ false → bars sought item ≡ false → weight item ≡ 0
passed s.Explicit i.Explicit e f = cc
passed s.Paren i.Explicit e f = cc
passed s.Bracket i.Explicit e f = cc
passed s.Parts i.Explicit e f = cc
passed s.If i.Explicit e f = cc
passed s.Then i.Explicit e f = cc
passed s.Case i.Explicit e f = cc
passed s.Let i.Explicit e f = cc
passed sought (i.Block column) e f = refl
passed sought i.Paren e f = refl
passed sought i.Bracket e f = refl
passed sought i.If e f = refl
passed sought i.Then e f = refl
passed sought i.Case e f = refl
passed sought i.Let e f = refl
passed sought i.Lam e f = refl
passed sought i.Guard e f = refl

record Found (sought : Sought) (stack : List Item) : Type 0 where
  item : Item
  outer : List Item
  made : (closed (u.Top sought) stack).made ≡ []
  stack_is : (closed (u.Top sought) stack).stack ≡ item ∷ outer
  is_sought : seeks sought item ≡ true
  plain : IsPlain (item ∷ outer)
  open_is : opens (item ∷ outer) ≡ opens stack

found_by : (v w : Bool) (sought : Sought) (item : Item) (outer : List Item) → seeks sought item ≡ v
    → bars sought item ≡ w → IsPlain (item ∷ outer) →
    (if v then true else (if w then false else finds sought outer)) ≡ true
    → (IsPlain outer → finds sought outer ≡ true → Found sought outer) → Found sought (item ∷ outer)
found_by true w sought item outer e f plain finds_it ih = record {
  item = item;
  outer = outer;
  made = ap (λ v. (if v then nothing_made (item ∷ outer) else behind (end_of item) (closed (u.Top sought) outer)).made)
      e;
  stack_is = ap (λ v. (if v then nothing_made (item ∷ outer)
      else behind (end_of item) (closed (u.Top sought) outer)).stack) e;
  is_sought = e;
  plain = plain;
  open_is = refl;
}
found_by false true sought item outer e f plain finds_it ih = cc
found_by false false sought item outer e f plain finds_it ih =
    let p = plain_item item outer plain in
    let h = ih p.1 finds_it in
    record {
      item = h.item;
      outer = h.outer;
      made = ap (λ v. (if v then nothing_made (item ∷ outer)
          else behind (end_of item) (closed (u.Top sought) outer)).made) e
          ∙ ap (λ made. made ++ (closed (u.Top sought) outer).made) p.0 ∙ h.made;
      stack_is = ap (λ v. (if v then nothing_made (item ∷ outer)
          else behind (end_of item) (closed (u.Top sought) outer)).stack) e ∙ h.stack_is;
      is_sought = h.is_sought;
      plain = h.plain;
      open_is = let w = passed sought item e f in let o = h.open_is in omega (arith, w, o);
    }

found : (sought : Sought) (stack : List Item) → IsPlain stack → finds sought stack ≡ true → Found sought stack
found sought [] plain e = cc
found sought (item ∷ outer) plain e = found_by (seeks sought item) (bars sought item) sought item outer refl refl plain
    e (found sought outer)

at_rest : (stack : List Item) → IsPlain stack → Quiet (nothing_made stack) (opens stack)
at_rest stack plain = record { made = refl; plain = plain; open_is = refl }

to_by : (v : Bool) (sought : Sought) (stack : List Item) → finds sought stack ≡ v → IsPlain stack →
    Quiet (if v then closed (u.Top sought) stack else nothing_made stack) (opens stack)
to_by true sought stack e plain =
    let h = found sought stack plain e in
    record { made = h.made; plain = subst IsPlain (sym h.stack_is) h.plain; open_is = ap opens h.stack_is ∙ h.open_is }
to_by false sought stack e plain = at_rest stack plain

over_found : (sought : Sought) (stack : List Item) → finds sought stack ≡ true → IsPlain stack → (n : ℕ) →
    ((item : Item) → seeks sought item ≡ true → weight item ≡ n) → (depth : ℕ) → opens stack ≡ n + depth
    → Quiet (without_top (closed (u.Top sought) stack)) depth
over_found sought stack e plain n weighs depth is =
    let h = found sought stack plain e in
    let w = weighs h.item h.is_sought in
    let o = h.open_is in
    record {
      made = h.made;
      plain = subst (λ st. IsPlain (popped st)) (sym h.stack_is) (plain_item h.item h.outer h.plain).1;
      open_is = ap (λ st. opens (popped st)) h.stack_is ∙ omega (arith, w, o, is);
    }

over_by : (v : Bool) (sought : Sought) (stack : List Item) → finds sought stack ≡ v → IsPlain stack
    → ((item : Item) → seeks sought item ≡ true → weight item ≡ 0) →
    Quiet (if v then without_top (closed (u.Top sought) stack) else nothing_made stack) (opens stack)
over_by true sought stack e plain weighs = over_found sought stack e plain 0 weighs (opens stack) (omega arith)
over_by false sought stack e plain weighs = at_rest stack plain

over : (sought : Sought) (stack : List Item) → IsPlain stack
    → ((item : Item) → seeks sought item ≡ true → weight item ≡ 0) → Quiet (closed_over sought stack) (opens stack)
over sought stack plain weighs = over_by (finds sought stack) sought stack refl plain weighs

no_weight : (sought : Sought) (item : Item) → (seeks sought i.Explicit ≡ false) → seeks sought item ≡ true
    → weight item ≡ 0
no_weight sought i.Explicit n e = cc
no_weight sought (i.Block column) n e = refl
no_weight sought i.Paren n e = refl
no_weight sought i.Bracket n e = refl
no_weight sought i.If n e = refl
no_weight sought i.Then n e = refl
no_weight sought i.Case n e = refl
no_weight sought i.Let n e = refl
no_weight sought i.Lam n e = refl
no_weight sought i.Guard n e = refl

explicit_weight : (item : Item) → seeks s.Explicit item ≡ true → weight item ≡ 1
explicit_weight i.Explicit e = refl
explicit_weight (i.Block column) e = cc
explicit_weight i.Paren e = cc
explicit_weight i.Bracket e = cc
explicit_weight i.If e = cc
explicit_weight i.Then e = cc
explicit_weight i.Case e = cc
explicit_weight i.Let e = cc
explicit_weight i.Lam e = cc
explicit_weight i.Guard e = cc

-- an explicit block is found where one is open
some_open : (stack : List Item) (depth : ℕ) → opens stack ≡ suc depth → finds s.Explicit stack ≡ true
some_open [] depth e = absurd (omega arith)
some_open (i.Explicit ∷ outer) depth e = refl
some_open (i.Block column ∷ outer) depth e = some_open outer depth (omega arith)
some_open (i.Paren ∷ outer) depth e = some_open outer depth (omega arith)
some_open (i.Bracket ∷ outer) depth e = some_open outer depth (omega arith)
some_open (i.If ∷ outer) depth e = some_open outer depth (omega arith)
some_open (i.Then ∷ outer) depth e = some_open outer depth (omega arith)
some_open (i.Case ∷ outer) depth e = some_open outer depth (omega arith)
some_open (i.Let ∷ outer) depth e = some_open outer depth (omega arith)
some_open (i.Lam ∷ outer) depth e = some_open outer depth (omega arith)
some_open (i.Guard ∷ outer) depth e = some_open outer depth (omega arith)

none_open : (stack : List Item) → opens stack ≡ 0 → finds s.Explicit stack ≡ false
none_open [] e = refl
none_open (i.Explicit ∷ outer) e = absurd (omega arith)
none_open (i.Block column ∷ outer) e = none_open outer (omega arith)
none_open (i.Paren ∷ outer) e = none_open outer (omega arith)
none_open (i.Bracket ∷ outer) e = none_open outer (omega arith)
none_open (i.If ∷ outer) e = none_open outer (omega arith)
none_open (i.Then ∷ outer) e = none_open outer (omega arith)
none_open (i.Case ∷ outer) e = none_open outer (omega arith)
none_open (i.Let ∷ outer) e = none_open outer (omega arith)
none_open (i.Lam ∷ outer) e = none_open outer (omega arith)
none_open (i.Guard ∷ outer) e = none_open outer (omega arith)

bottom_stays : (stack : List Item) → IsPlain stack → (closed u.Bottom stack).made ≡ []
bottom_stays [] plain = refl
bottom_stays (item ∷ outer) plain =
    let p = plain_item item outer plain in ap (λ made. made ++ (closed u.Bottom outer).made) p.0
    ∙ bottom_stays outer p.1

arrow_stays : (stack : List Item) → IsPlain stack → Quiet (nothing_made (arrow_met stack)) (opens stack)
arrow_stays [] plain = at_rest [] plain
arrow_stays (i.Block column ∷ outer) plain = absurd plain
arrow_stays (i.Explicit ∷ outer) plain = at_rest (i.Explicit ∷ outer) plain
arrow_stays (i.Paren ∷ outer) plain = at_rest (i.Paren ∷ outer) plain
arrow_stays (i.Bracket ∷ outer) plain = at_rest (i.Bracket ∷ outer) plain
arrow_stays (i.If ∷ outer) plain = at_rest (i.If ∷ outer) plain
arrow_stays (i.Then ∷ outer) plain = at_rest (i.Then ∷ outer) plain
arrow_stays (i.Case ∷ outer) plain = at_rest (i.Case ∷ outer) plain
arrow_stays (i.Let ∷ outer) plain = at_rest (i.Let ∷ outer) plain
arrow_stays (i.Lam ∷ outer) plain = record { made = refl; plain = plain; open_is = omega arith }
arrow_stays (i.Guard ∷ outer) plain = record { made = refl; plain = plain; open_is = omega arith }

equals_stays : (stack : List Item) → IsPlain stack → Quiet (nothing_made (equals_met stack)) (opens stack)
equals_stays [] plain = at_rest [] plain
equals_stays (i.Block column ∷ outer) plain = absurd plain
equals_stays (i.Explicit ∷ outer) plain = at_rest (i.Explicit ∷ outer) plain
equals_stays (i.Paren ∷ outer) plain = at_rest (i.Paren ∷ outer) plain
equals_stays (i.Bracket ∷ outer) plain = at_rest (i.Bracket ∷ outer) plain
equals_stays (i.If ∷ outer) plain = at_rest (i.If ∷ outer) plain
equals_stays (i.Then ∷ outer) plain = at_rest (i.Then ∷ outer) plain
equals_stays (i.Case ∷ outer) plain = at_rest (i.Case ∷ outer) plain
equals_stays (i.Let ∷ outer) plain = at_rest (i.Let ∷ outer) plain
equals_stays (i.Lam ∷ outer) plain = at_rest (i.Lam ∷ outer) plain
equals_stays (i.Guard ∷ outer) plain = record { made = refl; plain = plain; open_is = omega arith }

where_stays : (fresh : Bool) (stack : List Item) → IsPlain stack → Quiet (where_met fresh stack) (opens stack)
where_stays fresh [] plain = at_rest [] plain
where_stays fresh (i.Block column ∷ outer) plain = absurd plain
where_stays fresh (i.Explicit ∷ outer) plain = at_rest (i.Explicit ∷ outer) plain
where_stays fresh (i.Paren ∷ outer) plain = at_rest (i.Paren ∷ outer) plain
where_stays fresh (i.Bracket ∷ outer) plain = at_rest (i.Bracket ∷ outer) plain
where_stays fresh (i.If ∷ outer) plain = at_rest (i.If ∷ outer) plain
where_stays fresh (i.Then ∷ outer) plain = at_rest (i.Then ∷ outer) plain
where_stays fresh (i.Case ∷ outer) plain = at_rest (i.Case ∷ outer) plain
where_stays fresh (i.Let ∷ outer) plain = at_rest (i.Let ∷ outer) plain
where_stays fresh (i.Lam ∷ outer) plain = at_rest (i.Lam ∷ outer) plain
where_stays fresh (i.Guard ∷ outer) plain = at_rest (i.Guard ∷ outer) plain

-- what a token does, and how many blocks are open behind it
record Stepped (role : Role) (fresh : Bool) (stack : List Item) (Rest : ℕ → Type 0) : Type 0 where
  matched : unmatched role stack ≡ false
  depth : ℕ
  quiet : Quiet (token_met fresh role stack) depth
  rest : Rest depth

stepped : (role : Role) (fresh : Bool) (stack : List Item) (depth : ℕ) (Rest : ℕ → Type 0) → IsPlain stack
    → opens stack ≡ depth → matched_by role depth Rest → Stepped role fresh stack Rest
stepped r.OpenBrace fresh stack depth Rest plain e rest = record {
  matched = refl;
  depth = suc depth;
  quiet =
      record { made = refl; plain = plain; open_is = omega arith };
  rest = rest;
}
stepped r.CloseBrace fresh stack zero Rest plain e rest = absurd rest
stepped r.CloseBrace fresh stack (suc depth) Rest plain e rest =
    let f = some_open stack depth e in
    record {
      matched = ap not f;
      depth = depth;
      quiet = subst (λ v. Quiet (if v then without_top (closed (u.Top s.Explicit) stack) else nothing_made stack)
          depth) (sym f)
          (over_found s.Explicit stack f plain 1 explicit_weight depth (omega arith));
      rest = rest;
    }
stepped r.Semicolon fresh stack depth Rest plain e rest = record {
  matched = refl;
  depth = opens stack;
  quiet =
      block_stays stack plain;
  rest = subst Rest (sym e) rest;
}
stepped r.OpenParen fresh stack depth Rest plain e rest = record {
  matched = refl;
  depth = depth;
  quiet =
      record { made = refl; plain = plain; open_is = omega arith };
  rest = rest;
}
stepped r.OpenBracket fresh stack depth Rest plain e rest = record {
  matched = refl;
  depth = depth;
  quiet =
      record { made = refl; plain = plain; open_is = omega arith };
  rest = rest;
}
stepped r.CloseParen fresh stack depth Rest plain e rest = record {
  matched = refl;
  depth = opens stack;
  quiet =
      over s.Paren stack plain (λ item. no_weight s.Paren item refl);
  rest = subst Rest (sym e) rest;
}
stepped r.CloseBracket fresh stack depth Rest plain e rest =
    record {
      matched = refl;
      depth = opens stack;
      quiet = over s.Bracket stack plain
          (λ item. no_weight s.Bracket item refl);
      rest = subst Rest (sym e) rest;
    }
stepped r.Comma fresh stack depth Rest plain e rest = record {
  matched = refl;
  depth = opens stack;
  quiet =
      to_by (finds s.Parts stack) s.Parts stack refl plain;
  rest = subst Rest (sym e) rest;
}
stepped r.If fresh stack depth Rest plain e rest = record {
  matched = refl;
  depth = depth;
  quiet =
      record { made = refl; plain = plain; open_is = omega arith };
  rest = rest;
}
stepped r.Case fresh stack depth Rest plain e rest = record {
  matched = refl;
  depth = depth;
  quiet =
      record { made = refl; plain = plain; open_is = omega arith };
  rest = rest;
}
stepped r.Let fresh stack depth Rest plain e rest = record {
  matched = refl;
  depth = depth;
  quiet =
      record { made = refl; plain = plain; open_is = omega arith };
  rest = rest;
}
stepped r.Lambda fresh stack depth Rest plain e rest = record {
  matched = refl;
  depth = depth;
  quiet =
      record { made = refl; plain = plain; open_is = omega arith };
  rest = rest;
}
stepped r.Bar fresh stack depth Rest plain e rest = record {
  matched = refl;
  depth = depth;
  quiet =
      record { made = refl; plain = plain; open_is = omega arith };
  rest = rest;
}
stepped r.Then fresh stack depth Rest plain e rest =
    let h = over s.If stack plain (λ item. no_weight s.If item refl) in
    record {
      matched = refl;
      depth = opens stack;
      quiet = record {
        made = h.made;
        plain = h.plain;
        open_is = let o =
            h.open_is in omega (arith, o);
      };
      rest = subst Rest (sym e) rest;
    }
stepped r.Else fresh stack depth Rest plain e rest = record {
  matched = refl;
  depth = opens stack;
  quiet =
      over s.Then stack plain (λ item. no_weight s.Then item refl);
  rest = subst Rest (sym e) rest;
}
stepped r.Of fresh stack depth Rest plain e rest = record {
  matched = refl;
  depth = opens stack;
  quiet =
      over s.Case stack plain (λ item. no_weight s.Case item refl);
  rest = subst Rest (sym e) rest;
}
stepped r.In fresh stack depth Rest plain e rest = record {
  matched = refl;
  depth = opens stack;
  quiet =
      over s.Let stack plain (λ item. no_weight s.Let item refl);
  rest = subst Rest (sym e) rest;
}
stepped r.Arrow fresh stack depth Rest plain e rest = record {
  matched = refl;
  depth = opens stack;
  quiet =
      arrow_stays stack plain;
  rest = subst Rest (sym e) rest;
}
stepped r.Equals fresh stack depth Rest plain e rest = record {
  matched = refl;
  depth = opens stack;
  quiet =
      equals_stays stack plain;
  rest = subst Rest (sym e) rest;
}
stepped r.Where fresh stack depth Rest plain e rest = record {
  matched = refl;
  depth = opens stack;
  quiet =
      where_stays fresh stack plain;
  rest = subst Rest (sym e) rest;
}
stepped r.Header fresh stack depth Rest plain e rest = record {
  matched = refl;
  depth = depth;
  quiet =
      record { made = refl; plain = plain; open_is = e };
  rest = rest;
}
stepped r.Other fresh stack depth Rest plain e rest = record {
  matched = refl;
  depth = depth;
  quiet =
      record { made = refl; plain = plain; open_is = e };
  rest = rest;
}

moves : (state : State) (token : Token) (rest : State → Answer) (index : ℕ) (more : List Token) →
    (if state.due then is_open_brace (role_of token) else true) ≡ true → IsPlain state.stack
    → unmatched (role_of token) state.stack ≡ false →
    (token_met state.fresh (role_of token) state.stack).made ≡ [] →
    rest (state_behind (role_of token) (token_met state.fresh (role_of token) state.stack).stack) ≡ Ok more →
    going_on token index rest (token_moves state token) ≡ Ok (token ∷ more)
moves state token rest index more brace plain matched made is =
    ap (λ b. going_on token index rest (if unmatched (role_of token) b.stack then None
    else Some (behind b.made (token_met (fresh_after state.fresh b.made) (role_of token) b.stack))))
    (before_stays state.due (role_of token) token.column token.first state.stack brace plain)
    ∙ ap (λ v. going_on token index rest (if v then None else Some
    (behind [] (token_met state.fresh (role_of token) state.stack)))) matched
    ∙ ap (λ made. before_answer (made_tokens made token.offset ++ token ∷ [])
    (rest (state_behind (role_of token) (token_met state.fresh (role_of token) state.stack).stack))) made
    ∙ ap (before_answer (token ∷ [])) is

ends : (length index : ℕ) (state : State) → not state.due ≡ true → IsPlain state.stack → opens state.stack ≡ 0
    → ending length index state ≡ Ok []
ends length index state due plain none =
    ap (λ v. if v then Err index else Ok (made_tokens (made_at_end state) length)) (none_open state.stack none)
    ∙ ap (λ made. Ok (made_tokens made length)) (by state.due due ∙ bottom_stays state.stack plain)
  where
    by : (due : Bool) → not due ≡ true → (if due then m.Open ∷ m.Close ∷ [] else [])
        ++ (closed u.Bottom state.stack).made ≡ (closed u.Bottom state.stack).made
    by true e = cc
    by false e = refl

laid : (tokens : List Token) (length index : ℕ) (state : State) (depth : ℕ) → IsPlain state.stack
    → opens state.stack ≡ depth → none_due state.due tokens ≡ true → Matched depth tokens →
    layout_from length tokens index state ≡ Ok tokens
laid [] length index state depth plain e none matched = ends length index state none plain (e ∙ matched)
laid (token ∷ tokens) length index state depth plain e none matched =
    let p = and_parts (if state.due then is_open_brace (role_of token) else true)
    (none_due (makes_due (role_of token)) tokens) none in
    let h = stepped (role_of token) state.fresh state.stack depth (λ next. Matched next tokens) plain e matched in
    moves state token (λ next. layout_from length tokens (index + 1) next) index tokens p.0 plain h.matched h.quiet.made
    (laid tokens length (index + 1) (state_behind (role_of token)
    (token_met state.fresh (role_of token) state.stack).stack) h.depth h.quiet.plain h.quiet.open_is p.1 h.rest)

pub braces_lay_out : BracesLayOut
braces_lay_out tokens length none matched = laid tokens length 0
    (record { stack = []; due = due_at_start tokens; fresh = false }) 0 tt refl none matched
