-- Rules in a row.
use Rattle.std.proofs.Common.{◌≡◌, ℕ, Bool, List, [], ◌∷◌, ◌++◌, append_assoc, refl, sym, ap, ◌∙◌}
use Rattle.haskell_layout.specs.declared.role.Made.{Made}
use Rattle.haskell_layout.specs.declared.stack.Item.{Item}
use Rattle.haskell_layout.specs.declared.progress.Progress.{Progress}
use Rattle.haskell_layout.specs.Role.{made_token}
use Rattle.haskell_layout.specs.Rules.{Moved, behind}
use Rattle.haskell_layout.specs.Layout.{made_tokens, made_opens, fresh_after}
use Rattle.haskell_layout.specs.Progress.{advanced}

pub fresh_after-append : (fresh : Bool) (made more : List Made)
    → fresh_after fresh (made ++ more) ≡ fresh_after (fresh_after fresh made) more
fresh_after-append fresh [] more = refl
fresh_after-append fresh (it ∷ made) more = fresh_after-append (made_opens it) made more

pub made_tokens-append : (made more : List Made) (offset : ℕ)
    → made_tokens (made ++ more) offset ≡ made_tokens made offset ++ made_tokens more offset
made_tokens-append [] more offset = refl
made_tokens-append (it ∷ made) more offset = ap (λ rest. made_token it offset ∷ rest)
    (made_tokens-append made more offset)

-- two rules in a row
pub in_a_row : (offset : ℕ) (one two : Moved) (progress : Progress) →
    advanced offset two (advanced offset one progress) ≡ advanced offset (behind one.made two) progress
in_a_row offset one two progress =
    let fresh : fresh_after (fresh_after progress.fresh one.made) two.made ≡ fresh_after progress.fresh
    (one.made ++ two.made) =
    sym (fresh_after-append progress.fresh one.made two.made) in
    let out : (progress.out ++ made_tokens one.made offset) ++ made_tokens two.made offset ≡ progress.out
    ++ made_tokens (one.made ++ two.made) offset =
    append_assoc progress.out (made_tokens one.made offset) (made_tokens two.made offset)
    ∙ ap (λ made. progress.out ++ made) (sym (made_tokens-append one.made two.made offset)) in
    cc

-- a rule, and then one on what is open behind it
pub followed : (offset : ℕ) (one : Moved) (two : List Item → Moved) (progress next : Progress)
    → next ≡ advanced offset one progress →
    advanced offset (two next.stack) next ≡ advanced offset (behind one.made (two one.stack)) progress
followed offset one two progress next is =
    ap (λ (p : Progress). advanced offset (two p.stack) p) is ∙ in_a_row offset one (two one.stack) progress
