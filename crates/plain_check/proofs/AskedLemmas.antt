-- The least line that asks for what isn't built yet.
use Rattle.std.proofs.Common.{◌≡◌, ◌≤◌, ◌-◌, ℕ, List, [], ◌∷◌, Option, Some, None, refl, sym}
use Rattle.std.proofs.Common.{length, take, drop, get_or, nat_lt}
use Rattle.std.specs.List.{prefix_len}
use Rattle.bp_base.specs.Texts.{Text}
use Rattle.cabal_text.specs.declared.lines.Line.{Line}
use Rattle.cabal_text.specs.Lines.{blocks}
use Rattle.cabal_text.specs.Least.{sooner, least_of}
use Rattle.cabal_text.proofs.SoonerLemmas.{item_next_least}
use Rattle.cabal_stanzas.proofs.BlockedLemmas.{block}
use Rattle.cabal_component.specs.declared.component.Component.{Component}
use Rattle.cabal_component.proofs.RefusedLemmas.{block_first}
use Rattle.plain_check.specs.Asked.{or_head, asking_block, asking_blocks}

abbrev pub or_else : ℕ → Option ℕ → Option ℕ
or_else head None = Some head
or_else head (Some line) = Some line

or_some : (head n : ℕ) (o : Option ℕ) → or_else head (sooner (Some n) o) ≡ sooner (Some n) o
or_some head n None = refl
or_some head n (Some m) = refl

-- the least of the lines, or else the head
pub least_or_head : (head : ℕ) (ls : List ℕ) → least_of (or_head head ls) ≡ or_else head (least_of ls)
least_or_head head [] = refl
least_or_head head (l ∷ ls) = sym (or_some head l (least_of ls))

-- one more block of indent 0
pub asking_next : (c : Component) (owner : Text) (rest : List Line) (line : Line) (k : ℕ)
    (least found new total : Option ℕ) → 1 ≤ length rest → line ≡ get_or rest 0 line → line.indent ≡ 0
    → k ≡ prefix_len (λ x. nat_lt 0 x.indent) (take (length rest - 1) (drop 1 rest))
    → found ≡ least_of (asking_block c owner (block line (take k (take (length rest - 1) (drop 1 rest)))))
    → new ≡ sooner least found → sooner least (least_of (asking_blocks c owner rest)) ≡ total
    → sooner new (least_of (asking_blocks c owner (take (length rest - 1) (drop 1 rest)))) ≡ total
asking_next c owner rest line k least found new total h f z e b n t =
    let after = take (length rest - 1) (drop 1 rest) in
    let first = block_first rest line k h f z e in
    item_next_least (asking_block c owner) (block line (take k after)) (blocks 0 after) least found new total b n
    (rw first at t)
