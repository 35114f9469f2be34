-- The first refused line, block after block.
use Rattle.std.proofs.Common.{◌≡◌, sym, ap, ◌∙◌, ℕ, ◌+◌, ◌-◌, ◌<◌, ◌≤◌, List, [], ◌∷◌, ◌++◌, length, take, drop, get_or}
use Rattle.std.proofs.Common.{nat_lt, map, Option, Some, None, refl, arith, add-one, drop-cons, suc, append_assoc}
use Rattle.std.specs.List.{prefix_len, flat_map}
use Rattle.std.proofs.lemmas.Grind.{common_steps}
use Rattle.std.proofs.lemmas.List.{take_rest}
use Rattle.cabal_text.specs.declared.lines.Line.{Line}
use Rattle.cabal_text.specs.Least.{sooner, least_of}
use Rattle.cabal_text.specs.Lines.{Block, blocks, deeper_than}
use Rattle.cabal_component.specs.declared.component.Component.{Component}
use Rattle.cabal_component.specs.Package.{block_refused, blocks_refused}
use Rattle.cabal_stanzas.proofs.BlockedLemmas.{block}
use Rattle.cabal_text.proofs.SoonerLemmas.{sooner_assoc, item_next_least}

deep_more : (l : Line) (ls : List Line) → 0 < l.indent
    → map (λ x. x.number) (deeper_than 0 (l ∷ ls)) ≡ l.number ∷ map (λ x. x.number) (deeper_than 0 ls)
deep_more l ls h = grind (arith, common_steps)

-- one more line that is deep
pub deep_step : (ls : List Line) (i : ℕ) (line : Line) (least new total : Option ℕ) → i < length ls
    → line ≡ get_or ls i line → (line.indent ≡ 0 → ⊥)
    → new ≡ sooner least (Some line.number) → sooner least
    (least_of (map (λ x. x.number) (deeper_than 0 (drop i ls)))) ≡ total
    → sooner new (least_of (map (λ x. x.number) (deeper_than 0 (drop (i + 1) ls)))) ≡ total
deep_step ls i line least new total h e d n t =
    let deep : 0 < line.indent = omega arith in
    let cut : drop i ls ≡ line ∷ drop (i + 1) ls =
    rw add-one (drop-cons ls i line h ∙ ap (λ (x : Line). x ∷ drop (suc i) ls) (sym e)) in
    let more = ap (λ (xs : List Line). sooner least (least_of (map (λ x. x.number) (deeper_than 0 xs)))) cut
    ∙ ap (λ (ns : List ℕ). sooner least (least_of ns)) (deep_more line (drop (i + 1) ls) deep) in
    rw (n, sooner_assoc) (sym more ∙ t)

block_here : (l : Line) (ls : List Line) → l.indent ≡ 0 → blocks 0 (l ∷ ls) ≡ block l (deeper_than 0 ls) ∷ blocks 0 ls
block_here l ls e = grind (arith, common_steps)

-- the first line of the rest, of indent 0, begins a block
pub block_first : (rest : List Line) (line : Line) (k : ℕ) → 1 ≤ length rest → line ≡ get_or rest 0 line → line.indent ≡ 0
    → k ≡ prefix_len (λ x. nat_lt 0 x.indent) (take (length rest - 1) (drop 1 rest))
    → blocks 0 rest ≡ block line (take k (take (length rest - 1) (drop 1 rest)))
    ∷ blocks 0 (take (length rest - 1) (drop 1 rest))
block_first [] line k h f z e = absurd (omega arith)
block_first (l ∷ ls) line k h f z e =
    let r = take_rest (l ∷ ls) 1 in
    let count : k ≡ prefix_len (λ x. nat_lt 0 x.indent) ls = rw r at e in
    let top : l.indent ≡ 0 = rw f at z in
    rw (r, count, f) (block_here l ls top)

-- one more block of indent 0, with its first refused line and its components
pub block_next : (F : Block → List Component) (rest : List Line) (line : Line) (k : ℕ)
    (least found new total : Option ℕ) (more done all whole : List Component) → 1 ≤ length rest → line ≡ get_or rest 0 line → line.indent ≡ 0
    → k ≡ prefix_len (λ x. nat_lt 0 x.indent) (take (length rest - 1) (drop 1 rest))
    → found ≡ least_of (block_refused (block line (take k (take (length rest - 1) (drop 1 rest)))))
    → more ≡ F (block line (take k (take (length rest - 1) (drop 1 rest))))
    → new ≡ sooner least found → all ≡ done ++ more
    → (sooner least (least_of (blocks_refused rest)) ≡ total) × (done ++ flat_map F (blocks 0 rest) ≡ whole)
    → (sooner new (least_of (blocks_refused (take (length rest - 1) (drop 1 rest)))) ≡ total)
    × (all ++ flat_map F (blocks 0 (take (length rest - 1) (drop 1 rest))) ≡ whole)
block_next F rest line k least found new total more done all whole h f z e b m n a t =
    let after = take (length rest - 1) (drop 1 rest) in
    let first = block_first rest line k h f z e in
    let lines : sooner least (least_of (flat_map block_refused (block line (take k after) ∷ blocks 0 after))) ≡ total =
    rw first at t.0 in
    let parts : done ++ (F (block line (take k after)) ++ flat_map F (blocks 0 after)) ≡ whole = rw first at t.1 in (
      item_next_least block_refused (block line (take k after)) (blocks 0 after) least found new total b n lines,
      rw (a, m, append_assoc) parts,
    )

-- one more field that may be given again
pub field_next : {X : Type 0} (F : X → List ℕ) (xs : List X) (i : ℕ) (x : X) (least found new total : Option ℕ)
    → i < length xs → found ≡ least_of (F (get_or xs i x)) → new ≡ sooner least found
    → sooner least (least_of (flat_map F (drop i xs))) ≡ total
    → sooner new (least_of (flat_map F (drop (i + 1) xs))) ≡ total
field_next {X} F xs i x least found new total h f n t =
    let cut : drop i xs ≡ get_or xs i x ∷ drop (i + 1) xs = rw add-one (drop-cons xs i x h) in
    item_next_least F (get_or xs i x) (drop (i + 1) xs) least found new total f n (rw cut at t)

some_least : (n : ℕ) (o : Option ℕ) → sooner (Some n) o ≡ None → ⊥
some_least n None e = cc
some_least n (Some m) e = cc

-- where there is no least line, no line is refused
pub none_refused : (ns : List ℕ) → least_of ns ≡ None → ns ≡ []
none_refused [] e = refl
none_refused (n ∷ ns) e = absurd (some_least n (least_of ns) e)
