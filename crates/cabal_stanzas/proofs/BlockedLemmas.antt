-- Blocks of lines, one after another.
use Rattle.std.proofs.Common.{◌≡◌, refl, ◌∙◌, ℕ, ◌+◌, ◌-◌, ◌<◌, ◌≤◌, Bool, true, false, List, [], ◌∷◌, ◌++◌, length}
use Rattle.std.proofs.Common.{take, drop, get_or, cond, nat_lt, map, Some, arith, drop-cons}
use Rattle.std.specs.List.{prefix_len, filter}
use Rattle.std.proofs.lemmas.Grind.{common_steps}
use Rattle.std.proofs.lemmas.List.{take_rest}
use Rattle.cabal_text.specs.declared.lines.Line.{Line}
use Rattle.cabal_stanzas.specs.declared.project.ProjectError.{ProjectError}
use Rattle.cabal_stanzas.specs.declared.project.ProjectError.TheVariants.{ProjectSyntax, NoMemory}
use Rattle.cabal_text.specs.Lines.{Block, blocks, deeper_than}
use Rattle.cabal_stanzas.specs.Project.{first_of, shallow_lines, block_refused, block_files, project_files}
use Rattle.cabal_stanzas.specs.Project.{project_refused, NamesFirst}

first_shallow : (first : Line) (rest : List Line) (i : ℕ) (line : Line) → i < length rest → line ≡ get_or rest i line
    → line.indent < first.indent
    → filter (λ x. nat_lt x.indent first.indent) (drop i rest) ≡ filter (λ x. nat_lt x.indent first.indent) rest
    → first_of (map (λ x. x.number) (filter (λ x. nat_lt x.indent first.indent) rest)) ≡ Some line.number
first_shallow first rest i line h e s k =
    let cut = drop-cons rest i line h in
    rw (← k, cut, ← e) (grind (arith, common_steps))

-- the first line that is less deep than the first of its stanza
pub shallow_at : (ls rest : List Line) (first : Line) (i : ℕ) (line : Line) → 1 ≤ length ls → first ≡ get_or ls 0 first
    → rest ≡ take (length ls - 1) (drop 1 ls)
    → i < length rest → line ≡ get_or rest i line → line.indent < first.indent
    → filter (λ x. nat_lt x.indent first.indent) (drop i rest) ≡ filter (λ x. nat_lt x.indent first.indent) rest
    → first_of (shallow_lines ls) ≡ Some line.number
shallow_at [] rest first i line h f r w e s k = absurd (omega arith)
shallow_at (l ∷ ls) rest first i line h f r w e s k =
    let g = first_shallow first rest i line w e s k in
    let t : rest ≡ ls = r ∙ take_rest (l ∷ ls) 1 in
    rw (t, f) at g

abbrev Skips : ℕ → ℕ → List Line → Type 0
Skips indent n ls = (blocks indent (drop n ls) ≡ blocks indent ls) × (deeper_than indent (drop n ls) ≡ [])

skip_stop : (indent : ℕ) (l : Line) (ls : List Line) → nat_lt indent l.indent ≡ false → Skips indent 0 (l ∷ ls)
skip_stop indent l ls e = (refl, grind (arith, common_steps))

skip_more : (indent n : ℕ) (l : Line) (ls : List Line) → nat_lt indent l.indent ≡ true → Skips indent n ls
    → Skips indent (1 + n) (l ∷ ls)
skip_more indent n l ls e h = (grind (arith, common_steps, h.0), grind (arith, common_steps, h.1))

skip_at : (indent : ℕ) (l : Line) (ls : List Line) (r : Bool) → nat_lt indent l.indent ≡ r
    → Skips indent (prefix_len (λ x. nat_lt indent x.indent) ls) ls
    → Skips indent (cond r (1 + prefix_len (λ x. nat_lt indent x.indent) ls) 0) (l ∷ ls)
skip_at indent l ls true e h = skip_more indent (prefix_len (λ x. nat_lt indent x.indent) ls) l ls e h
skip_at indent l ls false e h = skip_stop indent l ls e

-- deeper lines begin no block
skip_deeper : (indent : ℕ) (ls : List Line) → Skips indent (prefix_len (λ x. nat_lt indent x.indent) ls) ls
skip_deeper indent [] = (refl, refl)
skip_deeper indent (l ∷ ls) = skip_at indent l ls (nat_lt indent l.indent) refl (skip_deeper indent ls)

abbrev pub block : Line → List Line → Block
block line deeper = record { line = line; deeper = deeper }

-- one block and what comes after it
pub record LeadsBlock (indent : ℕ) (rest : List Line) (line : Line) (deeper next : List Line) : Type 0 where
  pub first : blocks indent rest ≡ block line deeper ∷ blocks indent next
  pub none : deeper_than indent next ≡ []

block_first : (indent : ℕ) (l : Line) (ls : List Line) → indent ≤ l.indent → deeper_than indent (l ∷ ls) ≡ []
    → blocks indent (l ∷ ls) ≡ block l (deeper_than indent ls) ∷ blocks indent ls
block_first indent l ls w e = grind (arith, common_steps)

-- the line at the front and the deeper ones after it are the first block
pub lead_block : (rest : List Line) (line : Line) (k : ℕ) (deeper next : List Line) → 1 ≤ length rest
    → line ≡ get_or rest 0 line
    → k ≡ prefix_len (λ x. nat_lt 0 x.indent) (take (length rest - 1) (drop 1 rest))
    → deeper ≡ take k (take (length rest - 1) (drop 1 rest))
    → next ≡ drop k (take (length rest - 1) (drop 1 rest)) → deeper_than 0 rest ≡ []
    → LeadsBlock 0 rest line deeper next
lead_block [] line k deeper next h f e d n none = absurd (omega arith)
lead_block (l ∷ ls) line k deeper next h f e d n none =
    let t = take_rest (l ∷ ls) 1 in
    let count : k ≡ prefix_len (λ x. nat_lt 0 x.indent) ls = rw t at e in
    let s = skip_deeper 0 ls in
    let inner : deeper ≡ deeper_than 0 ls = rw (t, count) at d in
    let after : next ≡ drop (prefix_len (λ x. nat_lt 0 x.indent) ls) ls = rw (t, count) at n in
    record {
      first = rw (inner, after, s.0, f) (block_first 0 l ls (omega arith) none);
      none = rw after s.1;
    }

-- what the first block adds
pub next_refused : (rest next : List Line) (line : Line) (deeper : List Line) → LeadsBlock 0 rest line deeper next
    → deeper_than 0 rest ≡ []
    → project_refused rest ≡ block_refused (block line deeper) ++ project_refused next
next_refused rest next line deeper h none = rw (none, h.none, h.first) refl

pub next_files : (rest next : List Line) (line : Line) (deeper : List Line) → LeadsBlock 0 rest line deeper next
    → project_files rest ≡ block_files (block line deeper) ++ project_files next
next_files rest next line deeper h = rw h.first refl

pub first_stays : (e : ProjectError) (refused more : List ℕ) → NamesFirst e refused → NamesFirst e (refused ++ more)
first_stays (ProjectSyntax line) [] more h = absurd (grind arith)
first_stays (ProjectSyntax line) (n ∷ ns) more h = h
first_stays NoMemory refused more h = tt
