-- What a reader of a kind of tree answers.
use Rattle.std.specs.Prelude.{ℕ, List, Result, Ok, Err}
use Rattle.hs_forms.specs.Answers.{Sort, Accepts, Fails}
use Rattle.hs_forms.specs.Forms.{item_form}
use Rattle.hs_forms.specs.Productions.{Chain}
use Rattle.hs_forms.specs.declared.fault.Fault.{Fault}
use Rattle.hs_tokens.specs.declared.terminal.Terminal.{Terminal}
use Rattle.hs_readers.specs.declared.read.Read.{Read}

-- A tree was read from the front of the terminals.
abbrev pub Has : {T : Type 0} → Sort Terminal T → List Terminal → Read T → Type 0
Has sort ts r = Accepts sort.form sort.depth ts r.tree r.rest.now r.depth

-- The contract of every reader: the tree at the front, or where the terminals begin no tree.
abbrev pub Answers : {T : Type 0} → Sort Terminal T → List Terminal → Result (Read T) Fault → Type 0
Answers sort ts (Ok r) = Has sort ts r
Answers sort ts (Err e) = Fails sort.form ts e

-- The head of a chain, an item behind so many others, and the whole.
abbrev pub head_sort : {K T H X : Type 0} → Chain K T H X → Sort K H
head_sort c = record { form = c.head; depth = c.head_depth }

abbrev pub item_sort : {K T H X : Type 0} → Chain K T H X → ℕ → Sort K X
item_sort c n = record { form = item_form c.items c.item c.inner n; depth = c.item_depth }

abbrev pub whole_sort : {K T H X : Type 0} → Chain K T H X → (T → ℕ) → Sort K T
whole_sort c depth = record { form = c.form; depth = depth }
