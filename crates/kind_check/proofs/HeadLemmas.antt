-- What a declaration's own function knows, brought to the form of the lemmas on declarations.
use Rattle.std.proofs.Common.{◌≡◌, ℕ, ◌+◌, ◌≤◌, List, length, refl, sym, ap, ap₂, subst, ◌∙◌, arith}
use Rattle.bp_base.specs.Texts.{Text}
use Rattle.hs_core.specs.Types.{count, TypeTerm}
use Rattle.hs_core.specs.declared.tree.Written.{Written}
use Rattle.type_terms.specs.Terms.{var}
use Rattle.type_unify.specs.Types.{Plain, Bound}
use Rattle.kind_check.specs.Forms.{Equated, NotEqual, IsForm}
use Rattle.kind_check.specs.Scopes.{variables_under}
use Rattle.kind_check.specs.Walks.{Imposes, NoGuess, fits_under, stars, head}
use Rattle.kind_check.specs.declared.scope.GroupDecl.{GroupDecl}
use Rattle.kind_check.specs.declared.scope.Known.{Known}
use Rattle.kind_check.specs.Scopes.{names_under}
use Rattle.kind_check.proofs.ScopeLemmas.{count-length}
use Rattle.kind_check.proofs.DeclareLemmas.{IsForm-head}

-- a declaration's unknowns: its parameters' stand from one on, and what follows is free
pub record Begun (ps own : List Text) (many start first next : ℕ) : Type 0 where
  pub names : ps ≡ own
  pub counted : many ≡ length ps
  pub begins : first ≡ start
  pub free : next ≡ first + many

pub begun : (ps own : List Text) (start first next : ℕ) → ps ≡ own → first ≡ start → next ≡ start + length ps
    → Begun ps own (length ps) start first next
begun ps own start first next e f n = record { names = e; counted = refl; begins = f; free = omega (arith, f, n) }

-- behind the unknown of a synonym's result
pub begun_behind : (ps own : List Text) (start middle first next : ℕ) → ps ≡ own → middle ≡ start + 1 → first ≡ middle
    → next ≡ middle + length ps → Begun ps own (length ps) (start + 1) first next
begun_behind ps own start middle first next e m f n =
    record { names = e; counted = refl; begins = f ∙ m; free = omega (arith, f, n) }

pub many_is : (ps own : List Text) (many start first next : ℕ) → Begun ps own many start first next → many ≡ count own
many_is ps own many start first next b = b.counted ∙ sym (count-length ps) ∙ ap count b.names

pub next_is : (ps own : List Text) (many start first next : ℕ) → Begun ps own many start first next
    → next ≡ start + count own
next_is ps own many start first next b = b.free ∙ ap₂ (λ x y. x + y) b.begins (many_is ps own many start first next b)

pub head_is : (ps own : List Text) (many start first next : ℕ) (h e r : Plain) → Begun ps own many start first next
    → h ≡ head first many e → e ≡ r → h ≡ head start (count own) r
head_is ps own many start first next h e r b p q =
    p ∙ ap (λ x. head x many e) b.begins ∙ ap (λ x. head start x e) (many_is ps own many start first next b)
    ∙ ap (head start (count own)) q

pub equated_head : (ps own : List Text) (many start first next i : ℕ) (u h e r : Plain) (old mid : List Bound)
    → Begun ps own many start first next → u ≡ var i → h ≡ head first many e → e ≡ r
    → Equated old mid next u h → Equated old mid (start + count own) (var i) (head start (count own) r)
equated_head ps own many start first next i u h e r old mid b x p q s =
    subst (λ y. Equated old mid (start + count own) (var i) y) (head_is ps own many start first next h e r b p q)
    (subst (λ y. Equated old mid (start + count own) y h) x
    (subst (λ y. Equated old mid y u h) (next_is ps own many start first next b) s))

pub unequal_head : (ps own : List Text) (many start first next i : ℕ) (u h e r : Plain) (old : List Bound)
    → Begun ps own many start first next → u ≡ var i → h ≡ head first many e → e ≡ r
    → NotEqual old u h → NotEqual old (var i) (head start (count own) r)
unequal_head ps own many start first next i u h e r old b x p q s =
    subst (λ y. NotEqual old (var i) y) (head_is ps own many start first next h e r b p q)
    (subst (λ y. NotEqual old y h) x s)

pub form_head : (ps own : List Text) (many start first next : ℕ) (h e : Plain) → Begun ps own many start first next
    → h ≡ head first many e → IsForm next e → IsForm next h
form_head ps own many start first next h e b p f = let l : first + many ≤ next = omega (arith, b.free) in subst
    (IsForm next) (sym p) (IsForm-head next first many e l f)

pub stars_begun : (known : List Known) (ds : List GroupDecl) (terms : List Text → List TypeTerm) (ps own : List Text)
    (many start first next last : ℕ) (mid new : List Bound) → Begun ps own many start first next
    → Imposes (stars (names_under known ds) (variables_under first (count ps)) (terms ps)) mid new next last
    → Imposes (stars (names_under known ds) (variables_under start (count own)) (terms own)) mid new
    (start + count own) last
stars_begun known ds terms ps own many start first next last mid new b h =
    subst (λ z. Imposes (stars (names_under known ds) (variables_under start (count own)) (terms own)) mid new z last)
    (next_is ps own many start first next b)
    (subst (λ x. Imposes (stars (names_under known ds) (variables_under x (count own)) (terms own)) mid new next last)
    b.begins
    (subst (λ xs. Imposes (stars (names_under known ds) (variables_under first (count xs)) (terms xs))
    mid new next last) b.names h))

pub no_stars_begun : (known : List Known) (ds : List GroupDecl) (terms : List Text → List TypeTerm)
    (ps own : List Text) (many start first next : ℕ) (mid : List Bound) → Begun ps own many start first next
    → NoGuess (stars (names_under known ds) (variables_under first (count ps)) (terms ps)) mid
    → NoGuess (stars (names_under known ds) (variables_under start (count own)) (terms own)) mid
no_stars_begun known ds terms ps own many start first next mid b h =
    subst (λ x. NoGuess (stars (names_under known ds) (variables_under x (count own)) (terms own)) mid) b.begins
    (subst (λ xs. NoGuess (stars (names_under known ds) (variables_under first (count xs)) (terms xs)) mid) b.names h)

pub body_begun : (known : List Known) (ds : List GroupDecl) (t : Written) (ps own : List Text)
    (many start first next last : ℕ) (k r : Plain) (mid new : List Bound) → Begun ps own many start first next → k ≡ r
    → Imposes (fits_under known ds ps first t k) mid new next last
    → Imposes (fits_under known ds own start t r) mid new (start + count own) last
body_begun known ds t ps own many start first next last k r mid new b e h =
    subst (λ y. Imposes (fits_under known ds own start t y) mid new (start + count own) last) e
    (subst (λ z. Imposes (fits_under known ds own start t k) mid new z last) (next_is ps own many start first next b)
    (subst (λ x. Imposes (fits_under known ds own x t k) mid new next last) b.begins
    (subst (λ xs. Imposes (fits_under known ds xs first t k) mid new next last) b.names h)))

pub no_body_begun : (known : List Known) (ds : List GroupDecl) (t : Written) (ps own : List Text)
    (many start first next : ℕ) (k r : Plain) (mid : List Bound) → Begun ps own many start first next → k ≡ r
    → NoGuess (fits_under known ds ps first t k) mid → NoGuess (fits_under known ds own start t r) mid
no_body_begun known ds t ps own many start first next k r mid b e h =
    subst (λ y. NoGuess (fits_under known ds own start t y) mid) e
    (subst (λ x. NoGuess (fits_under known ds own x t k) mid) b.begins
    (subst (λ xs. NoGuess (fits_under known ds xs first t k) mid) b.names h))
