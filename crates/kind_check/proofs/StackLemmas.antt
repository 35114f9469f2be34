-- Kinds on a stack, as nodes of types spell them.
use Rattle.std.proofs.Common.{◌≡◌, ℕ, zero, suc, ◌+◌, List, [], ◌∷◌, ◌++◌, length, drop, refl, sym, ap, ap₂}
use Rattle.std.proofs.Common.{◌∙◌, arith}
use Rattle.std.specs.Prelude.{map}
use Rattle.std.proofs.lemmas.List.{reverse-append, map-append, drop_all}
use Rattle.bp_base.specs.declared.ty.Kind.{Kind}
use Rattle.hs_core.specs.Types.{KindTerm, star, arrow, kind_term}
use Rattle.type_unify.specs.Types.{Plain}
use Rattle.type_unify.specs.Written.{read, read_node, joined, joined_back as joined_types_back, AreNodesOf}
use Rattle.type_unify.specs.declared.term.Node.{Node}
use Rattle.type_unify.specs.declared.term.Node.TheVariants.{Flex, Rigid, Con, App, Swapped}
use Rattle.kind_check.specs.Forms.{Guess, decided}
use Rattle.kind_check.specs.Scopes.{guessed}
use Rattle.kind_check.specs.Stacks.{stacked, joined_kinds, joined_back, kinds_after, kinds_read}

-- one more kind on top
pub stacked-push : (ks : List Kind) (k : Kind) → stacked (ks ++ k ∷ []) ≡ kind_term k ∷ stacked ks
stacked-push ks k = ap (map kind_term) (reverse-append ks (k ∷ []))

-- ---- what the nodes of a type spell

decided-joined : (ts : List Plain) → map decided (joined ts) ≡ joined_kinds (map decided ts)
decided-joined [] = refl
decided-joined (a ∷ []) = refl
decided-joined (a ∷ f ∷ ts) = refl

decided-joined_back : (ts : List Plain) → map decided (joined_types_back ts) ≡ joined_back (map decided ts)
decided-joined_back [] = refl
decided-joined_back (f ∷ []) = refl
decided-joined_back (f ∷ a ∷ ts) = refl

decided-node : (n : Node) (ts : List Plain) → map decided (read_node n ts) ≡ kinds_after n (map decided ts)
decided-node (Flex i) ts = refl
decided-node (Rigid i) ts = refl
decided-node (Con n k) ts = refl
decided-node App ts = decided-joined ts
decided-node Swapped ts = decided-joined_back ts

pub decided-read : (ts : List Plain) (ns : List Node) → map decided (read ts ns) ≡ kinds_read (map decided ts) ns
decided-read ts [] = refl
decided-read ts (n ∷ ns) =
    decided-read (read_node n ts) ns ∙ ap (λ ks. kinds_read ks ns) (decided-node n ts)

-- all nodes of a type spell its kind
pub read_kind : (ns : List Node) (t : Plain) → AreNodesOf ns t → kinds_read [] ns ≡ decided t ∷ []
read_kind ns t e = sym (decided-read [] ns) ∙ ap (map decided) (e [])

-- after all nodes the stack is that of the type's kind
pub all_read : (kinds : List Kind) (i : ℕ) (ns : List Node) (t : Plain) → i ≡ length ns
    → kinds_read (stacked kinds) (drop i ns) ≡ kinds_read [] ns → AreNodesOf ns t → stacked kinds ≡ decided t ∷ []
all_read kinds i ns t e h a =
    sym (ap (kinds_read (stacked kinds)) (drop_all i ns (omega (arith, e)))) ∙ h ∙ read_kind ns t a

-- the stack in the end has the kind alone
pub top_kind : (old new : List Kind) (k : Kind) (j : KindTerm) → old ≡ new ++ k ∷ [] → stacked old ≡ j ∷ []
    → kind_term k ≡ j
top_kind old new k j e h = ap first (sym (stacked-push new k) ∙ sym (ap stacked e) ∙ h)
  where
    first : List KindTerm → KindTerm
    first [] = star
    first (x ∷ xs) = x

pub no_top : (old : List Kind) (j : KindTerm) → old ≡ [] → stacked old ≡ j ∷ [] → star ≡ j
no_top old j e h = ap first (sym (ap stacked e) ∙ h)
  where
    first : List KindTerm → KindTerm
    first [] = star
    first (x ∷ xs) = x

-- ---- kinds of several unknowns

pub guessed-push : (g : Guess) (i m : ℕ) → guessed g i (suc m) ≡ guessed g i m ++ g (i + m) ∷ []
guessed-push g i zero = let e : i ≡ i + 0 = omega arith in ap (λ j. g j ∷ []) e
guessed-push g i (suc m) =
    let e : suc i + m ≡ i + suc m = omega arith in
    ap (λ xs. g i ∷ xs) (guessed-push g (suc i) m ∙ ap (λ j. guessed g (suc i) m ++ g j ∷ []) e)

-- one more kind behind those of the unknowns so far
pub settled-push : (g : Guess) (i : ℕ) (old new : List Kind) (k : Kind) → new ≡ old ++ k ∷ [] → kind_term k ≡ g i
    → map kind_term old ≡ guessed g 0 i → map kind_term new ≡ guessed g 0 (i + 1)
settled-push g i old new k e f h =
    let z : 0 + i ≡ i = omega arith in
    let s : suc i ≡ i + 1 = omega arith in
    ap (map kind_term) e ∙ map-append kind_term old (k ∷ []) ∙ ap₂ (λ xs x. xs ++ x ∷ []) h (f ∙ ap g (sym z))
    ∙ sym (guessed-push g 0 i) ∙ ap (guessed g 0) s
