-- The tokens of a list as the trees have it.
use Rattle.std.proofs.Common.{◌≡◌, Bool, true, false, List, [], ◌∷◌, ◌++◌, refl, ap, ◌∙◌, append_assoc}
use Rattle.std.specs.Prelude.{map, flat_map}
use Rattle.hs_tokens.specs.declared.terminal.Terminal.TheVariants as t
use Rattle.hs_modules.specs.ModuleTokens.{listed}
use Rattle.hs_headers.specs.Lists.{Ts, more_tokens, tail_tokens}

parts_behind : {X : Type 0} (f : X → Ts) (xs : List X) →
    flat_map (λ part. t.Comma ∷ part) (map f xs) ++ (t.Comma ∷ t.RightParen ∷ []) ≡ more_tokens f xs true
parts_behind f [] = refl
parts_behind f (y ∷ ys) =
    ap (λ l. t.Comma ∷ l) (append_assoc (f y) (flat_map (λ part. t.Comma ∷ part) (map f ys)) (t.Comma ∷ t.RightParen
    ∷ [])
    ∙ ap (λ l. f y ++ l) (parts_behind f ys))

parts_shut : {X : Type 0} (f : X → Ts) (xs : List X) →
    flat_map (λ part. t.Comma ∷ part) (map f xs) ++ (t.RightParen ∷ []) ≡ more_tokens f xs false
parts_shut f [] = refl
parts_shut f (y ∷ ys) =
    ap (λ l. t.Comma ∷ l) (append_assoc (f y) (flat_map (λ part. t.Comma ∷ part) (map f ys)) (t.RightParen ∷ [])
    ∙ ap (λ l. f y ++ l) (parts_shut f ys))

-- a list as the trees have it, with its `(`
pub listed_is : {X : Type 0} (f : X → Ts) (xs : List X) (b : Bool) →
    listed (map f xs) b ≡ t.LeftParen ∷ tail_tokens false f xs b
listed_is f [] true = refl
listed_is f [] false = refl
listed_is f (y ∷ ys) true =
    ap (λ l. t.LeftParen ∷ l)
    (append_assoc (f y) (flat_map (λ part. t.Comma ∷ part) (map f ys)) (t.Comma ∷ t.RightParen ∷ [])
    ∙ ap (λ l. f y ++ l) (parts_behind f ys))
listed_is f (y ∷ ys) false =
    ap (λ l. t.LeftParen ∷ l)
    (append_assoc (f y) (flat_map (λ part. t.Comma ∷ part) (map f ys)) (t.RightParen ∷ [])
    ∙ ap (λ l. f y ++ l) (parts_shut f ys))
