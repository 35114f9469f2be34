-- Searching the locals that are seen.
use Rattle.std.proofs.Common.{◌≡◌, refl, sym, ap, subst, ◌∙◌, inl, inr, ℕ, ◌+◌, ◌<◌, ◌≤◌, List, [], ◌∷◌, ◌++◌, take}
use Rattle.std.proofs.Common.{drop}
use Rattle.std.proofs.Common.{get_or}
use Rattle.std.proofs.lemmas.List.{take_more, take_all, take-append-drop, drop_more}
use Rattle.std.specs.Prelude.{length, ◌≢◌}
use Rattle.bp_base.specs.Texts.{Text}
use Rattle.type_equations.specs.declared.equations.Binder.{Binder}
use Rattle.expression_demands.specs.Expressions.{IsNewest, IsUnbound}

newest-behind : (x : Text) (b : Binder) (front rest : List Binder) → IsUnbound x front → b.name ≡ x
    → IsNewest x b.unknown (front ++ b ∷ rest)
newest-behind x b [] rest h e = inl (e, refl)
newest-behind x b (a ∷ front) rest h e = inr (h.0, newest-behind x b front rest h.1 e)

unbound-more : (x : Text) (b : Binder) (front : List Binder) → IsUnbound x front → b.name ≢ x
    → IsUnbound x (front ++ b ∷ [])
unbound-more x b [] h e = (e, tt)
unbound-more x b (a ∷ front) h e = (h.0, unbound-more x b front h.1 e)

pub newest_at : (env : List Binder) (x : Text) (i : ℕ) (b : Binder) → i < length env → b ≡ get_or env i b → b.name ≡ x
    → IsUnbound x (take i env) → IsNewest x b.unknown env
newest_at env x i b l e n h = subst (IsNewest x b.unknown)
    (ap (λ r. take i env ++ r) (ap (λ y. y ∷ drop (i + 1) env) e ∙ sym (drop_more env i b l)) ∙ take-append-drop i env)
    (newest-behind x b (take i env) (drop (i + 1) env) h n)

pub unbound_next : (env : List Binder) (x : Text) (i : ℕ) (b : Binder) → i < length env → b ≡ get_or env i b
    → b.name ≢ x → IsUnbound x (take i env) → IsUnbound x (take (i + 1) env)
unbound_next env x i b l e n h = subst (IsUnbound x)
    (sym (take_more env i b l ∙ ap (λ y. take i env ++ y ∷ []) (sym e))) (unbound-more x b (take i env) h n)

pub unbound_all : (env : List Binder) (x : Text) (i : ℕ) → length env ≤ i → IsUnbound x (take i env) → IsUnbound x env
unbound_all env x i l h = subst (IsUnbound x) (take_all i env l) h
