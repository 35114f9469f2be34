-- One context more, and one less.
use Rattle.std.proofs.Common.{◌≡◌, List, [], ◌∷◌, ◌++◌, refl, sym, ap, subst, ◌∙◌}
use Rattle.haskell_layout.specs.declared.stack.Item.{Item}
use Rattle.haskell_layout.specs.declared.stack.Context.{Context}
use Rattle.haskell_layout.specs.Stack.{reach_of}
use Rattle.haskell_layout.specs.Contexts.{opened, Kept}

-- the last context is the innermost item
pub opened-last : (outer : List Item) (contexts : List Context) (last : Context) →
    opened outer (contexts ++ last ∷ []) ≡ last.item ∷ opened outer contexts
opened-last outer [] last = refl
opened-last outer (context ∷ contexts) last = opened-last (context.item ∷ outer) contexts last

pub kept-more : (outer : List Item) (contexts : List Context) (last : Context) → Kept outer contexts →
    last.reach ≡ reach_of (last.item ∷ opened outer contexts) → Kept outer (contexts ++ last ∷ [])
kept-more outer [] last kept is = (is, tt)
kept-more outer (context ∷ contexts) last kept is = (kept.0, kept-more (context.item ∷ outer) contexts last kept.1 is)

pub kept-before : (outer : List Item) (contexts : List Context) (last : Context) → Kept outer (contexts ++ last ∷ [])
    → Kept outer contexts
kept-before outer [] last kept = tt
kept-before outer (context ∷ contexts) last kept = (kept.0, kept-before (context.item ∷ outer) contexts last kept.1)

pub kept-last : (outer : List Item) (contexts : List Context) (last : Context) → Kept outer (contexts ++ last ∷ []) →
    last.reach ≡ reach_of (last.item ∷ opened outer contexts)
kept-last outer [] last kept = kept.0
kept-last outer (context ∷ contexts) last kept = kept-last (context.item ∷ outer) contexts last kept.1

module _ (contexts before : List Context) (last : Context) (now : List Item)
    (split : contexts ≡ before ++ last ∷ []) where
  -- what is open, by the last context
  pub last_item : opened [] contexts ≡ now → now ≡ last.item ∷ opened [] before
  last_item view = sym view ∙ ap (opened []) split ∙ opened-last [] before last

  pub last_reach : Kept [] contexts → opened [] contexts ≡ now → last.reach ≡ reach_of now
  last_reach kept view = kept-last [] before last (subst (Kept []) split kept) ∙ ap reach_of (sym (last_item view))

  pub rest_kept : Kept [] contexts → Kept [] before
  rest_kept kept = kept-before [] before last (subst (Kept []) split kept)

module _ (contexts grown : List Context) (last : Context) (now : List Item) (more : grown ≡ contexts ++ last ∷ [])
    (view : opened [] contexts ≡ now) where
  pub more_kept : Kept [] contexts → last.reach ≡ reach_of (last.item ∷ now) → Kept [] grown
  more_kept kept is = subst (Kept []) (sym more) (kept-more [] contexts last kept (is
      ∙ ap (λ outer. reach_of (last.item ∷ outer)) (sym view)))

  pub more_items : opened [] grown ≡ last.item ∷ now
  more_items = ap (opened []) more ∙ opened-last [] contexts last ∙ ap (λ outer. last.item ∷ outer) view
