use Rattle.std.proofs.Common.{◌++◌, ◌+◌, ◌∷◌, [], ap, ap₂, sym, ◌∙◌, length, replicate}
use Rattle.std.proofs.lemmas.List.{append_assoc, length-append, length-replicate, replicate_more}
use Rattle.bp_base.specs.declared.ty.Kind.TheVariants.{Star}
use Rattle.type_equations.proofs.UnknownLemmas.{range-more}
use Rattle.type_equations.proofs.equations.Equations.stars.Goals as goal

pub loop-index-preserved : goal.loop-index-preserved
loop-index-preserved c =
    let old = c.args.self.now.kinds.items in
    let index = c.loop-index._index in
    let known = c.loop-index.invariant in
    let many = ap length known.1 ∙ length-append old (replicate index Star)
    ∙ ap (λ m. length old + m) (length-replicate index Star) in (
      c.in_ok-push.ensures.items
          ∙ ap₂ (λ xs x. xs ++ x ∷ []) known.0 (c.in_ok-fresh.ensures.first ∙ many)
          ∙ sym (range-more (length old) index),
      c.in_ok-fresh.ensures.kinds ∙ ap (λ z. z ++ Star ∷ []) known.1
          ∙ append_assoc old (replicate index Star) (Star ∷ [])
          ∙ ap (λ z. old ++ z) (replicate_more index Star),
      c.in_ok-fresh.ensures.same ∙ known.2,
    )
