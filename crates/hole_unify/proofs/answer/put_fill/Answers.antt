use Rattle.std.proofs.Common.{◌≡◌, false, drop, ap, sym, ◌∙◌, subst, arith}
use Rattle.std.specs.List.{insert}
use Rattle.ident_table.specs.declared.node.NumberFill.{NumberFill}
use Rattle.hole_unify.specs.Stages.{number_place, is_first, Puts}
use Rattle.hole_unify.proofs.FillingLemmas.{place-within, puts-known, puts-new}
use Rattle.hole_unify.proofs.answer.put_fill.Goals as goal

pub returns-then-is_hole_at : goal.returns-then-is_hole_at
returns-then-is_hole_at c =
    puts-known (record { hole = c.args.hole.now; ident = c.args.ident }) c.args.fills.now.items c.requires
    ((λ w. is_first c.args.hole.now (drop (number_place c.args.hole.now (sym c.as_slice.ensures.value w))
    (sym c.as_slice-2.ensures.value w)))
    ∙ ap (λ n. is_first c.args.hole.now (drop n c.as_slice-2.result.now)) (sym c.place_of-at.ensures)
    ∙ sym c.is_hole_at.ensures ∙ c.if-is_hole_at.true)

pub insert-requires : goal.insert-requires
insert-requires c = let a = place-within c.args.hole.now c.as_slice.result.now in
    omega (arith, a, c.place_of-at.ensures, c.as_slice.ensures.len)

pub returns : goal.returns
returns c =
    let fill : NumberFill = record { hole = c.args.hole.now; ident = c.args.ident } in
    let none : is_first c.args.hole.now (drop (number_place c.args.hole.now c.args.fills.now.items)
    c.args.fills.now.items) ≡ false =
    (λ w. is_first c.args.hole.now (drop (number_place c.args.hole.now (sym c.as_slice.ensures.value w))
    (sym c.as_slice-2.ensures.value w)))
    ∙ ap (λ n. is_first c.args.hole.now (drop n c.as_slice-2.result.now)) (sym c.place_of-at.ensures)
    ∙ sym c.is_hole_at.ensures ∙ c.if-is_hole_at.false in
    let at : c.place_of-at.result ≡ number_place c.args.hole.now c.args.fills.now.items = c.place_of-at.ensures
    ∙ ap (number_place c.args.hole.now) c.as_slice.ensures.value in
    let is = c.in_ok-insert.ensures.items ∙ (λ w. insert c.args.fills.now.items (at w)
    (record { hole = c.in_ok-copied.ensures w; ident = c.args.ident })) in
    subst (Puts fill c.args.fills.now.items) (sym is) (puts-new fill c.args.fills.now.items c.requires none)
