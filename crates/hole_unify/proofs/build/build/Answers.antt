use Rattle.std.proofs.Common.{◌≡◌, ℕ, List, ◌++◌, length, take, drop, refl, sym, ap, ◌∙◌, subst, arith}
use Rattle.std.specs.Prelude.{Option, None, replicate}
use Rattle.std.proofs.Math.Seq.{take-append_seam}
use Rattle.std.proofs.lemmas.List.{length-replicate}
use Rattle.hole_unify.specs.Table.{nodes_of}
use Rattle.hole_unify.specs.Stages.{IsStage}
use Rattle.hole_unify.specs.Build.{built_of, first_ready, AreBuiltBelow}
use Rattle.hole_unify.proofs.StageLemmas.{first-stage, first-stands, moved-follows}
use Rattle.hole_unify.proofs.build.build.Goals as goal

pub build_all-requires : goal.build_all-requires
build_all-requires c =
    subst (IsStage c.args.table.now c.args.classes.now)
    (sym (c.as_mut_slice.ensures.value ∙ c.in_ok-built.ensures
    ∙ ap (λ n. replicate n None) (c.len.ensures.len ∙ sym c.requires.length)))
    (first-stage c.args.table.now c.args.classes.now c.len.ensures.table (omega arith) c.requires.classes)

refilled : (n : ℕ) (new items : List (Option ℕ)) → n ≡ length new → take n (new ++ drop (length new) items) ≡ new
refilled n new items is = ap (λ k. take k (new ++ drop (length new) items)) is
    ∙ take-append_seam new (drop (length new) items)

-- what is built after all
abbrev after : goal.In_ok-build_all → List (Option ℕ)
after c = take c.in_ok-built.built.len (c.build_all.new.built
    ++ drop (length c.build_all.new.built) c.in_ok-built.built.items)

same : (c : goal.In_ok-build_all) → after c ≡ c.build_all.new.built
same c =
    let len : c.in_ok-built.built.len ≡ length c.args.classes.now = c.in_ok-built.built.ok.0
    ∙ ap length c.in_ok-built.ensures ∙ length-replicate {A = Option ℕ} c.len.result None ∙ c.len.ensures.len
    ∙ sym c.requires.length in
    refilled c.in_ok-built.built.len c.build_all.new.built c.in_ok-built.built.items (len
    ∙ sym c.in_ok-build_all.ensures.stage.sized)

pub returns-clause-below : goal.returns-clause-below
returns-clause-below c = subst (AreBuiltBelow (length c.build_all.new.table))
    (sym (same c)) c.in_ok-build_all.ensures.stage.below

pub returns-clause-stands : goal.returns-clause-stands
returns-clause-stands c =
    first-stands c.args.classes.now c.args.table.now c.build_all.new.table c.as_mut_slice.result.now (after c)
    (c.as_mut_slice.ensures.value ∙ c.in_ok-built.ensures
    ∙ ap (λ n. replicate n None) (c.len.ensures.len ∙ sym c.requires.length))
    (moved-follows c.args.classes.now c.args.table.now c.build_all.new.table c.build_all.new.table
    c.as_mut_slice.result.now c.build_all.new.built (after c) refl (same c) c.in_ok-build_all.ensures.follows)

pub returns-clause-ends : goal.returns-clause-ends
returns-clause-ends c =
    ap (λ l. first_ready (nodes_of c.args.table.now c.args.classes.now) (built_of c.build_all.new.table l)
    (nodes_of c.args.table.now c.args.classes.now)) (same c) ∙ c.in_ok-build_all.ensures.ends
