use Rattle.std.proofs.Common.{ap, ◌++◌, ◌∙◌, subst, sym, ◌≡◌}
use Rattle.std.specs.Prelude.{flat_map}
use Rattle.hs_core.specs.Globals.{known_names as known_everywhere, declared_by, globals_of, kind_in, synonym_in}
use Rattle.hs_core.specs.WellTyped.{globals_in}
use Rattle.kind_check.specs.Answers.{known_synonyms}
use Rattle.kind_env.specs.Listings.{known_kind}
use Rattle.kind_env.proofs.ListLemmas.{adds_both, adds_same, listed_all, kind_in_front, synonym_in_front, kind_known}
use Rattle.kind_env.proofs.entities.env_within.Goals as goal

pub returns-clause-kinds : goal.returns-clause-kinds
returns-clause-kinds c n =
    ap (λ z. known_kind z n) c.in_ok-append.ensures
    ∙ kind_in_front (known_everywhere ++ flat_map declared_by c.args.own.now) c.add_all_declared.new.names
    c.in_ok-seen.seen.names (globals_of c.args.outside.now) n
    (listed_all (known_everywhere ++ flat_map declared_by c.args.own.now) c.new-names.result
    c.add_all_declared.new.names
    (adds_both known_everywhere (flat_map declared_by c.args.own.now) _ _ _ c.in_ok-add_known.ensures
    (adds_same _ _ _ _ (ap (flat_map declared_by) c.as_slice.ensures) c.in_ok-add_all_declared.ensures))
    c.new-names.ensures)
    (kind_known c.in_ok-seen.seen.names n (kind_in (globals_of c.args.outside.now n))
    (λ k. c.in_ok-seen.ensures.kinds n k))

pub returns-clause-synonyms : goal.returns-clause-synonyms
returns-clause-synonyms c n =
    ap (λ z. known_synonyms z n) c.in_ok-append.ensures
    ∙ synonym_in_front (known_everywhere ++ flat_map declared_by c.args.own.now) c.add_all_declared.new.names
    c.in_ok-seen.seen.names (globals_of c.args.outside.now) n
    (listed_all (known_everywhere ++ flat_map declared_by c.args.own.now) c.new-names.result
    c.add_all_declared.new.names
    (adds_both known_everywhere (flat_map declared_by c.args.own.now) _ _ _ c.in_ok-add_known.ensures
    (adds_same _ _ _ _ (ap (flat_map declared_by) c.as_slice.ensures) c.in_ok-add_all_declared.ensures))
    c.new-names.ensures) (c.in_ok-seen.ensures.synonyms n)
