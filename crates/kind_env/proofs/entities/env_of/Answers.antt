use Rattle.std.proofs.Common.{ap, ◌++◌}
use Rattle.std.specs.Prelude.{flat_map}
use Rattle.hs_core.specs.Globals.{known_names as known_everywhere, declared_by, noted_by, names_of}
use Rattle.kind_env.proofs.ListLemmas.{adds_both, adds_same, listed_all, listed_kinds, listed_synonyms}
use Rattle.kind_env.proofs.entities.env_of.Goals as goal

pub returns-clause-kinds : goal.returns-clause-kinds
returns-clause-kinds c n k =
    listed_kinds (known_everywhere ++ names_of c.args.entities.now) c.add_all_noted.new.names n k
    (listed_all (known_everywhere ++ names_of c.args.entities.now) c.new-names.result c.add_all_noted.new.names
    (adds_both known_everywhere (names_of c.args.entities.now) _ _ _ c.in_ok-add_known.ensures
    (adds_both (flat_map declared_by c.args.entities.now) (flat_map noted_by c.args.entities.now) _ _ _
    (adds_same _ _ _ _ (ap (flat_map declared_by) c.as_slice.ensures) c.in_ok-add_all_declared.ensures)
    (adds_same _ _ _ _ (ap (flat_map noted_by) c.as_slice-2.ensures) c.in_ok-add_all_noted.ensures)))
    c.new-names.ensures)

pub returns-clause-synonyms : goal.returns-clause-synonyms
returns-clause-synonyms c n =
    listed_synonyms (known_everywhere ++ names_of c.args.entities.now) c.add_all_noted.new.names n
    (listed_all (known_everywhere ++ names_of c.args.entities.now) c.new-names.result c.add_all_noted.new.names
    (adds_both known_everywhere (names_of c.args.entities.now) _ _ _ c.in_ok-add_known.ensures
    (adds_both (flat_map declared_by c.args.entities.now) (flat_map noted_by c.args.entities.now) _ _ _
    (adds_same _ _ _ _ (ap (flat_map declared_by) c.as_slice.ensures) c.in_ok-add_all_declared.ensures)
    (adds_same _ _ _ _ (ap (flat_map noted_by) c.as_slice-2.ensures) c.in_ok-add_all_noted.ensures)))
    c.new-names.ensures)
