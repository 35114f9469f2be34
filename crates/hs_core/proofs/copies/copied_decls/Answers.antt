use Rattle.std.proofs.Common.{ap, ◌∙◌}
use Rattle.std.specs.Prelude.{map}
use Rattle.hs_core.specs.Rename.{renamed_decl}
use Rattle.hs_core.proofs.TreesNothingLemmas.{decl_list-same}
use Rattle.hs_core.proofs.copies.copied_decls.Goals as goal

pub returns : goal.returns
returns c = c.in_ok-copy.ensures ∙ ap (λ by. map (λ d. renamed_decl d by) c.args.decls.now) c.no_renaming-by.ensures
    ∙ decl_list-same c.args.decls.now
