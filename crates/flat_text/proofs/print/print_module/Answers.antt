use Rattle.flat_text.proofs.ModuleLemmas.{printed}
use Rattle.flat_text.proofs.print.print_module.Goals as goal

pub returns : goal.returns
returns c =
    printed _ _ _ _ _ _ _ _ _ _ _ c.new-out.ensures.items c.as_slice.ensures c.as_slice-2.ensures c.as_slice-3.ensures
    c.in_ok-push_head.ensures c.in_ok-push_import.ensures c.in_ok-push_imports.ensures c.in_ok-push_lines.ensures
    c.in_ok-extend_from_slice.ensures.items c.from_vec.ensures
