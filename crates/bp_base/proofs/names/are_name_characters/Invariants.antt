use Rattle.std.proofs.Common.{◌≡◌, drop}
use Rattle.bp_base.specs.Names.{is_name_character}
use Rattle.std.specs.List.{list_all}
use Rattle.bp_base.proofs.names.are_name_characters.Given as goal

abbrev pub invariant-loop-b : goal.invariant-loop-b
invariant-loop-b l = list_all is_name_character (drop l.b-index l.text) ≡ list_all is_name_character l.text
