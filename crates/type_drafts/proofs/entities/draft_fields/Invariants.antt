use Rattle.std.proofs.Common.{◌≡◌, take, map}
use Rattle.type_drafts.specs.Drafts.{draft_field}
use Rattle.type_drafts.proofs.entities.draft_fields.Given as goal

abbrev pub invariant-loop-index : goal.invariant-loop-index
invariant-loop-index l = l.all ≡ map (draft_field l.params) (take l.index l.fields)
