-- The status numbers and the notes.
use Rattle.std.specs.Prelude.{ℕ, List, [], ◌∷◌, ◌++◌, codes}
use Rattle.std.specs.Fmt.{decimal}
use Rattle.bp_base.specs.Codes.{code_number, code_name, limit_name}
use Rattle.bp_base.specs.declared.defect.Defect.{Defect}
use Rattle.bp_base.specs.declared.defect.LimitHit.{LimitHit}
use Rattle.bp_base.specs.declared.defect.Item.{Item}
use Rattle.bp_base.specs.declared.defect.Item.TheVariants.{Nothing, Offset, Line, Named, Old}
use Rattle.backpack_run.specs.declared.report.Status.{Status}
use Rattle.backpack_run.specs.declared.report.Status.TheVariants.{Done, Refused, Usage, ReadFault, StoreFault}
use Rattle.backpack_run.specs.declared.report.Status.TheVariants.{WriteFault, NoMemory, Limit}

-- the exit status
abbrev pub status_number : Status → ℕ
status_number Done = 0
status_number (Refused d) = 1
status_number Usage = 2
status_number ReadFault = 3
status_number StoreFault = 4
status_number WriteFault = 5
status_number NoMemory = 6
status_number (Limit hit) = 7

-- a name, or a dash where there is none
abbrev pub name_or_dash : List ℕ → List ℕ
name_or_dash [] = codes "-"
name_or_dash (b ∷ bs) = b ∷ bs

abbrev pub item_text : Item → List ℕ
item_text Nothing = codes "-"
item_text (Offset at) = decimal at
item_text (Line number) = decimal number
item_text (Named occ) = name_or_dash occ
item_text (Old dep wanted present) = dep ++ codes " " ++ decimal wanted ++ codes " " ++ decimal present

abbrev pub code_text : Defect → List ℕ
code_text d = codes "refused " ++ decimal (code_number d.code) ++ codes " " ++ code_name d.code

abbrev pub place_text : Defect → List ℕ
place_text d = codes " " ++ name_or_dash d.place.component ++ codes " " ++ name_or_dash d.place.module

abbrev pub defect_note : Defect → List ℕ
defect_note d = code_text d ++ place_text d ++ codes " " ++ item_text d.place.item ++ codes "\n"

abbrev pub usage_note : List ℕ
usage_note = codes "usage: backpack build|check|link|show|units NAME or sample N\n"

abbrev pub limit_note : LimitHit → List ℕ
limit_note hit = codes "limit " ++ limit_name hit.which ++ codes " " ++ decimal hit.count ++ codes "\n"

-- the line for a status
abbrev pub note_of : Status → List ℕ
note_of Done = []
note_of (Refused d) = defect_note d
note_of Usage = usage_note
note_of ReadFault = codes "fault read\n"
note_of StoreFault = codes "fault store\n"
note_of WriteFault = codes "fault write\n"
note_of NoMemory = codes "no memory\n"
note_of (Limit hit) = limit_note hit
