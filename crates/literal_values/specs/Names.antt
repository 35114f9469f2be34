-- The ASCII names of characters (Haskell 2010 Report, section 2.6).
use Rattle.std.specs.Prelude.{ℕ, List, Some, None, length, codes, ◌==◌, if◌then◌else◌}
use Rattle.std.specs.List.{starts_with}
use Rattle.literal_values.specs.declared.character.Item.{Item}

abbrev pub nothing : Item
nothing = record { code = None; len = 0 }

-- a name at the front with its character, or else another
abbrev pub named : List ℕ → List ℕ → ℕ → Item → Item
named bs name code other =
    if starts_with (λ a b. a == b) bs name then record { code = Some code; len = length name } else other

abbrev pub last_names : List ℕ → Item
last_names bs = named bs (codes "SUB") 26 (named bs (codes "ESC") 27 (named bs (codes "FS") 28
    (named bs (codes "GS") 29 (named bs (codes "RS") 30 (named bs (codes "US") 31 (named bs (codes "SP") 32
    (named bs (codes "DEL") 127 nothing)))))))

abbrev pub other_names : List ℕ → Item
other_names bs = named bs (codes "DC1") 17 (named bs (codes "DC2") 18 (named bs (codes "DC3") 19
    (named bs (codes "DC4") 20 (named bs (codes "NAK") 21 (named bs (codes "SYN") 22 (named bs (codes "ETB") 23
    (named bs (codes "CAN") 24 (named bs (codes "EM") 25 (last_names bs)))))))))

abbrev pub more_names : List ℕ → Item
more_names bs = named bs (codes "BS") 8 (named bs (codes "HT") 9 (named bs (codes "LF") 10 (named bs (codes "VT") 11
    (named bs (codes "FF") 12 (named bs (codes "CR") 13 (named bs (codes "SO") 14 (named bs (codes "SI") 15
    (named bs (codes "DLE") 16 (other_names bs)))))))))

-- the first name of the table at the front: `SOH` stands before `SO`
abbrev pub first_names : List ℕ → Item
first_names bs = named bs (codes "NUL") 0 (named bs (codes "SOH") 1 (named bs (codes "STX") 2
    (named bs (codes "ETX") 3 (named bs (codes "EOT") 4 (named bs (codes "ENQ") 5 (named bs (codes "ACK") 6
    (named bs (codes "BEL") 7 (more_names bs))))))))
