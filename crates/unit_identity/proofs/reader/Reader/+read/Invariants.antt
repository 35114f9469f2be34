use Rattle.unit_identity.proofs.reader.Reader.+read.Given as goal

abbrev pub decreases-read_fills : goal.decreases-read_fills
decreases-read_fills l = l.fuel

abbrev pub decreases-read_ident : goal.decreases-read_ident
decreases-read_ident l = l.fuel
