use Rattle.unit_identity.proofs.ReadBackLemmas.{wrote-Module, wrote-unit}
use Rattle.unit_identity.proofs.text.+write.Goals as goal

pub write_ident-returns-in_ok-extend_from_slice-in-Module : goal.write_ident-returns-in_ok-extend_from_slice-in-Module
write_ident-returns-in_ok-extend_from_slice-in-Module t c =
    wrote-Module _ _ _ _ _ _ _ _ _ c.in-Module.is c.get.ensures c.as_bytes-in-Module.ensures
    c.in_ok-write_unit-in-Module.ensures c.in_ok-push-in-Module.ensures.items
    c.in_ok-extend_from_slice-in-Module.ensures.items

pub write_unit-returns : goal.write_unit-returns
write_unit-returns t c = wrote-unit _ _ _ _ _ _ c.as_bytes.ensures c.as_slice.ensures
    c.in_ok-extend_from_slice.ensures.items c.in_ok-write_fills.ensures
