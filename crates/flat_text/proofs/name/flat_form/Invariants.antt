use Rattle.std.proofs.Common.{◌≡◌, false, drop}
use Rattle.flat_text.specs.Names.{flat_form}
use Rattle.flat_text.proofs.name.flat_form.Given as goal

abbrev pub invariant-parts : goal.invariant-parts
invariant-parts l = flat_form l.inside (drop l.byte-index l.text) ≡ flat_form false l.fn.text
