use Rattle.std.proofs.Common.{◌≡◌, take, map}
use Rattle.bp_base.specs.declared.ty.Ty.TheVariants.{Var}
use Rattle.hs_core.specs.Base.{field}
use Rattle.hs_core.proofs.base.fields.Given as goal

abbrev pub invariant-loop-param : goal.invariant-loop-param
invariant-loop-param l = l.fields ≡ map field (map (λ n. Var n) (take l.param-index l.params))
