-- What a step tells that is made of two by `?`.
use Rattle.std.proofs.Common.{◌≡◌, inl, inr, Option, Result, Ok, Err, ◌∙◌}
use Rattle.bp_checks.specs.Check.{Check, ◌>>=◌}
use Rattle.bp_checks.specs.Refused.{Refused}
use Rattle.bp_checks.specs.Stop.{Tells}
use Rattle.bp_checks.specs.declared.stop.Stop.{Stop}
use Rattle.bp_checks.proofs.RefusedLemmas.{OnStop-map}

module _ {X B C : Type 0} (told : Option X) (s : X → Check B Refused) (t : X → B → Check C Refused) where
  -- where the first stops, both do
  pub Tells-stopped : (stop : Stop) → Tells told s (Err stop) → Tells told (λ x. s x >>= t x) (Err stop)
  Tells-stopped stop h = λ x m. OnStop-map stop (s x).fails (s x >>= t x).fails (λ r z. inl z) (h x m)

  -- where the first answers, both tell what the second does
  pub Tells-then : (b : B) (later : Option X) (r : Result C Stop) → later ≡ told → Tells told s (Ok b)
      → Tells later (λ x. t x b) r → Tells told (λ x. s x >>= t x) r
  Tells-then b later (Ok c) e h k = λ x m. (b, h x m, k x (e ∙ m))
  Tells-then b later (Err stop) e h k = λ x m. OnStop-map stop (t x b).fails (s x >>= t x).fails
      (λ r z. inr (b, h x m, z)) (k x (e ∙ m))

-- what a stage of several readings cites
pub ruleset tells_laws = (Tells-stopped, Tells-then)
