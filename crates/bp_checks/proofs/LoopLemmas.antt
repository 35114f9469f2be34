-- A loop over a list whose step sees what is done as `seen` and its item as `x`: a refusal on the way, one more answer,
-- the end.
use Rattle.std.proofs.Common.{◌≡◌, ◌<◌, ◌≤◌, ◌+◌, ℕ, List, [], ◌∷◌, ◌++◌, drop, length, get_or, subst}
use Rattle.std.proofs.lemmas.List.{drop_more, drop_all}
use Rattle.bp_base.specs.declared.defect.Refusal.{Refusal}
use Rattle.bp_checks.specs.declared.stop.Stop.{Stop}
use Rattle.bp_checks.specs.Check.{Check, PassesAll, FailsIn, Through}
use Rattle.bp_checks.specs.Refused.{Refused, OnRefusal}
use Rattle.bp_checks.specs.Stop.{OnStop}
use Rattle.bp_checks.proofs.CheckLemmas.{Through-refused, Through-pushed, Through-end}
use Rattle.bp_checks.proofs.RefusedLemmas.{OnStop-map, OnRefusal-map}

module _ {A B : Type 0} (s : List B → A → Check B Refused) (items : List A) (done : List B) (i : ℕ) where
  at_item : (x : A) (r : Refused) → Through s items done (drop i items) → i < length items
      → (s done (get_or items i x)).fails r → FailsIn s [] items r
  at_item x r t l z = Through-refused s items done (get_or items i x) (drop (i + 1) items) r
      (subst (λ z. Through s items done z) (drop_more items i x l) t) z

  pub stopped_on_the_way : (seen : List B) (x : A) (stop : Stop) → Through s items done (drop i items)
      → i < length items → x ≡ get_or items i x → seen ≡ done
      → OnStop stop (s seen x).fails → OnStop stop (FailsIn s [] items)
  stopped_on_the_way seen x stop t l is same h =
      OnStop-map stop (s done (get_or items i x)).fails (FailsIn s [] items) (λ r z. at_item x r t l z)
      (subst (λ y. OnStop stop (s done y).fails) is (subst (λ d. OnStop stop (s d x).fails) same h))

  pub refused_on_the_way : (seen : List B) (x : A) (refusal : Refusal) → Through s items done (drop i items)
      → i < length items → x ≡ get_or items i x → seen ≡ done
      → OnRefusal refusal (s seen x).fails → OnRefusal refusal (FailsIn s [] items)
  refused_on_the_way seen x refusal t l is same h =
      OnRefusal-map refusal (s done (get_or items i x)).fails (FailsIn s [] items) (λ r z. at_item x r t l z)
      (subst (λ y. OnRefusal refusal (s done y).fails) is (subst (λ d. OnRefusal refusal (s d x).fails) same h))

  pub one_more : (seen : List B) (x : A) (b : B) (new : List B) → Through s items done (drop i items) → i < length items
      → x ≡ get_or items i x → seen ≡ done
      → (s seen x).passes b → new ≡ done ++ b ∷ [] → Through s items new (drop (i + 1) items)
  one_more seen x b new t l is same h e =
      Through-pushed s items done new i x b t l (subst (λ y. (s done y).passes b) is
      (subst (λ d. (s d x).passes b) same h)) e

  pub at_the_end : Through s items done (drop i items) → length items ≤ i → PassesAll s [] items done
  at_the_end t l = Through-end s items done (subst (λ z. Through s items done z) (drop_all i items l) t)

-- what the loop over components cites
pub ruleset loop_laws = (stopped_on_the_way, refused_on_the_way, one_more, at_the_end)
