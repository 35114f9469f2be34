-- What is left of an expression, step by step, for all names that are known.
use Rattle.std.proofs.Common.{◌≡◌, sym, subst, ℕ, List, [], ◌∷◌, ◌++◌}
use Rattle.std.specs.Prelude.{Some, slice_get, length}
use Rattle.hs_core.specs.Types.{KindTerm, star}
use Rattle.hs_core.specs.Schemes.{Bound}
use Rattle.hs_core.specs.Globals.{Globals}
use Rattle.type_unify.specs.Types.{Plain}
use Rattle.type_equations.specs.States.{State, Guess, Meets, IsReady}
use Rattle.type_equations.specs.declared.equations.Binder.{Binder}
use Rattle.type_equations.specs.Demands.{Demand, AllStar, Imposes, IsLocal, equal, both, some}
use Rattle.type_equations.specs.Syntax.{AreStars, KnowsSyntax}
use Rattle.type_equations.proofs.DemandLemmas.{none_first, stars-front, stars-append}
use Rattle.infer_patterns.specs.Names.{Knows}
use Rattle.infer_patterns.specs.declared.names.Declared.{Declared}
use Rattle.infer_patterns.proofs.RowLemmas.{stars-grown}
use Rattle.expression_demands.specs.Leaving.{Leaves, under, seen, IsLocalUnder}
use Rattle.expression_demands.proofs.FormLemmas.{form_none}
use Rattle.expression_demands.proofs.LeaveLemmas.{head_left, left_part, left_under, left_so, under_none}
use Rattle.infer_expressions.specs.Inferred.{Imposed, Refused}
use Rattle.infer_expressions.specs.Entered.{Leads, HeadEntered, HeadRefused}

-- what is asked of some locals and unknowns speaks of them alone
abbrev pub AsksOnly : (Globals → Demand) → List Binder → List ℕ → Type 0
AsksOnly b scope left = (G : Globals) (ks : List KindTerm) → AllStar ks scope → AreStars ks left → IsLocal (length ks)
    (b G)

-- some unknowns, in two lists
abbrev pub Splits : List ℕ → List ℕ → List ℕ → Type 0
Splits left first rest = (ks : List KindTerm) → AreStars ks left → AreStars ks first × AreStars ks rest

-- what holds of a head for all names
abbrev pub HeadGives : (Globals → Demand) → (Globals → Demand) → State → ℕ → Plain → Plain → Type 0
HeadGives gives a old v t u = (G : Globals) → slice_get old.kinds v ≡ Some star → (g : Guess) (xs : List Bound)
    → Meets G g old → both (equal t u) (a G) g xs → gives G g xs

abbrev pub HeadTakes : (Globals → Demand) → (Globals → Demand) → List Binder → State → List KindTerm → ℕ → Plain → Plain
    → Type 0
HeadTakes takes b env old js v t u = (G : Globals) → KnowsSyntax G → AllStar old.kinds env
    → slice_get old.kinds v ≡ Some star → (g : Guess) (xs : List Bound) → Meets G g old → takes G g xs
    → some G old.kinds js (both (equal t u) (b G)) g xs

module _ (names : List Declared) (env : List Binder) (vs : List ℕ) (gives takes : Globals → Demand) where
  pub leads_end : (a b : Globals → Demand) (scope : List Binder) (left : List ℕ) (old now new : State)
      → Leads names env vs gives takes a b scope left old now → Imposed names scope left a b now new
      → Imposed names env vs gives takes old new
  leads_end a b scope left old now new h p G K r o s =
      let l = h G K r o s in l.0.finish new (p G K l.0.ready l.1 l.2)

  pub leads_none : (a b : Globals → Demand) (scope : List Binder) (left : List ℕ) (old now : State)
      → Leads names env vs gives takes a b scope left old now → Refused names scope left b now
      → Refused names env vs takes old
  leads_none a b scope left old now h p G K r o s =
      let l = h G K r o s in l.0.refuse (p G K l.0.ready l.1 l.2)

  -- a part is done
  pub leads_part : (p q a b : Globals → Demand) (scope : List Binder) (left first rest : List ℕ) (old now mid : State)
      → Splits left first rest → AsksOnly b scope rest
      → Leads names env vs gives takes (λ G. both (p G) (a G)) (λ G. both (q G) (b G)) scope left old now
      → Imposed names scope first p q now mid → Leads names env vs gives takes a b scope rest old mid
  leads_part p q a b scope left first rest old now mid pick loc h im G K r o s =
      let l = h G K r o s in
      let w = pick now.kinds l.2 in
      let i = im G K l.0.ready l.1 w.0 in (
        left_part G (gives G) (takes G) (p G) (q G) (a G) (b G) old now mid (loc G now.kinds l.1 w.1) i l.0,
        subst (λ z. AllStar z scope) (sym i.grows) (stars-front now.kinds i.more scope l.1),
        subst (λ z. AreStars z rest) (sym i.grows) (stars-grown now.kinds i.more rest w.1),
      )

  pub leads_part_none : (p q a b : Globals → Demand) (scope : List Binder) (left first rest : List ℕ) (old now : State)
      → Splits left first rest
      → Leads names env vs gives takes (λ G. both (p G) (a G)) (λ G. both (q G) (b G)) scope left old now
      → Refused names scope first q now → Refused names env vs takes old
  leads_part_none p q a b scope left first rest old now pick h n G K r o s =
      let l = h G K r o s in
      l.0.refuse (none_first G (q G) (b G) now (n G K l.0.ready l.1 (pick now.kinds l.2).0))

  -- in other words
  pub leads_so : (a b a' b' : Globals → Demand) (scope : List Binder) (left : List ℕ) (old now : State)
      → ((G : Globals) (g : Guess) (xs : List Bound) → AreStars now.kinds left → Meets G g now → a' G g xs → a G g xs)
      → ((G : Globals) (g : Guess) (xs : List Bound) → b G g xs → b' G g xs)
      → Leads names env vs gives takes a b scope left old now → Leads names env vs gives takes a' b' scope left old now
  leads_so a b a' b' scope left old now f k h G K r o s =
      let l = h G K r o s in (
        left_so G (gives G) (takes G) (a G) (b G) (a' G) (b' G) old now (λ g xs m t. f G g xs l.2 m t)
            (λ g xs m t. k G g xs t) l.0,
        l.1,
        l.2,
      )

  -- a part that binds names is done, and what sees them is left
  pub leads_under : (p q : Globals → Demand) (a b : Globals → List Bound → Guess → Type 0)
      (a' b' : Globals → List Binder → Demand) (scope after : List Binder) (left rest : List ℕ) (old now mid : State)
      → ((G : Globals) (ks : List KindTerm) → AllStar ks scope → AreStars ks left
      → IsLocalUnder (length ks) (b G) × AreStars ks rest)
      → ((G : Globals) (binders : List Binder) (g : Guess) (xs : List Bound) → a' G (binders ++ scope) g xs
      → seen binders (a G) g xs)
      → ((G : Globals) (binders : List Binder) (g : Guess) (xs : List Bound) → seen binders (b G) g xs
      → b' G (binders ++ scope) g xs)
      → Leads names env vs gives takes (λ G. under (p G) (a G)) (λ G. under (q G) (b G)) scope left old now
      → ((G : Globals) → Knows G names → IsReady G now → AllStar now.kinds scope → AreStars now.kinds left
      → (binders : List Binder) × (after ≡ binders ++ scope) × Imposes G (p G) (q G) binders now mid)
      → Leads names env vs gives takes (λ G. a' G after) (λ G. b' G after) after rest old mid
  leads_under p q a b a' b' scope after left rest old now mid loc f k h bound G K r o s =
      let l = h G K r o s in
      let w = loc G now.kinds l.1 l.2 in
      let i = bound G K l.0.ready l.1 l.2 in
      let grown = subst (λ z. AllStar z scope) (sym i.2.grows) (stars-front now.kinds i.2.more scope l.1) in (
        subst (λ z. Leaves G (gives G) (takes G) (a' G z) (b' G z) old mid) (sym i.1)
            (left_so G (gives G) (takes G) (seen i.0 (a G)) (seen i.0 (b G)) (a' G (i.0 ++ scope)) (b' G (i.0 ++ scope))
            old mid (λ g xs m t. f G i.0 g xs t) (λ g xs m t. k G i.0 g xs t)
            (left_under G (gives G) (takes G) (p G) (q G) (a G) (b G) i.0 old now mid w.0 i.2 l.0)),
        subst (λ z. AllStar mid.kinds z) (sym i.1) (stars-append mid.kinds i.0 scope i.2.stars grown),
        subst (λ z. AreStars z rest) (sym i.2.grows) (stars-grown now.kinds i.2.more rest w.1),
      )

  pub leads_under_none : (p q : Globals → Demand) (a b : Globals → List Bound → Guess → Type 0) (scope : List Binder)
      (left : List ℕ) (old now : State)
      → Leads names env vs gives takes (λ G. under (p G) (a G)) (λ G. under (q G) (b G)) scope left old now
      → Refused names scope left q now → Refused names env vs takes old
  leads_under_none p q a b scope left old now h n G K r o s =
      let l = h G K r o s in
      under_none G (gives G) (takes G) (under (p G) (a G)) (q G) (b G) old now (n G K l.0.ready l.1 l.2) l.0

module _ (names : List Declared) (env : List Binder) (v : ℕ) (gives takes : Globals → Demand) where
  -- the head of an expression
  pub head_leads : (a b : Globals → Demand) (old new : State) (js : List KindTerm) (t u : Plain) (left : List ℕ)
      → ((G : Globals) → slice_get old.kinds v ≡ Some star → AreStars (old.kinds ++ js) left) → AsksOnly b env left
      → HeadGives gives a old v t u → HeadTakes takes b env old js v t u → HeadEntered old new js v t u
      → Leads names env (v ∷ []) gives takes a b env left old new
  head_leads a b old new js t u left stars loc f k h G K r o s =
      let e = h G K.syntax r s in
      let there = stars G s.0 in
      let seen_there = stars-front old.kinds js env o in (
        head_left G (gives G) (takes G) (a G) (b G) t u old new js r (loc G (old.kinds ++ js) seen_there there)
            (f G s.0) (k G K.syntax o s.0) e,
        subst (λ z. AllStar z env) (sym e.same) seen_there,
        subst (λ z. AreStars z left) (sym e.same) there,
      )

  pub head_none : (b : Globals → Demand) (old : State) (js : List KindTerm) (t u : Plain)
      → HeadTakes takes b env old js v t u → HeadRefused old js v t u → Refused names env (v ∷ []) takes old
  head_none b old js t u k n G K r o s =
      form_none G (takes G) (b G) t u old js r (k G K.syntax o s.0) (n G K.syntax r s)
