-- What is left to demand of a part of a tree, step by step.
use Rattle.std.proofs.Common.{◌≡◌, refl, sym, ap, subst, ◌∙◌, ℕ, List, [], ◌∷◌, ◌++◌}
use Rattle.std.proofs.lemmas.List.{append-nil, append_assoc, map-append}
use Rattle.std.specs.Prelude.{length}
use Rattle.hs_core.specs.Types.{KindTerm}
use Rattle.hs_core.specs.Schemes.{Bound, monomorphic}
use Rattle.hs_core.specs.Globals.{Globals}
use Rattle.type_unify.specs.Types.{Plain}
use Rattle.type_meaning.specs.Meanings.{LocalTypes, only}
use Rattle.type_equations.specs.States.{State, Guess, Meets, IsReady, Equated, NotEqual}
use Rattle.type_equations.specs.declared.equations.Binder.{Binder}
use Rattle.type_equations.specs.Demands.{Demand, typed_names, Imposes, HasNone, IsLocal, equal, both}
use Rattle.type_equations.specs.Demands.{some, with_unknowns}
use Rattle.expression_demands.specs.Leaving.{Leaves, under, seen, IsLocalUnder}
use Rattle.type_equations.proofs.DemandLemmas.{imposed_equation, imposed_both, imposed_unknowns, imposed_so, none_equal}
use Rattle.type_equations.proofs.DemandLemmas.{none_first, none_later, none_some, none_so, ready-with, agree-twice}
use Rattle.type_equations.proofs.DemandLemmas.{agree-less, grows-length}

pub both-local : (n : ℕ) (a b : Demand) → IsLocal n a → IsLocal n b → IsLocal n (both a b)
both-local n a b p q g h bs e t = (t.0, t.1, p g h t.0 e t.2, q g h t.1 e t.3, t.4)

pub under-local : (n : ℕ) (first : Demand) (rest : List Bound → Guess → Type 0) → IsLocal n first → IsLocalUnder n rest
    → IsLocal n (under first rest)
under-local n first rest p q g h bs e t = (t.0, p g h t.0 e t.1, q t.0 g h e t.2, t.3)

-- ---- names in front of others

pub names-append : (g : Guess) (front bs : List Binder)
    → typed_names g (front ++ bs) ≡ typed_names g front ++ typed_names g bs
names-append g front bs = map-append _ front bs

pub monomorphic-append : (front bs : List Bound) → monomorphic (front ++ bs) ≡ monomorphic front ++ monomorphic bs
monomorphic-append front bs = map-append _ front bs

pub only-append : (front bs : List Bound) (ks : List LocalTypes) → only (front ++ bs) ks ≡ only front (only bs ks)
only-append [] bs ks = refl
only-append (b ∷ front) bs ks = ap (λ z. record { name = b.name; has = λ t. b.type ≡ t } ∷ z) (only-append front bs ks)

module _ (G : Globals) where
  pub all_left : (gives takes : Demand) (old : State) → IsReady G old → Leaves G gives takes gives takes old old
  all_left gives takes old r = record {
    ready = r;
    more = [];
    grows = sym (append-nil old.kinds);
    finish = λ new h. h;
    refuse = λ h. h;
  }

  -- in other words
  pub left_so : (gives takes a b a' b' : Demand) (old now : State)
      → ((g : Guess) (xs : List Bound) → Meets G g now → a' g xs → a g xs)
      → ((g : Guess) (xs : List Bound) → Meets G g now → b g xs → b' g xs)
      → Leaves G gives takes a b old now → Leaves G gives takes a' b' old now
  left_so gives takes a b a' b' old now f h l = record {
    ready = l.ready;
    more = l.more;
    grows = l.grows;
    finish = λ new i. l.finish new (imposed_so G a' a b' b [] now new f h i);
    refuse = λ n. l.refuse (none_so G b' b now h n);
  }

  -- new unknowns
  pub left_unknowns : (gives takes a b : Demand) (old now : State) (js : List KindTerm)
      → Leaves G gives takes a (some G now.kinds js b) old now → Leaves G gives takes a b old (with_unknowns now js)
  left_unknowns gives takes a b old now js l = record {
    ready = ready-with G now js l.ready;
    more = l.more ++ js;
    grows = ap (λ z. z ++ js) l.grows ∙ append_assoc old.kinds l.more js;
    finish = λ new i. l.finish new (imposed_unknowns G a b [] now new js l.ready i);
    refuse = λ n. l.refuse (none_some G b now js l.ready n);
  }

  -- a part that binds nothing
  pub left_part : (gives takes p q a b : Demand) (old now mid : State) → IsLocal (length now.kinds) b
      → Imposes G p q [] now mid → Leaves G gives takes (both p a) (both q b) old now → Leaves G gives takes a b old mid
  left_part gives takes p q a b old now mid loc i l = record {
    ready = i.ready;
    more = l.more ++ i.more;
    grows = i.grows ∙ ap (λ z. z ++ i.more) l.grows ∙ append_assoc old.kinds l.more i.more;
    finish = λ new j. l.finish new (imposed_both G p q a b [] [] now mid new loc i j);
    refuse = λ n. l.refuse (none_later G p q b [] now mid loc i n);
  }

  pub left_equal : (gives takes a b : Demand) (t u : Plain) (old now mid : State) → IsLocal (length now.kinds) b
      → Equated G now mid t u → Leaves G gives takes (both (equal t u) a) (both (equal t u) b) old now
      → Leaves G gives takes a b old mid
  left_equal gives takes a b t u old now mid loc e l =
      left_part gives takes (equal t u) (equal t u) a b old now mid loc (imposed_equation G now mid t u e) l

  pub left_none : (gives takes a q b : Demand) (old now : State) → HasNone G q now
      → Leaves G gives takes a (both q b) old now → HasNone G takes old
  left_none gives takes a q b old now n l = l.refuse (none_first G q b now n)

  pub left_unequal : (gives takes a b : Demand) (t u : Plain) (old now : State) → NotEqual G now t u
      → Leaves G gives takes a (both (equal t u) b) old now → HasNone G takes old
  left_unequal gives takes a b t u old now n l =
      left_none gives takes a (equal t u) b old now (none_equal G now t u n) l

  -- new unknowns, an equation, and what stands behind it
  pub head_left : (gives takes a b : Demand) (t u : Plain) (state mid : State) (js : List KindTerm) → IsReady G state
      → IsLocal (length (state.kinds ++ js)) b
      → ((g : Guess) (xs : List Bound) → Meets G g state → both (equal t u) a g xs → gives g xs)
      → ((g : Guess) (xs : List Bound) → Meets G g state → takes g xs
      → some G state.kinds js (both (equal t u) b) g xs)
      → Equated G (with_unknowns state js) mid t u → Leaves G gives takes a b state mid
  head_left gives takes a b t u state mid js r l f h e =
      left_equal gives takes a b t u state (with_unknowns state js) mid l e
      (left_unknowns gives takes (both (equal t u) a) (both (equal t u) b) state state js
      (left_so gives takes gives takes (both (equal t u) a) (some G state.kinds js (both (equal t u) b)) state state f h
      (all_left gives takes state r)))

  -- a part that binds names, in front of what sees them
  pub left_under : (gives takes p q : Demand) (a b : List Bound → Guess → Type 0) (binders : List Binder)
      (old now mid : State) → IsLocalUnder (length now.kinds) b → Imposes G p q binders now mid
      → Leaves G gives takes (under p a) (under q b) old now
      → Leaves G gives takes (seen binders a) (seen binders b) old mid
  left_under gives takes p q a b binders old now mid loc i l = record {
    ready = i.ready;
    more = l.more ++ i.more;
    grows = i.grows ∙ ap (λ z. z ++ i.more) l.grows ∙ append_assoc old.kinds l.more i.more;
    finish = λ new j. l.finish new (record {
      ready = j.ready;
      more = i.more ++ j.more;
      grows = j.grows ∙ ap (λ z. z ++ j.more) i.grows ∙ append_assoc now.kinds i.more j.more;
      stars = tt;
      sound = λ g m. let y = j.sound g m in let x = i.sound g y.0 in
          (x.0, (typed_names g binders, x.1, y.1.0, refl));
      complete = λ g bs m t. let x = i.complete g t.0 m t.1 in
          let y = j.complete x.0 [] x.2 (subst (λ z. b z x.0) x.3 (loc t.0 g x.0 x.1 t.2), refl) in (
            y.0,
            agree-twice (length now.kinds) g x.0 y.0 x.1
                (agree-less (length now.kinds) (length mid.kinds) x.0 y.0
                (grows-length now.kinds mid.kinds i.more i.grows) y.1),
            y.2,
            t.3,
          );
    });
    refuse = λ n. l.refuse (λ g bs m t. let x = i.complete g t.0 m t.1 in
        n x.0 [] x.2 (subst (λ z. b z x.0) x.3 (loc t.0 g x.0 x.1 t.2), refl));
  }

  -- no guess has what binds the names
  pub under_none : (gives takes a q : Demand) (b : List Bound → Guess → Type 0) (old now : State) → HasNone G q now
      → Leaves G gives takes a (under q b) old now → HasNone G takes old
  under_none gives takes a q b old now n l = l.refuse (λ g bs m t. n g t.0 m t.1)
