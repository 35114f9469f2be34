-- Local declarations: two groups, a type signature, and a `where` over guards.
use Rattle.bp_base.specs.declared.ident.Ident.TheViews.{roll-Unit}
use Rattle.bp_base.specs.declared.ident.Ident.TheBlock.{hidden-the_row-Unit-0, hidden-the_row-Fill-1}
use Rattle.std.proofs.Common.{◌≡◌, refl, sym, ap, ◌∙◌, subst, inl, inr, ℕ, zero, suc, ◌≤◌, arith, Bool, true, false}
use Rattle.std.proofs.Common.{true≢false, not, ◌&&◌, ◌||◌, List, [], ◌∷◌, ◌++◌}
use Rattle.std.specs.Prelude.{codes, ◌≢◌, nat_eq}
use Rattle.std.specs.Str.{bytes_eq}
use Rattle.std.specs.List.Sorted.{IsStrictlyIncreasing}
use Rattle.bp_base.specs.Texts.{Text}
use Rattle.bp_base.specs.Lists.{Among}
use Rattle.type_terms.specs.Terms.{var, occurs_in}
use Rattle.hs_core.specs.declared.tree.Written.TheVariants.{WVar}
use Rattle.hs_core.specs.declared.tree.Written.TheBlock.{hidden-the_row-Written-0}
use Rattle.hs_core.specs.declared.tree.Pat.TheVariants.{PVar}
use Rattle.hs_core.specs.declared.tree.Exp.TheVariants.{Local, Int, Apply, Let, List as ListOf}
use Rattle.hs_core.specs.declared.tree.Decl.{Decl}
use Rattle.hs_core.specs.declared.tree.Decl.TheVariants.{TypeSig, Clause}
use Rattle.hs_core.specs.declared.tree.Decl.TheBlock.{hidden-the_row-Exp-0, hidden-the_row-Exp-1, hidden-the_row-Decl-2}
use Rattle.hs_core.specs.declared.tree.Decl.TheBlock.{hidden-the_row-Guard-4, hidden-the_row-Choice-5}
use Rattle.hs_core.specs.declared.tree.Decl.TheViews.{roll-Rhs}
use Rattle.hs_core.specs.declared.group.UseList.{UseList}
use Rattle.hs_core.specs.declared.group.IndexGroup.{IndexGroup}
use Rattle.hs_core.specs.Groups.{uses_at, Reaches, Together, AreGroups, IsGroupOf}
use Rattle.hs_core.specs.Groups.Reaches.{here, along}
use Rattle.hs_core.specs.Groups.DepthFirst.{ended, met, visited}
use Rattle.hs_core.specs.Groups.Grouped.{none, last}
use Rattle.hs_core.specs.Types.{star, TypeTerm, function, integer, character, list_of, tuple_of, any, variables}
use Rattle.hs_core.specs.Types.{written_term}
use Rattle.hs_core.specs.Kinds.{HasKind}
use Rattle.hs_core.specs.Expansion.{Expands}
use Rattle.hs_core.specs.Expansion.Expands.{variable, application}
use Rattle.hs_core.specs.Schemes.{Assumption, Bound, monotype, monomorphic, generalised}
use Rattle.hs_core.specs.Globals.{plain_names, synonyms_of}
use Rattle.hs_core.specs.FreeNames.{LocalDecl, local_decl}
use Rattle.hs_core.specs.LocalGroups.{IsTyped, GroupTyping, MeetsSignature, Extends}
use Rattle.hs_core.specs.Typing.{HasType, IsTypedDecl}
use Rattle.hs_core.proofs.ExpansionLemmas.{le_both}
use Rattle.hs_core_laws.specs.Examples.{simply, int_written, char_written, function_written, pair_written, is_simply}
use Rattle.hs_core_laws.specs.Programs.{itself, two_bindings, uses_of_both, calls_itself, where_clause}
use Rattle.hs_core_laws.specs.Programs.{GroupAfterGroupIsTyped, PolymorphicRecursionIsTyped, WhereIsSeenInGuards}
use Rattle.hs_core_laws.proofs.DerivingLemmas.{bare, bare_name, alone, one_group, simply_has, integer_kind}
use Rattle.hs_core_laws.proofs.DerivingLemmas.{character_kind, function_kind, pair_of_kind, single_instance}
use Rattle.hs_core_laws.proofs.DerivationLemmas.{HasStar, FirstIsTyped, stars, of_stars, only_one, to_itself, binding_typed, written_pair}
use Rattle.hs_core_laws.proofs.SeveralClauseLemmas.{written_function}
use Rattle.hs_core_laws.proofs.BindingLemmas.{one_binding, declared_with_stars}
use denote.Hole.Carrier.{hidden, roll}

-- ---- two declarations, of which the second may use the first

abbrev second : IndexGroup
second = record { members = 1 ∷ [] }

-- uses lead down
abbrev Falls : List UseList → Type 0
Falls g = (v w : ℕ) → Among w (uses_at g v) → w ≤ v

falls : (g : List UseList) → Falls g → (v w : ℕ) → Reaches g v w → w ≤ v
falls g f _ _ (here v) = le_same v
  where
    le_same : (n : ℕ) → n ≤ n
    le_same n = Prim.omega arith
falls g f _ _ (along v w z a r) = le_both z w v (falls g f w z r) (f v w a)

together_same : (g : List UseList) → Falls g → (v w : ℕ) → Together g v w → v ≡ w
together_same g f v w t = both_ways v w (falls g f v w t.0) (falls g f w v t.1)
  where
    both_ways : (a b : ℕ) → b ≤ a → a ≤ b → a ≡ b
    both_ways a b p q = Prim.omega arith

single_group : (g : List UseList) → Falls g → (v : ℕ) → IsGroupOf g v (record { members = v ∷ [] })
single_group g f v = record {
  rising = rises;
  each = λ w t. inl (together_same g f v w t);
  only = λ w h. elim h [ inl p ↦ subst (λ x. Together g v x) p (here v, here v) | inr k ↦ absurd k ];
}
  where
    rises : IsStrictlyIncreasing (v ∷ [])
    rises k h = Prim.omega arith

zero_not_one : ◌≡◌ {A = ℕ} 0 1 → ⊥
zero_not_one p = true≢false (ap (λ n. nat_eq n 0) p)

-- `0` uses itself or nothing, `1` itself and perhaps `0`
abbrev chained : List UseList
chained = record { uses = 0 ∷ [] } ∷ record { uses = 0 ∷ 1 ∷ [] } ∷ []

chained_falls : Falls chained
chained_falls zero w (inl p) = subst (λ x. x ≤ 0) p (Prim.omega arith)
chained_falls zero w (inr h) = absurd h
chained_falls (suc zero) w (inl p) = subst (λ x. x ≤ 1) p (Prim.omega arith)
chained_falls (suc zero) w (inr (inl p)) = subst (λ x. x ≤ 1) p (Prim.omega arith)
chained_falls (suc zero) w (inr (inr h)) = absurd h
chained_falls (suc (suc v)) w h = absurd h

two_groups : AreGroups chained (alone ∷ second ∷ [])
two_groups = record {
  order = 0 ∷ 1 ∷ [];
  walk = visited [] [] 0 (1 ∷ []) (0 ∷ 1 ∷ []) [] ((λ h. h), (λ h. h))
      (met (0 ∷ []) [] 0 [] [] (inr (inl refl)) (ended (0 ∷ []) []))
      (visited [] (0 ∷ []) 1 [] (0 ∷ 1 ∷ []) (0 ∷ []) ((λ h. elim h [ inl p ↦ zero_not_one p | inr k ↦ k ]), (λ h. h))
      (met (1 ∷ []) (0 ∷ []) 0 (1 ∷ []) (0 ∷ []) (inl (inl refl))
      (met (1 ∷ []) (0 ∷ []) 1 [] (0 ∷ []) (inr (inl refl)) (ended (1 ∷ []) (0 ∷ []))))
      (ended [] (0 ∷ 1 ∷ [])));
  grouped = last 0 (1 ∷ []) alone (second ∷ [])
      (λ w a t. elim a [ inl p ↦ zero_not_one (together_same chained chained_falls 0 w t ∙ sym p) | inr k ↦ k ])
      (single_group chained chained_falls 0)
      (last 1 [] second [] (λ w a t. absurd a) (single_group chained chained_falls 1) none);
}

abbrev signed_use : List UseList
signed_use = record { uses = [] } ∷ record { uses = 1 ∷ [] } ∷ []

signed_falls : Falls signed_use
signed_falls zero w h = absurd h
signed_falls (suc zero) w (inl p) = subst (λ x. x ≤ 1) p (Prim.omega arith)
signed_falls (suc zero) w (inr h) = absurd h
signed_falls (suc (suc v)) w h = absurd h

signed_groups : AreGroups signed_use (alone ∷ second ∷ [])
signed_groups = record {
  order = 0 ∷ 1 ∷ [];
  walk = visited [] [] 0 (1 ∷ []) (0 ∷ 1 ∷ []) [] ((λ h. h), (λ h. h)) (ended (0 ∷ []) [])
      (visited [] (0 ∷ []) 1 [] (0 ∷ 1 ∷ []) (0 ∷ []) ((λ h. elim h [ inl p ↦ zero_not_one p | inr k ↦ k ]), (λ h. h))
      (met (1 ∷ []) (0 ∷ []) 1 [] (0 ∷ []) (inr (inl refl)) (ended (1 ∷ []) (0 ∷ [])))
      (ended [] (0 ∷ 1 ∷ [])));
  grouped = last 0 (1 ∷ []) alone (second ∷ [])
      (λ w a t. elim a [ inl p ↦ zero_not_one (together_same signed_use signed_falls 0 w t ∙ sym p) | inr k ↦ k ])
      (single_group signed_use signed_falls 0)
      (last 1 [] second [] (λ w a t. absurd a) (single_group signed_use signed_falls 1) none);
}

-- ---- steps

other_name : (x y : Text) → bytes_eq x x ≡ true → bytes_eq y x ≡ false → x ≢ y
other_name x y e d p = true≢false (sym e ∙ ap (λ z. bytes_eq z x) p ∙ d)

never_free : (b : Bool) → ((b && false) || false) ≡ false
never_free true = refl
never_free false = refl

list_kind : (t : TypeTerm) → HasKind (plain_names bare) stars t star → HasKind (plain_names bare) stars (list_of t) star
unfolding roll-Unit roll hidden-the_row-Unit-0 hidden-the_row-Fill-1 hidden
list_kind t h = (star, refl, h)

identity_kind : HasKind (plain_names bare) stars (function (var 0) (var 0)) star
identity_kind = function_kind stars (var 0) (var 0) refl refl

-- ---- group after group

abbrev first_seen : List Assumption
first_seen = generalised [] stars to_itself

abbrev k_itself : List Bound
k_itself = record { name = codes "k"; type = function (var 0) (var 0) } ∷ []

abbrev both_seen : List Assumption
both_seen = generalised first_seen stars k_itself ++ first_seen

two_local : (typed : IsTyped) → FirstIsTyped typed → typed 1 stars (monomorphic k_itself ++ first_seen) k_itself
    → Extends bare typed
    (local_decl (is_simply (codes "i") itself) ∷ local_decl (is_simply (codes "k") (Local (codes "i"))) ∷ []) stars
    [] both_seen
unfolding roll-Rhs roll hidden-the_row-Exp-0 hidden-the_row-Exp-1 hidden-the_row-Decl-2 hidden hidden-the_row-Choice-5
two_local typed h g = record {
  declared = [];
  schemes = refl;
  groups = alone ∷ second ∷ [];
  order = two_groups;
  each = (
    first_seen,
    record {
      typing = record {
        inside = stars;
        agree = λ w f. refl;
        given = to_itself;
        names = refl;
        each = ((to_itself, h, (inl refl, tt)), tt);
      };
      generalises = refl;
      signatures = λ e a b. absurd a;
    },
    (
      generalised first_seen stars k_itself,
      record {
        typing = record {
          inside = stars;
          agree = λ w f. refl;
          given = k_itself;
          names = refl;
          each = ((k_itself, g, (inl refl, tt)), tt);
        };
        generalises = refl;
        signatures = λ e a b. absurd a;
      },
      refl,
    ),
  );
}

-- the first binding in the second: at its own type
i_inside : HasType bare any (Local (codes "i")) stars (monomorphic k_itself ++ first_seen) (function (var 0) (var 0))
i_inside = (
  (refl, identity_kind),
  _,
  inr (other_name (codes "k") (codes "i") refl refl, inl (refl, refl)),
  record { choice = λ w. var w; fixed = λ w g. refl; kinded = λ w o g. refl; gives = refl },
)

second_typed : IsTypedDecl bare any (is_simply (codes "k") (Local (codes "i"))) stars
    (monomorphic k_itself ++ first_seen) k_itself
second_typed = (
  [],
  function (var 0) (var 0),
  [],
  refl,
  (refl, identity_kind),
  (refl, refl),
  simply_has bare any (Local (codes "i")) stars _ (function (var 0) (var 0)) (refl, identity_kind) i_inside,
)

i_at : (t : TypeTerm) → HasStar t → HasType bare any (Local (codes "i")) stars both_seen (function t t)
i_at t h = (
  (refl, function_kind stars t t h h),
  _,
  inr (other_name (codes "k") (codes "i") refl refl, inl (refl, refl)),
  record { choice = λ w. t; fixed = λ w g. absurd (true≢false g); kinded = λ w o g. h; gives = refl },
)

k_at : (t : TypeTerm) → HasStar t → HasType bare any (Local (codes "k")) stars both_seen (function t t)
k_at t h = (
  (refl, function_kind stars t t h h),
  _,
  inl (refl, refl),
  record {
    choice = λ w. t;
    fixed = λ w g. absurd (true≢false (sym (ap not (never_free (occurs_in w (function (var 0) (var 0))))) ∙ g));
    kinded = λ w o g. h;
    gives = refl;
  },
)

both_typed : HasType bare any (Let two_bindings uses_of_both) stars [] (tuple_of (integer ∷ character ∷ []))
unfolding hidden-the_row-Exp-0 hidden hidden-the_row-Exp-1 hidden-the_row-Decl-2
both_typed = (
  (refl, pair_of_kind stars integer character (integer_kind stars) (character_kind stars)),
  both_seen,
  two_local _ (binding_typed _) second_typed,
  (
    (refl, pair_of_kind stars integer character (integer_kind stars) (character_kind stars)),
    integer ∷ character ∷ [],
    refl,
    (
      integer,
      character ∷ [],
      refl,
      (
        (refl, integer_kind stars),
        integer
            ∷ [],
        i_at integer (integer_kind stars),
        (integer, [], refl, ((refl, integer_kind stars), refl), refl),
      ),
      (
        character,
        [],
        refl,
        (
          (refl, character_kind stars),
          character
              ∷ [],
          k_at character (character_kind stars),
          (character, [], refl, ((refl, character_kind stars), refl), refl),
        ),
        refl,
      ),
    ),
  ),
)

pub group_after_group_is_typed : GroupAfterGroupIsTyped
group_after_group_is_typed = one_binding bare any (codes "p") (pair_written int_written char_written) [] _
    (tuple_of (integer ∷ character ∷ []))
    (pair_of_kind stars integer character (integer_kind stars) (character_kind stars)) written_pair (
      [],
      tuple_of (integer ∷ character ∷ []),
      [],
      refl,
      (refl, pair_of_kind stars integer character (integer_kind stars) (character_kind stars)),
      (refl, refl),
      simply_has bare any (Let two_bindings uses_of_both) stars _ _
          (refl, pair_of_kind stars integer character (integer_kind stars) (character_kind stars)) both_typed,
    )

-- ---- a local type signature

abbrev f_type : TypeTerm
f_type = function (var 0) integer

abbrev f_declared : List Assumption
f_declared = record { name = codes "f"; scheme = of_stars f_type } ∷ []

abbrev f_bound : List Bound
f_bound = record { name = codes "f"; type = f_type } ∷ []

f_kind : HasKind (plain_names bare) stars f_type star
f_kind = function_kind stars (var 0) integer refl (integer_kind stars)

-- f at any type
f_at : (env : List Assumption) (t : TypeTerm) → HasKind (plain_names bare) stars t star
    → HasType bare any (Local (codes "f")) stars (f_declared ++ env) (function t integer)
f_at env t h = (
  (refl, function_kind stars t integer h (integer_kind stars)),
  _,
  inl (refl, refl),
  record { choice = λ w. t; fixed = λ w g. absurd (true≢false g); kinded = λ w o g. h; gives = refl },
)

f_inside : HasType bare any (Local (codes "f")) stars
    (record { name = codes "x"; scheme = monotype (var 0) } ∷ f_declared) (function (list_of (var 0)) integer)
f_inside = (
  (refl, function_kind stars (list_of (var 0)) integer (list_kind (var 0) refl) (integer_kind stars)),
  _,
  inr (other_name (codes "x") (codes "f") refl refl, inl (refl, refl)),
  record {
    choice = λ w. list_of (var 0);
    fixed = λ w g. absurd (true≢false g);
    kinded = λ w o g. list_kind
        (var 0) refl;
    gives = refl;
  },
)

call_inside : HasType bare any (Apply (Local (codes "f")) (ListOf (Local (codes "x") ∷ []) ∷ [])) stars
    (record { name = codes "x"; scheme = monotype (var 0) } ∷ f_declared) integer
unfolding hidden-the_row-Exp-0 hidden-the_row-Exp-1 hidden
call_inside = (
  (refl, integer_kind stars),
  list_of (var 0) ∷ [],
  f_inside,
  (
    list_of (var 0),
    [],
    refl,
    (
      (refl, list_kind (var 0) refl),
      var 0,
      var 0 ∷ [],
      refl,
      (refl, tt),
      (var 0, [], refl, ((refl, refl), monotype (var 0), inl (refl, refl), single_instance bare stars (var 0)), refl),
    ),
    refl,
  ),
)

abbrev f_clause : Decl
f_clause = Clause (codes "f") (PVar (codes "x") ∷ [])
    (simply (Apply (Local (codes "f")) (ListOf (Local (codes "x") ∷ []) ∷ [])))

f_clause_typed : IsTypedDecl bare any f_clause stars f_declared f_bound
f_clause_typed = (
  var 0 ∷ [],
  integer,
  record { name = codes "x"; type = var 0 } ∷ [],
  refl,
  (refl, f_kind),
  (var 0, [], record { name = codes "x"; type = var 0 } ∷ [], [], refl, ((refl, refl), refl), (refl, refl), refl),
  simply_has bare any (Apply (Local (codes "f")) (ListOf (Local (codes "x") ∷ []) ∷ [])) stars _ integer
      (refl, integer_kind stars) call_inside,
)

written_f : Expands (synonyms_of bare)
    (written_term (variables (function_written (WVar (codes "a")) int_written))
    (function_written (WVar (codes "a")) int_written)) f_type
unfolding hidden-the_row-Written-0 hidden
written_f = application _ _ _ _ (application _ _ _ _ (bare_name _) (variable 0)) (bare_name _)

abbrev f_locals : List LocalDecl
f_locals = local_decl (TypeSig (codes "f") (function_written (WVar (codes "a")) int_written)) ∷ local_decl f_clause ∷ []

f_local : (typed : IsTyped) → typed 0 stars f_declared [] → typed 1 stars f_declared f_bound
    → Extends bare typed f_locals stars [] f_declared
unfolding roll-Rhs roll hidden-the_row-Exp-0 hidden-the_row-Exp-1 hidden-the_row-Decl-2 hidden hidden-the_row-Choice-5
f_local typed h g =
    let group : GroupTyping typed f_locals stars f_declared (1 ∷ []) = record {
      inside = stars;
      agree = λ w f. refl;
      given = f_bound;
      names = refl;
      each = ((f_bound, g, (inl refl, tt)), tt);
    } in
    record {
      declared = f_declared;
      schemes = (of_stars f_type, [], refl, (f_type, written_f, declared_with_stars bare f_type f_kind), refl);
      groups = alone ∷ second ∷ [];
      order = signed_groups;
      each = (
        [],
        record {
          typing = record { inside = stars; agree = λ w f. refl; given = []; names = refl; each = (([], h, tt), tt) };
          generalises = refl;
          signatures = λ e a b. absurd b;
        },
        (
          [],
          record {
            typing = group;
            generalises = refl;
            signatures = λ e a b. only_one (λ e. MeetsSignature typed f_locals stars f_declared (1 ∷ []) e) _
                (record {
                  typing = group;
                  type = f_type;
                  has = inl refl;
                  rigid = record {
                    new = λ v. v;
                    distinct = λ v w o p q. q;
                    apart = λ v o. never_free (occurs_in v f_type);
                    kinded = λ v o. refl;
                    gives = refl;
                  };
                }) e a;
          },
          refl,
        ),
      );
    }

recursion_typed : HasType bare any (Let calls_itself (Apply (Local (codes "f")) (Int 1 ∷ []))) stars [] integer
unfolding hidden-the_row-Exp-0 hidden hidden-the_row-Exp-1 hidden-the_row-Decl-2
recursion_typed = (
  (refl, integer_kind stars),
  f_declared,
  f_local _ refl f_clause_typed,
  (
    (refl, integer_kind stars),
    integer
        ∷ [],
    f_at [] integer (integer_kind stars),
    (integer, [], refl, ((refl, integer_kind stars), refl), refl),
  ),
)

pub polymorphic_recursion_is_typed : PolymorphicRecursionIsTyped
polymorphic_recursion_is_typed = one_binding bare any (codes "p") int_written [] _ integer (integer_kind stars)
    (bare_name _) (
      [],
      integer,
      [],
      refl,
      (refl, integer_kind stars),
      (refl, refl),
      simply_has bare any
          (Let calls_itself (Apply (Local (codes "f")) (Int 1 ∷ []))) stars _ integer
          (refl, integer_kind stars) recursion_typed,
    )

-- ---- a `where` over guards

abbrev x_seen : List Assumption
x_seen = record { name = codes "x"; scheme = monotype integer } ∷ []

abbrev y_bound : List Bound
y_bound = record { name = codes "y"; type = integer } ∷ []

abbrev y_decl : Decl
y_decl = is_simply (codes "y") (Local (codes "x"))

abbrev where_seen : List Assumption
where_seen = generalised x_seen stars y_bound ++ x_seen

y_typed : IsTypedDecl bare any y_decl stars (monomorphic y_bound ++ x_seen) y_bound
y_typed = (
  [],
  integer,
  [],
  refl,
  (refl, integer_kind stars),
  (refl, refl),
  simply_has bare any (Local (codes "x")) stars _ integer (refl, integer_kind stars) (
    (refl, integer_kind stars),
    monotype integer,
    inr
        (other_name (codes "y") (codes "x") refl refl, inl (refl, refl)),
    single_instance bare stars integer,
  ),
)

y_local : (typed : IsTyped) → typed 0 stars (monomorphic y_bound ++ x_seen) y_bound
    → Extends bare typed (local_decl y_decl ∷ []) stars x_seen where_seen
unfolding roll-Rhs roll hidden-the_row-Exp-0 hidden-the_row-Exp-1 hidden-the_row-Decl-2 hidden hidden-the_row-Choice-5
y_local typed h = record {
  declared = [];
  schemes = refl;
  groups = alone ∷ [];
  order = one_group;
  each = (
    generalised x_seen stars y_bound,
    record {
      typing = record {
        inside = stars;
        agree = λ w g. refl;
        given = y_bound;
        names = refl;
        each =
            ((y_bound, h, (inl refl, tt)), tt);
      };
      generalises = refl;
      signatures = λ e a b. absurd a;
    },
    refl,
  );
}

y_at : HasType bare any (Local (codes "y")) stars where_seen integer
y_at = (
  (refl, integer_kind stars),
  _,
  inl (refl, refl),
  record { choice = λ w. var w; fixed = λ w g. refl; kinded = λ w o g. absurd (true≢false (sym o)); gives = refl },
)

where_typed : IsTypedDecl bare any where_clause stars []
    (record { name = codes "h"; type = function integer integer } ∷ [])
unfolding roll-Rhs roll hidden-the_row-Decl-2 hidden hidden-the_row-Guard-4 hidden-the_row-Choice-5
where_typed = (
  integer ∷ [],
  integer,
  record { name = codes "x"; type = integer } ∷ [],
  refl,
  (refl, function_kind stars integer integer (integer_kind stars) (integer_kind stars)),
  (
    integer,
    [],
    record { name = codes "x"; type = integer }
        ∷ [],
    [],
    refl,
    ((refl, integer_kind stars), refl),
    (refl, refl),
    refl,
  ),
  (
    (refl, integer_kind stars),
    where_seen,
    y_local _ y_typed,
    (
      (
        record { name = codes "z"; type = integer } ∷ [],
        (
          record { name = codes "z"; type = integer }
              ∷ [],
          [],
          (integer, ((refl, integer_kind stars), refl), y_at),
          refl,
          refl,
        ),
        ((refl, integer_kind stars), monotype integer, inl (refl, refl), single_instance bare stars integer),
      ),
      tt,
    ),
  ),
)

pub where_is_seen_in_guards : WhereIsSeenInGuards
where_is_seen_in_guards = one_binding bare any (codes "h") _ (PVar (codes "x") ∷ []) _ (function integer integer)
    (function_kind stars integer integer (integer_kind stars) (integer_kind stars)) written_function where_typed
