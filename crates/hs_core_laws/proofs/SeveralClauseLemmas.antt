-- A binding of two clauses, one of them with a guard that binds.
use Rattle.std.proofs.Common.{refl, inl, List, [], ◌∷◌, ◌++◌}
use Rattle.std.specs.Prelude.{codes, map}
use Rattle.hs_core.specs.declared.tree.Written.TheBlock.{hidden-the_row-Written-0}
use Rattle.hs_core.specs.declared.tree.Exp.TheVariants.{Int}
use Rattle.hs_core.specs.declared.tree.Decl.{Decl}
use Rattle.hs_core.specs.declared.tree.Decl.TheVariants.{TypeSig}
use Rattle.hs_core.specs.declared.tree.Decl.TheViews.{roll-Rhs}
use Rattle.hs_core.specs.declared.tree.Decl.TheBlock.{hidden-the_row-Decl-2, hidden-the_row-Guard-4}
use Rattle.hs_core.specs.declared.tree.Decl.TheBlock.{hidden-the_row-Choice-5}
use Rattle.hs_core.specs.Types.{TypeTerm, function, integer, any, variables, written_term}
use Rattle.hs_core.specs.Expansion.{Expands}
use Rattle.hs_core.specs.Expansion.Expands.{application}
use Rattle.hs_core.specs.Schemes.{Bound, monotype}
use Rattle.hs_core.specs.Globals.{synonyms_of}
use Rattle.hs_core.specs.FreeNames.{local_decl}
use Rattle.hs_core.specs.LocalGroups.{GroupTyping, MeetsSignature}
use Rattle.hs_core.specs.Typing.{IsTypedDecl}
use Rattle.hs_core.specs.WellTyped.{typed_in}
use Rattle.hs_core_laws.specs.Examples.{int_written, function_written, zero_clause, guarded_clause, ClausesAreTyped}
use Rattle.hs_core_laws.proofs.DerivingLemmas.{bare, bare_name, extends_nothing, simply_has, integer_kind}
use Rattle.hs_core_laws.proofs.DerivingLemmas.{function_kind, single_instance}
use Rattle.hs_core_laws.proofs.DerivationLemmas.{stars, of_stars, declared_stars, only_one}
use denote.Hole.Carrier.{hidden, roll}

abbrev to_integer : TypeTerm
to_integer = function integer integer

abbrev clauses : List Decl
clauses = zero_clause ∷ guarded_clause ∷ []

abbrev its_signature : Decl
its_signature = TypeSig (codes "g") (function_written int_written int_written)

abbrev bound : List Bound
bound = record { name = codes "g"; type = function integer integer } ∷ []

pub written_function : Expands (synonyms_of bare)
    (written_term (variables (function_written int_written int_written)) (function_written int_written int_written))
    (function integer integer)
unfolding hidden-the_row-Written-0 hidden
written_function = application _ _ _ _ (application _ _ _ _ (bare_name _) (bare_name _))
    (bare_name _)

zero_typed : IsTypedDecl bare any zero_clause stars [] bound
zero_typed = (
  integer ∷ [],
  integer,
  [],
  refl,
  (refl, function_kind stars integer integer (integer_kind stars) (integer_kind stars)),
  (integer, [], [], [], refl, ((refl, integer_kind stars), refl, refl), (refl, refl), refl),
  simply_has bare any (Int 1) stars _ integer (refl, integer_kind stars) ((refl, integer_kind stars), refl),
)

guarded_typed : IsTypedDecl bare any guarded_clause stars [] bound
unfolding roll-Rhs roll hidden-the_row-Decl-2 hidden hidden-the_row-Guard-4 hidden-the_row-Choice-5
guarded_typed = (
  integer ∷ [],
  integer,
  record { name = codes "x"; type = integer } ∷ [],
  refl,
  (refl, function_kind stars integer integer (integer_kind stars) (integer_kind stars)),
  (
    integer,
    [],
    record { name = codes "x"; type = integer }
        ∷ [],
    [],
    refl,
    ((refl, integer_kind stars), refl),
    (refl, refl),
    refl,
  ),
  (
    (refl, integer_kind stars),
    record { name = codes "x"; scheme = monotype integer } ∷ [],
    extends_nothing bare _ stars _,
    (
      (
        record { name = codes "y"; type = integer } ∷ [],
        (
          record { name = codes "y"; type = integer } ∷ [],
          [],
          (
            integer,
            ((refl, integer_kind stars), refl),
            ((refl, integer_kind stars), monotype integer, inl (refl, refl), single_instance bare stars integer),
          ),
          refl,
          refl,
        ),
        ((refl, integer_kind stars), monotype integer, inl (refl, refl), single_instance bare stars integer),
      ),
      tt,
    ),
  ),
)

abbrev clauses_group : GroupTyping (typed_in bare any clauses) (map local_decl (clauses ++ its_signature ∷ [])) stars
    [] (0 ∷ 1 ∷ [])
clauses_group = record {
  inside = stars;
  agree = λ w h. refl;
  given = bound;
  names = refl;
  each = (
    (bound, (zero_clause, refl, zero_typed), (inl refl, tt)),
    ((bound, (guarded_clause, refl, guarded_typed), (inl refl, tt)), tt),
  );
}

pub clauses_are_typed : ClausesAreTyped
clauses_are_typed = (
  record { name = codes "g"; scheme = of_stars (function integer integer) } ∷ [],
  (
    of_stars (function integer integer),
    [],
    refl,
    (
      function integer integer,
      written_function,
      declared_stars _
          (function_kind stars integer integer (integer_kind stars) (integer_kind stars)),
    ),
    refl,
  ),
  record {
    typing = clauses_group;
    generalises = refl;
    signatures = λ e a b. only_one
        (λ e. MeetsSignature (typed_in bare any clauses) (map local_decl (clauses ++ its_signature ∷ [])) stars []
        (0 ∷ 1 ∷ []) e) _
        (record {
          typing = clauses_group;
          type = function integer integer;
          has = inl refl;
          rigid = record {
            new = λ v. v;
            distinct = λ v w o p q. q;
            apart = λ v o. refl;
            kinded = λ v o. refl;
            gives = refl;
          };
        }) e a;
  },
)
