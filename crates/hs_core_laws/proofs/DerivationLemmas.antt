-- Small derivations.
use Rattle.std.proofs.Common.{refl, subst, inl, inr, true, true≢false, List, [], ◌∷◌, ◌++◌}
use Rattle.std.specs.Prelude.{codes, map}
use Rattle.bp_base.specs.Lists.{Among}
use Rattle.hs_core.specs.declared.tree.Written.TheVariants.{WVar}
use Rattle.hs_core.specs.declared.tree.Written.TheBlock.{hidden-the_row-Written-0}
use Rattle.hs_core.specs.declared.tree.Exp.TheVariants.{Local, Lambda, Let}
use Rattle.hs_core.specs.declared.tree.Pat.TheVariants.{PVar}
use Rattle.hs_core.specs.declared.tree.Decl.TheBlock.{hidden-the_row-Exp-0, hidden-the_row-Exp-1, hidden-the_row-Decl-2}
use Rattle.hs_core.specs.declared.tree.Decl.TheBlock.{hidden-the_row-Choice-5}
use Rattle.hs_core.specs.declared.tree.Decl.TheViews.{roll-Rhs}
use Rattle.hs_core.specs.declared.tree.Decl.{Decl}
use Rattle.hs_core.specs.declared.tree.Decl.TheVariants.{TypeSig}
use Rattle.type_terms.specs.Terms.{var}
use Rattle.hs_core.specs.Types.{star, TypeTerm, function, integer, character, tuple_of, any, variables, written_term}
use Rattle.hs_core.specs.Kinds.{HasKind}
use Rattle.hs_core.specs.Expansion.{Expands}
use Rattle.hs_core.specs.Expansion.Expands.{variable, application}
use Rattle.hs_core.specs.Schemes.{TypeScheme, IsDeclared, Assumption, Bound, monotype, monomorphic, generalised}
use Rattle.hs_core.specs.Globals.{plain_names, synonyms_of}
use Rattle.hs_core.specs.FreeNames.{local_decl}
use Rattle.hs_core.specs.LocalGroups.{IsTyped, GroupTyping, MeetsSignature, Extends}
use Rattle.hs_core.specs.Typing.{Kinds, IsTypedDecl, HasType}
use Rattle.hs_core.specs.WellTyped.{typed_in}
use Rattle.hs_core_laws.specs.Examples.{int_written, char_written, function_written, pair_written, is_simply}
use Rattle.hs_core_laws.specs.Examples.{returns_argument, uses_at_two_types, IdentityIsTyped, LetIsGeneralised}
use Rattle.hs_core_laws.proofs.DerivingLemmas.{alone, one_group, integer_kind, character_kind, pair_of_kind, simply_has}
use Rattle.hs_core_laws.proofs.DerivingLemmas.{bare, bare_name, function_kind, single_instance}
use denote.Hole.Carrier.{hidden, roll}

abbrev pub stars : Kinds
stars w = star

-- a scheme of a declared type whose variables have kind `*`
abbrev pub of_stars : TypeTerm → TypeScheme
of_stars t = record { generic = λ w. true; kinds = stars; body = t }

-- where every name of a type is plain, the type has kind `*`
abbrev pub HasStar : TypeTerm → Type 0
HasStar t = HasKind (plain_names bare) stars t star

pub declared_stars : (t : TypeTerm) → HasStar t → IsDeclared (plain_names bare) t (of_stars t)
declared_stars t h = record { generic = λ w. refl; kinds = record { fit = h; least = λ other k w o. tt }; body = refl }

-- of a list of one, what holds of it holds of each
pub only_one : (P : Assumption → Type 0) (x : Assumption) → P x → (e : Assumption) → Among e (x ∷ []) → P e
only_one P x h e (inl p) = subst P p h
only_one P x h e (inr k) = elim k [ ]

pub written_identity : Expands (synonyms_of bare)
    (written_term (variables (function_written (WVar (codes "a")) (WVar (codes "a"))))
    (function_written (WVar (codes "a")) (WVar (codes "a")))) (function (var 0) (var 0))
unfolding hidden-the_row-Written-0 hidden
written_identity = application _ _ _ _ (application _ _ _ _ (bare_name _) (variable 0)) (variable 0)

abbrev identity_decls : List Decl
identity_decls = returns_argument (codes "i")
    ∷ TypeSig (codes "i") (function_written (WVar (codes "a")) (WVar (codes "a"))) ∷ []

identity_clause : IsTypedDecl bare any (returns_argument (codes "i")) stars []
    (record { name = codes "i"; type = function (var 0) (var 0) } ∷ [])
identity_clause = (
  var 0 ∷ [],
  var 0,
  record { name = codes "x"; type = var 0 } ∷ [],
  refl,
  (refl, function_kind stars (var 0) (var 0) refl refl),
  (var 0, [], record { name = codes "x"; type = var 0 } ∷ [], [], refl, ((refl, refl), refl), (refl, refl), refl),
  simply_has bare any (Local (codes "x")) stars _ (var 0) (refl, refl)
      ((refl, refl), monotype (var 0), inl (refl, refl), single_instance bare stars (var 0)),
)

abbrev identity_group : GroupTyping (typed_in bare any (returns_argument (codes "i") ∷ []))
    (map local_decl identity_decls) stars [] (0 ∷ [])
identity_group = record {
  inside = stars;
  agree = λ w h. refl;
  given = record { name = codes "i"; type = function (var 0) (var 0) } ∷ [];
  names = refl;
  each = (
    (
      record { name = codes "i"; type = function (var 0) (var 0) }
          ∷ [],
      (returns_argument (codes "i"), refl, identity_clause),
      (inl refl, tt),
    ),
    tt,
  );
}

pub identity_is_typed : IdentityIsTyped
identity_is_typed = (
  record { name = codes "i"; scheme = of_stars (function (var 0) (var 0)) } ∷ [],
  (
    of_stars (function (var 0) (var 0)),
    [],
    refl,
    (
      function (var 0) (var 0),
      written_identity,
      declared_stars _
          (function_kind stars (var 0) (var 0) refl refl),
    ),
    refl,
  ),
  record {
    typing = identity_group;
    generalises = refl;
    signatures = λ e a b. only_one
        (λ e. MeetsSignature (typed_in bare any (returns_argument (codes "i") ∷ []))
        (map local_decl identity_decls) stars [] (0 ∷ []) e) _
        (record {
          typing = identity_group;
          type = function (var 0) (var 0);
          has = inl refl;
          rigid = record {
            new = λ v. v;
            distinct = λ v w o p q. q;
            apart = λ v o. refl;
            kinded = λ v o. refl;
            gives = refl;
          };
        }) e a;
  },
)

pub written_pair : Expands (synonyms_of bare)
    (written_term (variables (pair_written int_written char_written)) (pair_written int_written char_written))
    (tuple_of (integer ∷ character ∷ []))
unfolding hidden-the_row-Written-0 hidden
written_pair = application _ _ _ _ (application _ _ _ _ (bare_name _) (bare_name _))
    (bare_name _)

abbrev identity_binding : Decl
identity_binding = is_simply (codes "i") (Lambda (PVar (codes "x") ∷ []) (Local (codes "x")))

pub lambda_has : (env : List Assumption)
    → HasType bare any (Lambda (PVar (codes "x") ∷ []) (Local (codes "x"))) stars env (function (var 0) (var 0))
unfolding hidden-the_row-Exp-0 hidden
lambda_has env = (
  (refl, function_kind stars (var 0) (var 0) refl refl),
  var 0 ∷ [],
  var 0,
  record { name = codes "x"; type = var 0 } ∷ [],
  refl,
  (var 0, [], record { name = codes "x"; type = var 0 } ∷ [], [], refl, ((refl, refl), refl), (refl, refl), refl),
  ((refl, refl), monotype (var 0), inl (refl, refl), single_instance bare stars (var 0)),
)

abbrev pub to_itself : List Bound
to_itself = record { name = codes "i"; type = function (var 0) (var 0) } ∷ []

pub binding_typed : (env : List Assumption) → IsTypedDecl bare any identity_binding stars env to_itself
binding_typed env = (
  [],
  function (var 0) (var 0),
  [],
  refl,
  (refl, function_kind stars (var 0) (var 0) refl refl),
  (refl, refl),
  simply_has bare any (Lambda (PVar (codes "x") ∷ []) (Local (codes "x"))) stars _ (function (var 0) (var 0))
      (refl, function_kind stars (var 0) (var 0) refl refl) (lambda_has _),
)

-- the first of the groups has the type of the identity
abbrev pub FirstIsTyped : IsTyped → Type 0
FirstIsTyped typed = typed 0 stars (monomorphic to_itself ++ []) to_itself

-- one local declaration that has a typing is generalised
one_local : (typed : IsTyped) → FirstIsTyped typed → Extends bare typed (local_decl identity_binding ∷ []) stars []
    (generalised [] stars to_itself)
unfolding roll-Rhs roll hidden-the_row-Decl-2 hidden hidden-the_row-Choice-5
one_local typed h = record {
  declared = [];
  schemes = refl;
  groups = alone ∷ [];
  order = one_group;
  each = (
    generalised [] stars to_itself,
    record {
      typing = record {
        inside = stars;
        agree = λ w g. refl;
        given = to_itself;
        names = refl;
        each =
            ((to_itself, h, (inl refl, tt)), tt);
      };
      generalises = refl;
      signatures = λ e a b. absurd a;
    },
    refl,
  );
}

-- the generalised identity at one type
at_type : (t : TypeTerm) → HasStar t → HasType bare any (Local (codes "i")) stars (generalised [] stars to_itself)
    (function t t)
at_type t h = (
  (refl, function_kind stars t t h h),
  _,
  inl (refl, refl),
  record {
    choice = λ w. t;
    fixed = λ w g. absurd (true≢false g);
    kinded = λ w o g. h;
    gives = refl;
  },
)

let_has : HasType bare any (Let (identity_binding ∷ []) uses_at_two_types) stars []
    (tuple_of (integer ∷ character ∷ []))
unfolding hidden-the_row-Exp-0 hidden hidden-the_row-Exp-1 hidden-the_row-Decl-2
let_has = (
  (refl, pair_of_kind stars integer character (integer_kind stars) (character_kind stars)),
  generalised [] stars to_itself,
  one_local _ (binding_typed _),
  (
    (refl, pair_of_kind stars integer character (integer_kind stars) (character_kind stars)),
    integer ∷ character ∷ [],
    refl,
    (
      integer,
      character ∷ [],
      refl,
      (
        (refl, integer_kind stars),
        integer
            ∷ [],
        at_type integer (integer_kind stars),
        (integer, [], refl, ((refl, integer_kind stars), refl), refl),
      ),
      (
        character,
        [],
        refl,
        (
          (refl, character_kind stars),
          character
              ∷ [],
          at_type character (character_kind stars),
          (character, [], refl, ((refl, character_kind stars), refl), refl),
        ),
        refl,
      ),
    ),
  ),
)

abbrev let_clause : Decl
let_clause = is_simply (codes "p") (Let (identity_binding ∷ []) uses_at_two_types)

abbrev let_bound : List Bound
let_bound = record { name = codes "p"; type = tuple_of (integer ∷ character ∷ []) } ∷ []

let_clause_typed : IsTypedDecl bare any let_clause stars [] let_bound
let_clause_typed = (
  [],
  tuple_of (integer ∷ character ∷ []),
  [],
  refl,
  (refl, pair_of_kind stars integer character (integer_kind stars) (character_kind stars)),
  (refl, refl),
  simply_has bare any (Let (identity_binding ∷ []) uses_at_two_types) stars _ _
      (refl, pair_of_kind stars integer character (integer_kind stars) (character_kind stars)) let_has,
)

abbrev pair_sig : Decl
pair_sig = TypeSig (codes "p") (pair_written int_written char_written)

abbrev let_group : GroupTyping (typed_in bare any (let_clause ∷ []))
    (map local_decl (let_clause ∷ pair_sig ∷ [])) stars [] (0 ∷ [])
let_group = record {
  inside = stars;
  agree = λ w h. refl;
  given = let_bound;
  names = refl;
  each =
      ((let_bound, (let_clause, refl, let_clause_typed), (inl refl, tt)), tt);
}

pub let_is_generalised : LetIsGeneralised
let_is_generalised = (
  record { name = codes "p"; scheme = of_stars (tuple_of (integer ∷ character ∷ [])) } ∷ [],
  (
    of_stars (tuple_of (integer ∷ character ∷ [])),
    [],
    refl,
    (
      tuple_of (integer ∷ character ∷ []),
      written_pair,
      declared_stars _
          (pair_of_kind stars integer character (integer_kind stars) (character_kind stars)),
    ),
    refl,
  ),
  record {
    typing = let_group;
    generalises = refl;
    signatures = λ e a b. only_one
        (λ e. MeetsSignature (typed_in bare any (let_clause ∷ [])) (map local_decl (let_clause ∷ pair_sig ∷ [])) stars
        [] (0 ∷ []) e) _
        (record {
          typing = let_group;
          type = tuple_of (integer ∷ character ∷ []);
          has = inl refl;
          rigid = record {
            new = λ v. v;
            distinct = λ v w o p q. q;
            apart = λ v o. refl;
            kinded = λ v o. refl;
            gives = refl;
          };
        }) e a;
  },
)
