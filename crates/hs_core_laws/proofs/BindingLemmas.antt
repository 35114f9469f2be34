-- A module's binding of one clause, and expressions of which it is made.
use Rattle.std.proofs.Common.{◌≡◌, refl, sym, ap, ◌∙◌, subst, inl, ℕ, true, false, true≢false, not, ◌||◌, List, [], ◌∷◌}
use Rattle.std.proofs.Common.{◌++◌, cond}
use Rattle.std.specs.Prelude.{map}
use Rattle.std.proofs.lemmas.Slice.Eq.{bytes_eq-Decides}
use Rattle.bp_base.specs.Texts.{Text}
use Rattle.bp_base.specs.declared.ty.OrigName.{OrigName}
use Rattle.type_terms.specs.Terms.{var, occurs_in}
use Rattle.type_terms.proofs.TermLemmas.{applied-itself}
use Rattle.hs_core.specs.declared.tree.Written.{Written}
use Rattle.hs_core.specs.declared.tree.Pat.{Pat}
use Rattle.hs_core.specs.declared.tree.Exp.TheVariants.{Global}
use Rattle.hs_core.specs.declared.tree.Rhs.{Rhs}
use Rattle.hs_core.specs.declared.tree.Decl.TheVariants.{TypeSig, Clause}
use Rattle.hs_core.specs.Types.{star, TypeTerm, variables, written_term}
use Rattle.hs_core.specs.Kinds.{HasKind}
use Rattle.hs_core.specs.Expansion.{Expands}
use Rattle.hs_core.specs.Schemes.{IsDeclared, Assumption, monomorphic, generalised}
use Rattle.hs_core.specs.Globals.{Globals, plain_names, synonyms_of, HasDeclared}
use Rattle.hs_core.specs.FreeNames.{local_decl}
use Rattle.hs_core.specs.LocalGroups.{GroupTyping, MeetsSignature, unsigned}
use Rattle.hs_core.specs.Typing.{TypeTest, Kinds, IsTypedDecl, HasType}
use Rattle.hs_core.specs.WellTyped.{typed_in, HasDeclaredTypes}
use Rattle.hs_core_laws.proofs.DerivationLemmas.{stars, of_stars, only_one}

-- a type whose variables have kind `*`, declared
pub declared_with_stars : (G : Globals) (t : TypeTerm) → HasKind (plain_names G) stars t star
    → IsDeclared (plain_names G) t (of_stars t)
declared_with_stars G t h = record {
  generic = λ w. refl;
  kinds = record { fit = h; least = λ other k w o. tt };
  body = refl;
}

none_unsigned : (f : Text) (w : Written) (ps : List Pat) (r : Rhs) (t : TypeTerm)
    → unsigned (local_decl (Clause f ps r) ∷ local_decl (TypeSig f w) ∷ []) (record { name = f; type = t } ∷ []) ≡ []
none_unsigned f w ps r t = ap (λ b. cond (not (b || false)) (record { name = f; type = t } ∷ []) [])
    ((bytes_eq-Decides f f).1 refl)

-- a clause of the declared type makes a binding of it
pub one_binding : (G : Globals) (fits : TypeTest) (f : Text) (w : Written) (ps : List Pat) (r : Rhs) (t : TypeTerm)
    → HasKind (plain_names G) stars t star
    → Expands (synonyms_of G) (written_term (variables w) w) t
    → IsTypedDecl G fits (Clause f ps r) stars [] (record { name = f; type = t } ∷ [])
    → HasDeclaredTypes G fits (TypeSig f w ∷ []) (Clause f ps r ∷ [])
one_binding G fits f w ps r t k x h = (
  record { name = f; scheme = of_stars t } ∷ [],
  (of_stars t, [], refl, (t, x, declared_with_stars G t k), refl),
  record {
    typing = group;
    generalises = sym (ap (generalised [] stars) (none_unsigned f w ps r t));
    signatures = λ e a b. only_one
        (λ e. MeetsSignature (typed_in G fits (Clause f ps r ∷ []))
        (map local_decl (Clause f ps r ∷ TypeSig f w ∷ [])) stars [] (0 ∷ []) e) _
        (record {
          typing = group;
          type = t;
          has = inl refl;
          rigid = record {
            new = λ v. v;
            distinct = λ v w o p q. q;
            apart = λ v o. refl;
            kinded = λ v o. refl;
            gives = applied-itself t;
          };
        }) e a;
  },
)
  where
    group : GroupTyping (typed_in G fits (Clause f ps r ∷ []))
        (map local_decl (Clause f ps r ∷ TypeSig f w ∷ [])) stars [] (0 ∷ [])
    group = record {
      inside = stars;
      agree = λ w h. refl;
      given = record { name = f; type = t } ∷ [];
      names = refl;
      each = (
        (
          record { name = f; type = t } ∷ [],
          (
            Clause f ps r,
            refl,
            subst
                (λ us. IsTypedDecl G fits (Clause f ps r) stars (monomorphic us ++ [])
                (record { name = f; type = t } ∷ [])) (sym (none_unsigned f w ps r t)) h,
          ),
          (inl refl, tt),
        ),
        tt,
      );
    }

-- a name of a closed type has that type
pub closed_global : (G : Globals) (fits : TypeTest) (n : OrigName) (d : TypeTerm) (kinds : Kinds)
    (env : List Assumption) → HasDeclared G n d → ((w : ℕ) → occurs_in w d ≡ false)
    → HasKind (plain_names G) stars d star → HasKind (plain_names G) kinds d star → fits d ≡ true
    → HasType G fits (Global n) kinds env d
closed_global G fits n d kinds env has closed k j fit = (
  (fit, j),
  d,
  of_stars d,
  has,
  declared_with_stars G d k,
  record {
    choice = λ w. var w;
    fixed = λ w g. refl;
    kinded = λ w o g. absurd (true≢false (sym o ∙ closed w));
    gives = applied-itself d;
  },
)
