-- The loop over the declarations of a group.
use Rattle.std.proofs.Common.{◌≡◌, ℕ, zero, suc, ◌+◌, ◌<◌, List, [], ◌∷◌, length, get_or, refl, sym, ap, subst, ◌∙◌}
use Rattle.std.proofs.Common.{arith}
use Rattle.std.specs.Prelude.{map}
use Rattle.bp_base.specs.Texts.{Text}
use Rattle.kind_check.specs.Answers.{IsFirst}
use Rattle.bp_base.specs.declared.ty.Kind.{Kind}
use Rattle.hs_core.specs.Types.{count, kind_term}
use Rattle.hs_core.specs.Kinds.{NameKinds, AreLeastKinds, AllBelow}
use Rattle.type_unify.specs.Types.{Bound}
use Rattle.kind_check.specs.Forms.{settled}
use Rattle.kind_check.specs.Scopes.{decl_of, decls_of, known_names, names_under, guessed}
use Rattle.kind_check.specs.Walks.{Imposes, NoGuess, At, first_keep, keeps, HasNoKinding}
use Rattle.kind_check.specs.declared.scope.Known.{Known}
use Rattle.kind_check.specs.declared.scope.GroupDecl.{GroupDecl}
use Rattle.kind_check.proofs.ScopeLemmas.{local}
use Rattle.kind_check.proofs.DeclareLemmas.{nothing, next_keeps, next_none, least, refused}

pub count-decls : (ds : List GroupDecl) → count (decls_of ds) ≡ length ds
count-decls [] = refl
count-decls (d ∷ ds) = ap suc (count-decls ds)

pub at-decls : (ds : List GroupDecl) (i : ℕ) (d : GroupDecl) → i < length ds
    → At (decls_of ds) i (decl_of (get_or ds i d))
at-decls [] i d l = absurd (omega (arith, l))
at-decls (e ∷ ds) zero d l = refl
at-decls (e ∷ ds) (suc i) d l = at-decls ds i d (omega (arith, l))

-- the first so many declarations are gone through
abbrev pub Gone : List Known → List GroupDecl → ℕ → List Bound → ℕ → Type 0
Gone known ds i bs next = Imposes (first_keep (names_under known ds) (decls_of ds) i) [] bs (count (decls_of ds)) next

pub gone_none : (known : List Known) (ds : List GroupDecl) (n : ℕ) → n ≡ length ds → Gone known ds 0 [] n
gone_none known ds n e =
    subst (Gone known ds 0 []) (count-decls ds ∙ sym e)
    (nothing [] (count (decls_of ds)) (first_keep (names_under known ds) (decls_of ds) 0)
    (λ g i d l a. absurd (omega (arith, l))) (record { triangular = tt; below = tt; decides = λ s h. tt }))

pub gone_more : (known : List Known) (ds : List GroupDecl) (i n last : ℕ) (d e : GroupDecl) (mid new : List Bound)
    → i < length ds → d ≡ get_or ds i e → Gone known ds i mid n
    → Imposes (keeps (names_under known ds) (decl_of d) i) mid new n last → Gone known ds (i + 1) new last
gone_more known ds i n last d e mid new l is p q =
    let c = count-decls ds in
    let z : suc i ≡ i + 1 = omega arith in
    subst (λ j. Gone known ds j new last) z
    (next_keeps (names_under known ds) (decls_of ds) (decl_of d) i (count (decls_of ds)) n last [] mid new
    (local known ds 0 0 (count (decls_of ds)) (omega arith) (omega arith)).named (omega (arith, l, c))
    (subst (λ x. At (decls_of ds) i (decl_of x)) (sym is) (at-decls ds i e l)) p q)

pub gone_refused : (known : List Known) (ds : List GroupDecl) (i n : ℕ) (d e : GroupDecl) (mid : List Bound)
    → i < length ds → d ≡ get_or ds i e → Gone known ds i mid n
    → NoGuess (keeps (names_under known ds) (decl_of d) i) mid → HasNoKinding (known_names known) (decls_of ds)
gone_refused known ds i n d e mid l is p never =
    let c = count-decls ds in
    let below : i < count (decls_of ds) = omega (arith, l, c) in
    refused (known_names known) (decls_of ds)
    (next_none (names_under known ds) (decls_of ds) (decl_of d) i (count (decls_of ds)) n (count (decls_of ds)) [] mid
    (local known ds 0 0 (count (decls_of ds)) (omega arith) (omega arith)).named below below
    (subst (λ x. At (decls_of ds) i (decl_of x)) (sym is) (at-decls ds i e l)) p never)

pub gone_all : (known : List Known) (ds : List GroupDecl) (n : ℕ) (bs : List Bound) → Gone known ds (length ds) bs n
    → AreLeastKinds (known_names known) (decls_of ds) (guessed (settled bs) 0 (count (decls_of ds)))
gone_all known ds n bs p = least (known_names known) (decls_of ds) bs n
    (subst (λ i. Gone known ds i bs n) (sym (count-decls ds)) p)

-- a group without declarations has no kinds to give
pub nothing_least : (names : NameKinds) (ds : List GroupDecl) (ks : List Kind) → length ds ≡ 0 → ks ≡ []
    → AreLeastKinds names (decls_of ds) (map kind_term ks)
nothing_least names [] ks e f =
    record {
      valid = ap (map kind_term) f;
      least = λ others h. subst (λ x. AllBelow x others) (sym (ap (map kind_term) f)) h;
    }
nothing_least names (d ∷ ds) ks e f = absurd (omega (arith, e))

-- the first declaration is named
pub first_named : (ds : List GroupDecl) (d : GroupDecl) (x : Text) → 0 < length ds → x ≡ (get_or ds 0 d).name.occ
    → IsFirst ds x
first_named [] d x l e = absurd (omega (arith, l))
first_named (f ∷ fs) d x l e = sym e
