-- The kind of a written type alone, its variables, and its synonyms.
use Rattle.std.proofs.Common.{◌≡◌, ℕ, suc, ◌+◌, ◌≤◌, Bool, true, false, List, [], ◌∷◌, inl, inr}
use Rattle.std.proofs.Common.{refl, sym}
use Rattle.std.proofs.Common.{ap, subst, ◌∙◌, arith, true≢false}
use Rattle.std.proofs.lemmas.Bool.{leb-true, le-leb, and_parts, and_from}
use Rattle.std.specs.Prelude.{◌↔◌, IsTrue, Option, Some, None, ◌&&◌, nat_le}
use Rattle.bp_base.specs.Texts.{Text}
use Rattle.bp_base.specs.declared.ty.OrigName.{OrigName}
use Rattle.type_terms.specs.Terms.{var}
use Rattle.hs_core.specs.declared.tree.Written.{Written}
use Rattle.hs_core.specs.declared.tree.Written.TheVariants.{WApp}
use Rattle.hs_core.specs.declared.tree.Written.TheBlock.{hidden-the_row-Written-0}
use denote.Hole.Carrier.{hidden}
use Rattle.hs_core.specs.Types.{KindTerm, count, written_term, variables, variables_after}
use Rattle.hs_core.specs.Kinds.{IsKindOf}
use Rattle.hs_core.specs.Expansion.{Synonym, Synonyms, IsFullyApplied}
use Rattle.type_unify.specs.Types.{Plain, Bound}
use Rattle.kind_check.specs.Forms.{Guess, settled}
use Rattle.kind_check.specs.Scopes.{known_names, names_under, variables_under, guessed}
use Rattle.kind_check.specs.Walks.{Demand, Imposes, NoGuess, fits_under}
use Rattle.kind_check.specs.Answers.{HasKindAlone, HasNoKind, known_synonyms, sense_synonym, HasParams, IsFull}
use Rattle.kind_check.specs.declared.scope.Known.{Known}
use Rattle.kind_check.specs.declared.scope.GroupDecl.{GroupDecl}
use Rattle.kind_check.specs.declared.scope.Sense.{Sense}
use Rattle.kind_check.specs.declared.scope.Sense.TheVariants.{SynonymOf}
use Rattle.bp_base.specs.declared.ty.Kind.{Kind}
use Rattle.bp_base.specs.declared.ty.Ty.{Ty}
use Rattle.hs_core.specs.Sameness.{same_original}
use Rattle.hs_core.proofs.SamenessLemmas.{original_itself, original_same}
use Rattle.kind_check.proofs.WalkLemmas.{HasKind-map}
use Rattle.kind_check.proofs.ArmLemmas.{written_app}
use Rattle.kind_check.proofs.DeclareLemmas.{fits_alone, least_alone, none_alone}

-- the same demand in other words
pub Imposes-map : (D E : Demand) (old new : List Bound) (n next : ℕ) → ((g : Guess) → D g → E g)
    → ((g : Guess) → E g → D g) → Imposes D old new n next → Imposes E old new n next
Imposes-map D E old new n next there back p = record {
  ready = p.ready;
  grows = p.grows;
  sound = λ g m. let s = p.sound g m in (s.0, there g s.1);
  complete = λ g m e. p.complete g m (back g e);
}

-- without a group, names have the kinds that are known
pub alone_there : (known : List Known) (ps : List Text) (w : Written) (g : Guess)
    → fits_under known [] ps 1 w (var 0) g → fits_alone (known_names known) (count ps) (written_term ps w) g
alone_there known ps w g h =
    HasKind-map (names_under known [] g) (known_names known) (variables_under 1 (count ps) g)
    (variables_under 1 (count ps) g) (written_term ps w) (g 0)
    (λ m j e. elim e [ inl x ↦ absurd x | inr q ↦ q.1 ]) (λ i. refl) h

pub alone_back : (known : List Known) (ps : List Text) (w : Written) (g : Guess)
    → fits_alone (known_names known) (count ps) (written_term ps w) g → fits_under known [] ps 1 w (var 0) g
alone_back known ps w g h =
    HasKind-map (known_names known) (names_under known [] g) (variables_under 1 (count ps) g)
    (variables_under 1 (count ps) g) (written_term ps w) (g 0)
    (λ m j e. inr (tt, e)) (λ i. refl) h

-- what the bindings settle for the unknown 0 is the least kind
pub lone_kind : (known : List Known) (ds : List GroupDecl) (ps : List Text) (w : Written) (wanted : Plain)
    (old bs : List Bound) (start n : ℕ) (k : KindTerm) → ds ≡ [] → wanted ≡ var 0 → old ≡ [] → start ≡ suc (count ps)
    → Imposes (fits_under known ds ps 1 w wanted) old bs start n → k ≡ settled bs 0
    → HasKindAlone (known_names known) (written_term ps w) (count ps) k
lone_kind known ds ps w wanted old bs start n k d e o s p is =
    let q = subst (λ x. Imposes (fits_under known [] ps 1 w (var 0)) [] bs x n) s
    (subst (λ x. Imposes (fits_under known [] ps 1 w (var 0)) x bs start n) o
    (subst (λ x. Imposes (fits_under known [] ps 1 w x) old bs start n) e
    (subst (λ x. Imposes (fits_under known x ps 1 w wanted) old bs start n) d p))) in
    let r = least_alone (known_names known) (written_term ps w) (count ps) bs n
    (Imposes-map _ _ [] bs (suc (count ps)) n (alone_there known ps w) (alone_back known ps w) q) in
    subst (HasKindAlone (known_names known) (written_term ps w) (count ps)) (sym is)
    (record { kinds = guessed (settled bs) 1 (count ps); many = r.many; fit = r.fit; below = r.below })

-- and where no guess will do, there is none
pub lone_none : (known : List Known) (ds : List GroupDecl) (ps : List Text) (w : Written) (wanted : Plain)
    (old : List Bound) → ds ≡ [] → wanted ≡ var 0 → old ≡ [] → NoGuess (fits_under known ds ps 1 w wanted) old
    → HasNoKind (known_names known) (written_term ps w) (count ps)
lone_none known ds ps w wanted old d e o p =
    let q = subst (λ x. NoGuess (fits_under known [] ps 1 w (var 0)) x) o
    (subst (λ x. NoGuess (fits_under known [] ps 1 w x) old) e
    (subst (λ x. NoGuess (fits_under known x ps 1 w wanted) old) d p)) in
    λ js j c h. none_alone (known_names known) (written_term ps w) (count ps)
    (λ g m f. q g m (alone_back known ps w g f)) js j c h

-- ---- what the answers say, where the variables were listed

pub kind_of_alone : (known es : List Known) (ps : List Text) (w : Written) (k : KindTerm) → known ≡ es
    → ps ≡ variables w → HasKindAlone (known_names known) (written_term ps w) (count ps) k
    → IsKindOf (known_names es) w k
kind_of_alone known es ps w k d e h =
    let r = subst (λ xs. HasKindAlone (known_names es) (written_term xs w) (count xs) k) e
    (subst (λ x. HasKindAlone (known_names x) (written_term ps w) (count ps) k) d h) in
    record { kinds = r.kinds; many = r.many; fit = r.fit; least = r.below }

pub no_kind_alone : (known es : List Known) (ps : List Text) (w : Written) → known ≡ es → ps ≡ variables w
    → HasNoKind (known_names known) (written_term ps w) (count ps)
    → HasNoKind (known_names es) (written_term (variables w) w) (count (variables w))
no_kind_alone known es ps w d e h =
    subst (λ xs. HasNoKind (known_names es) (written_term xs w) (count xs)) e
    (subst (λ x. HasNoKind (known_names x) (written_term ps w) (count ps)) d h)

pub full_alone : (known es : List Known) (w : Written) (b : Bool) → known ≡ es
    → ((ps : List Text) → IsTrue b ↔ IsFullyApplied (known_synonyms known) (written_term ps w) 0)
    → IsTrue b ↔ IsFull es w
full_alone known es w b d h =
    subst (λ x. IsTrue b ↔ IsFullyApplied (known_synonyms x) (written_term (variables w) w) 0) d (h (variables w))

pub not_full_alone : (known es : List Known) (w : Written) (b : Bool) → known ≡ es
    → ((ps : List Text) → IsTrue b ↔ IsFullyApplied (known_synonyms known) (written_term ps w) 0) → b ≡ false
    → IsFull es w → ⊥
not_full_alone known es w b d h is f = true≢false (sym ((full_alone known es w b d h).1 f) ∙ is)

-- ---- variables

pub variables_app : (met : List Text)
    (f a : Written)
    → variables_after met (WApp f a) ≡ variables_after (variables_after met f) a
unfolding hidden-the_row-Written-0 hidden
variables_app met f a = refl

pub met_both : (old mid new : List Text) (w f a g b : Written) → w ≡ WApp f a → g ≡ f → b ≡ a
    → mid ≡ variables_after old g → new ≡ variables_after mid b → new ≡ variables_after old w
met_both old mid new w f a g b e p q x y =
    y ∙ ap (variables_after mid) q ∙ ap (λ m. variables_after m a) (x ∙ ap (variables_after old) p)
    ∙ sym (ap (variables_after old) e ∙ variables_app old f a)

-- ---- synonyms

-- an application is fully applied where its parts are
pub full_both : (S : Synonyms) (w f a g b : Written) (given more : ℕ) (x y : Bool) → w ≡ WApp f a → g ≡ f → b ≡ a
    → more ≡ given + 1
    → ((ps : List Text) → IsTrue x ↔ IsFullyApplied S (written_term ps g) more)
    → ((ps : List Text) → IsTrue y ↔ IsFullyApplied S (written_term ps b) 0)
    → (ps : List Text) → IsTrue (x && y) ↔ IsFullyApplied S (written_term ps w) given
full_both S w f a g b given more x y e p q m h k ps =
    let s : more ≡ suc given = omega (arith, m) in
    let is = sym (ap (written_term ps) e ∙ written_app ps f a) in
    let one = subst (λ i. IsTrue x ↔ IsFullyApplied S (written_term ps f) i) s
    (subst (λ u. IsTrue x ↔ IsFullyApplied S (written_term ps u) more) p (h ps)) in
    let two = subst (λ u. IsTrue y ↔ IsFullyApplied S (written_term ps u) 0) q (k ps) in
    subst (λ t. IsTrue (x && y) ↔ IsFullyApplied S t given) is (both x y _ _ one two)
  where
    both : (x y : Bool) (A B : Type 0) → IsTrue x ↔ A → IsTrue y ↔ B → IsTrue (x && y) ↔ (A × B)
    both x y A B p q = (
      λ t. let z = and_parts x y t in (p.0 z.0, q.0 z.1),
      λ t. and_from x y (p.1 t.0) (q.1 t.1),
    )

-- the parts one after the other, as the code asks them
pub full_then : (S : Synonyms) (w f a g b : Written) (given more : ℕ) (x y : Bool) → w ≡ WApp f a → g ≡ f → b ≡ a
    → more ≡ given + 1
    → ((ps : List Text) → IsTrue x ↔ IsFullyApplied S (written_term ps g) more)
    → ((ps : List Text) → IsTrue y ↔ IsFullyApplied S (written_term ps b) 0) → x ≡ true
    → (ps : List Text) → IsTrue y ↔ IsFullyApplied S (written_term ps w) given
full_then S w f a g b given more x y e p q m h k is ps =
    subst (λ z. IsTrue (z && y) ↔ IsFullyApplied S (written_term ps w) given) is
    (full_both S w f a g b given more x y e p q m h k ps)

pub full_else : (S : Synonyms) (w f a g b : Written) (given more : ℕ) (x y : Bool) → w ≡ WApp f a → g ≡ f → b ≡ a
    → more ≡ given + 1
    → ((ps : List Text) → IsTrue x ↔ IsFullyApplied S (written_term ps g) more)
    → ((ps : List Text) → IsTrue y ↔ IsFullyApplied S (written_term ps b) 0) → x ≡ false
    → (ps : List Text) → IsTrue x ↔ IsFullyApplied S (written_term ps w) given
full_else S w f a g b given more x y e p q m h k is ps =
    let z = full_both S w f a g b given more x y e p q m h k ps in
    subst (λ v. IsTrue v ↔ IsFullyApplied S (written_term ps w) given) (sym is)
    (subst (λ v. IsTrue (v && y) ↔ IsFullyApplied S (written_term ps w) given) is z)

-- ---- how many parameters a synonym has

-- a name that differs from the first entry's has the meaning that it has behind it
pub synonyms_past : (n : OrigName) (rest tail : List Known) (e : Known) → rest ≡ e ∷ tail → (e.name ≡ n → ⊥)
    → known_synonyms rest n ≡ known_synonyms tail n
synonyms_past n rest tail e is other =
    ap (λ r. known_synonyms r n) is ∙ past (same_original e.name n) refl
  where
    past : (b : Bool) → same_original e.name n ≡ b → known_synonyms (e ∷ tail) n ≡ known_synonyms tail n
    past true p = absurd (other (original_same e.name n p))
    past false p = rw p refl

pub synonyms_here : (n : OrigName) (rest tail : List Known) (e : Known) → rest ≡ e ∷ tail → e.name ≡ n
    → known_synonyms rest n ≡ sense_synonym e.sense
synonyms_here n rest tail e is same =
    let t : same_original e.name n ≡ true = ap (same_original e.name) (sym same) ∙ original_itself e.name in
    ap (λ r. known_synonyms r n) is ∙ rw t refl

-- a synonym's parameters are those that it was given with
pub params_are : (found : Option Synonym)
    (s : Sense) (k : Kind) (p : ℕ) (b : Ty) → found ≡ sense_synonym s
    → s ≡ SynonymOf k p b → HasParams found p
params_are found s k p b e is = subst (λ x. HasParams x p) (sym (e ∙ ap sense_synonym is)) refl
