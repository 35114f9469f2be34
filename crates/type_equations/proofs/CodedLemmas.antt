-- Types of unification as types, and back.
use Rattle.std.proofs.Common.{◌≡◌, refl, sym, ap, ap₂, ◌∙◌, subst, ℕ, Bool, true, false, true≢false, List}
use Rattle.std.proofs.lemmas.Bool.{and_parts, and_from}
use Rattle.std.proofs.lemmas.Option.{slice_get_within}
use Rattle.std.proofs.Math.Path.{fun_ext}
use Rattle.std.specs.Prelude.{Option, Some, None, slice_get, length, if◌then◌else◌}
use Rattle.type_terms.specs.Terms.{var, con, app, applied, Every}
use Rattle.hs_core.specs.Types.{KindTerm, star, arrow, TypeTerm, TypeAssignment}
use Rattle.hs_core.specs.Kinds.{HasKind}
use Rattle.hs_core.specs.Globals.{NameMeaning, type_name, synonym_name, value_name, constructor_name, Globals, kind_in}
use Rattle.hs_core.specs.Globals.{plain_names}
use Rattle.hs_core.specs.Typing.{Kinds}
use Rattle.type_unify.specs.Types.{Plain, rigid, named, bare, Assignment, Equals}
use Rattle.kind_check.specs.Forms.{code, decided, is_below, any_name}
use Rattle.kind_check.proofs.FormLemmas.{decided-bare, decided-code, below-test}
use Rattle.type_equations.specs.Coded.{IsForm, value, kind_or_star, result_kind, kind_under, type_code, same_kind}
use Rattle.type_equations.specs.Coded.{is_type_of, type_of}

-- ---- kinds

pub same_kind-true : (j k : KindTerm) → same_kind j k ≡ true → j ≡ k
same_kind-true star star e = refl
same_kind-true star (arrow a b) e = absurd (true≢false (sym e))
same_kind-true (arrow a b) star e = absurd (true≢false (sym e))
same_kind-true (arrow a b) (arrow c d) e =
    let p = and_parts (same_kind a c) (same_kind b d) e in
    ap₂ arrow (same_kind-true a c p.0) (same_kind-true b d p.1)

pub same_kind-itself : (k : KindTerm) → same_kind k k ≡ true
same_kind-itself star = refl
same_kind-itself (arrow j k) = and_from _ _ (same_kind-itself j) (same_kind-itself k)

pub is_type_of-true : (m : Option NameMeaning) (k : KindTerm) → is_type_of m k ≡ true → m ≡ Some (type_name k)
is_type_of-true None k e = absurd (true≢false (sym e))
is_type_of-true (Some (type_name j)) k e = ap (λ i. Some (type_name i)) (same_kind-true j k e)
is_type_of-true (Some (synonym_name j s)) k e = absurd (true≢false (sym e))
is_type_of-true (Some (value_name t)) k e = absurd (true≢false (sym e))
is_type_of-true (Some (constructor_name c)) k e = absurd (true≢false (sym e))

pub kind_under-is : (G : Globals) (kinds : Kinds) (t : TypeTerm) (k : KindTerm) → HasKind (plain_names G) kinds t k
    → kind_under G kinds t ≡ k
kind_under-is G kinds (var i) k h = h
kind_under-is G kinds (con n) k h = ap (λ m. kind_or_star (kind_in m)) h
kind_under-is G kinds (app f a) k h = ap result_kind (kind_under-is G kinds f (arrow h.0 k) h.1)

-- a kind's code has no unknown, and no name

pub applied-code : (s : Assignment) (k : KindTerm) → applied s (code k) ≡ code k
applied-code s star = refl
applied-code s (arrow j k) = ap₂ app (applied-code s j) (applied-code s k)

pub Every-code : (p : ℕ → Bool) (k : KindTerm) → Every p any_name (code k)
Every-code p star = refl
Every-code p (arrow j k) = (Every-code p j, Every-code p k)

pub Every-form : (G : Globals) (ks : List KindTerm) (t : Plain) (k : KindTerm) → IsForm G ks t k
    → Every (is_below (length ks)) any_name t
Every-form G ks (var i) k h = below-test i (length ks) (slice_get_within ks i k h)
Every-form G ks (con (rigid i)) k h = refl
Every-form G ks (con (named n j)) k h = refl
Every-form G ks (app (var i) a) k h = absurd h
Every-form G ks (app (con c) a) k h = absurd h
Every-form G ks (app (app c f) a) k (j, e, hf, ha) = (
  (
    subst (λ z. Every (is_below (length ks)) any_name z) (sym e) (Every-code (is_below (length ks)) j),
    Every-form G ks f (arrow j k) hf,
  ),
  Every-form G ks a j ha,
)

-- ---- the value of a type of unification

pub value-has : (G : Globals) (kinds : Kinds) (ks : List KindTerm) (g : TypeAssignment)
    → ((i : ℕ) (j : KindTerm) → slice_get ks i ≡ Some j → HasKind (plain_names G) kinds (g i) j)
    → (t : Plain) (k : KindTerm) → IsForm G ks t k → HasKind (plain_names G) kinds (value g t) k
value-has G kinds ks g kd (var i) k h = kd i k h
value-has G kinds ks g kd (con (rigid i)) k h = absurd h
value-has G kinds ks g kd (con (named n j)) k h = h
value-has G kinds ks g kd (app (var i) a) k h = absurd h
value-has G kinds ks g kd (app (con c) a) k h = absurd h
value-has G kinds ks g kd (app (app c f) a) k (j, e, hf, ha) =
    (j, value-has G kinds ks g kd f (arrow j k) hf, value-has G kinds ks g kd a j ha)

-- a type with the codes of types for its unknowns is the code of its value
pub applied-value : (G : Globals) (kinds : Kinds) (ks : List KindTerm) (g : TypeAssignment)
    → ((i : ℕ) (j : KindTerm) → slice_get ks i ≡ Some j → HasKind (plain_names G) kinds (g i) j)
    → (t : Plain) (k : KindTerm) → IsForm G ks t k
    → bare (applied (λ i. type_code G kinds (g i)) t) ≡ bare (type_code G kinds (value g t))
applied-value G kinds ks g kd (var i) k h = refl
applied-value G kinds ks g kd (con (rigid i)) k h = absurd h
applied-value G kinds ks g kd (con (named n j)) k h = refl
applied-value G kinds ks g kd (app (var i) a) k h = absurd h
applied-value G kinds ks g kd (app (con c) a) k h = absurd h
applied-value G kinds ks g kd (app (app c f) a) k (j, e, hf, ha) =
    ap₂ app
    (ap₂ app
    (ap bare (ap (applied (λ i. type_code G kinds (g i))) e ∙ applied-code _ j
    ∙ ap code (sym (kind_under-is G kinds (value g a) j (value-has G kinds ks g kd a j ha)))))
    (applied-value G kinds ks g kd f (arrow j k) hf))
    (applied-value G kinds ks g kd a j ha)

pub equals_from : (G : Globals) (kinds : Kinds) (ks : List KindTerm) (g : TypeAssignment)
    → ((i : ℕ) (j : KindTerm) → slice_get ks i ≡ Some j → HasKind (plain_names G) kinds (g i) j)
    → (t u : Plain) (k : KindTerm) → IsForm G ks t k → IsForm G ks u k → value g t ≡ value g u
    → Equals (λ i. type_code G kinds (g i)) t u
equals_from G kinds ks g kd t u k p q e = applied-value G kinds ks g kd t k p ∙ ap (λ z. bare (type_code G kinds z)) e
    ∙ sym (applied-value G kinds ks g kd u k q)

-- ---- back from types of unification

pub value-code : (G : Globals) (kinds : Kinds) (g : TypeAssignment) (t : TypeTerm)
    → value g (type_code G kinds t) ≡ t
value-code G kinds g (var i) = refl
value-code G kinds g (con n) = refl
value-code G kinds g (app f a) = ap₂ app (value-code G kinds g f) (value-code G kinds g a)

pub value-bare : (g : TypeAssignment) (t : Plain) → value g (bare t) ≡ value g t
value-bare g (var i) = refl
value-bare g (con (rigid i)) = refl
value-bare g (con (named n j)) = refl
value-bare g (app (var i) a) = refl
value-bare g (app (con c) a) = refl
value-bare g (app (app c f) a) = ap₂ app (value-bare g f) (value-bare g a)

pub value-applied : (G : Globals) (ks : List KindTerm) (g : TypeAssignment) (s : Assignment) (t : Plain) (k : KindTerm)
    → IsForm G ks t k → value g (applied s t) ≡ value (λ i. value g (s i)) t
value-applied G ks g s (var i) k h = refl
value-applied G ks g s (con (rigid i)) k h = absurd h
value-applied G ks g s (con (named n j)) k h = refl
value-applied G ks g s (app (var i) a) k h = absurd h
value-applied G ks g s (app (con c) a) k h = absurd h
value-applied G ks g s (app (app c f) a) k (j, e, hf, ha) =
    ap₂ app (value-applied G ks g s f (arrow j k) hf) (value-applied G ks g s a j ha)

value-coded : (G : Globals) (kinds : Kinds) (ks : List KindTerm) (g : TypeAssignment) (t : Plain) (k : KindTerm)
    → IsForm G ks t k → value g (bare (applied (λ i. type_code G kinds (g i)) t)) ≡ value g t
value-coded G kinds ks g t k h =
    value-bare g _ ∙ value-applied G ks g (λ i. type_code G kinds (g i)) t k h
    ∙ ap (λ s. value s t) (fun_ext (λ i. value-code G kinds g (g i)))

pub values_from : (G : Globals) (kinds : Kinds) (ks : List KindTerm) (g : TypeAssignment) (t u : Plain) (k : KindTerm)
    → IsForm G ks t k → IsForm G ks u k → Equals (λ i. type_code G kinds (g i)) t u → value g t ≡ value g u
values_from G kinds ks g t u k p q e = sym (value-coded G kinds ks g t k p) ∙ ap (value g) e
    ∙ value-coded G kinds ks g u k q

-- ---- a type of a kind, whatever it is read from

pub type_of-bare : (G : Globals) (d : KindTerm → TypeTerm) (k : KindTerm) (t : Plain)
    → type_of G d k (bare t) ≡ type_of G d k t
type_of-bare G d k (var i) = refl
type_of-bare G d k (con (rigid i)) = refl
type_of-bare G d k (con (named n j)) = refl
type_of-bare G d k (app (var i) a) = refl
type_of-bare G d k (app (con c) a) = refl
type_of-bare G d k (app (app c f) a) = rw (decided-bare c)
    (ap₂ app (type_of-bare G d (arrow (decided c) k) f) (type_of-bare G d (decided c) a))

pub type_of-has : (G : Globals) (kinds : Kinds) (d : KindTerm → TypeTerm)
    → ((k : KindTerm) → HasKind (plain_names G) kinds (d k) k)
    → (k : KindTerm) (t : Plain) → HasKind (plain_names G) kinds (type_of G d k t) k
type_of-has G kinds d dk k (var i) = dk k
type_of-has G kinds d dk k (con (rigid i)) = dk k
type_of-has G kinds d dk k (con (named n j)) = go (is_type_of (G n) k) refl
  where
    go : (b : Bool) → is_type_of (G n) k ≡ b → HasKind (plain_names G) kinds (if b then con n else d k) k
    go true e = is_type_of-true (G n) k e
    go false e = dk k
type_of-has G kinds d dk k (app (var i) a) = dk k
type_of-has G kinds d dk k (app (con c) a) = dk k
type_of-has G kinds d dk k (app (app c f) a) =
    (decided c, type_of-has G kinds d dk (arrow (decided c) k) f, type_of-has G kinds d dk (decided c) a)

pub type_of-applied : (G : Globals) (d : KindTerm → TypeTerm) (ks : List KindTerm) (s : Assignment) (t : Plain)
    (k : KindTerm) → IsForm G ks t k
    → type_of G d k (applied s t) ≡ value (λ i. type_of G d (kind_or_star (slice_get ks i)) (s i)) t
type_of-applied G d ks s (var i) k h = ap (λ m. type_of G d (kind_or_star m) (s i)) (sym h)
type_of-applied G d ks s (con (rigid i)) k h = absurd h
type_of-applied G d ks s (con (named n j)) k h =
    ap (λ b. if b then con n else d k) (ap (λ m. is_type_of m k) h ∙ same_kind-itself k)
type_of-applied G d ks s (app (var i) a) k h = absurd h
type_of-applied G d ks s (app (con c) a) k h = absurd h
type_of-applied G d ks s (app (app c f) a) k (j, e, hf, ha) =
    let p : decided (applied s c) ≡ j = ap (λ z. decided (applied s z)) e ∙ ap decided (applied-code s j)
    ∙ decided-code j in
    rw p (ap₂ app (type_of-applied G d ks s f (arrow j k) hf) (type_of-applied G d ks s a j ha))

-- types that an assignment makes equal are read back as one
pub type_of-equals : (G : Globals) (d : KindTerm → TypeTerm) (ks : List KindTerm) (s : Assignment) (t u : Plain)
    (k : KindTerm) → IsForm G ks t k → IsForm G ks u k → Equals s t u
    → value (λ i. type_of G d (kind_or_star (slice_get ks i)) (s i)) t
    ≡ value (λ i. type_of G d (kind_or_star (slice_get ks i)) (s i)) u
type_of-equals G d ks s t u k p q e =
    sym (type_of-applied G d ks s t k p) ∙ sym (type_of-bare G d k (applied s t)) ∙ ap (type_of G d k) e
    ∙ type_of-bare G d k (applied s u) ∙ type_of-applied G d ks s u k q
