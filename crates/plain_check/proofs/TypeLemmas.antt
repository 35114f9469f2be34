-- Counting arrows decides which values have their declared types.
use Rattle.std.proofs.Common.{refl, sym, ap, ◌∙◌, subst, ◌≡◌, ℕ, zero, suc, ◌+◌, ◌-◌, ◌<◌, Bool, true, false}
use Rattle.std.proofs.Common.{◌||◌, ◌==◌, Option, Some, None, List, [], ◌∷◌, ◌++◌, length, take, drop, get_or, nat_le}
use Rattle.std.proofs.Common.{arith, add-one, if◌then◌else◌}
use Rattle.std.specs.List.{list_all}
use Rattle.std.specs.Option.{option_map}
use Rattle.std.proofs.lemmas.Bool.Decides.{nat_tests}
use Rattle.std.proofs.lemmas.List.{take-append-drop, take_more, drop_more, length-take-le}
use Rattle.std.proofs.lemmas.Bool.{and_parts, eqb-true, leb-true, le-leb, eq-eqb}
use Rattle.std.specs.Str.{bytes_eq}
use Rattle.bp_base.specs.Lists.{is_among}
use Rattle.plain_check.specs.Typing.{Plain, integer, function, Assumption, type_in, declared_type, assumptions_of}
use Rattle.plain_check.specs.Typing.{AtomHas, Applies, AtomsHave, ClauseHas, IsTyped, AreTyped, IsFirstIll}
use Rattle.plain_check.specs.Arities.{arrows_in, atom_arrows, is_no_arrow, is_integer, head_fits, atoms_fit, fits}
use Rattle.hs_plain.specs.declared.plain.Atom.{Atom}
use Rattle.hs_plain.specs.declared.plain.Atom.TheVariants.{Number, Argument, Declared}
use Rattle.hs_plain.specs.declared.plain.Binding.{Binding}

-- a declared type that is a function takes an `Int`
record Takes (n : ℕ) (u v : Plain) : Type 0 where
  left : ℕ
  more : n ≡ left + 1
  takes : u ≡ integer
  gives : v ≡ declared_type left

declared-function : (n : ℕ) (u v : Plain) → declared_type n ≡ function u v → Takes n u v
declared-function zero u v e = absurd (cc e)
declared-function (suc m) u v e = record { left = m; more = sym (add-one m); takes = cc e; gives = cc e }

declared-one : (m n : ℕ) → declared_type m ≡ declared_type n → m ≡ n
declared-one zero zero e = refl
declared-one zero (suc n) e = absurd (cc e)
declared-one (suc m) zero e = absurd (cc e)
declared-one (suc m) (suc n) e = ap suc (declared-one m n (cc e))

declared-more : (n : ℕ) → declared_type (n + 1) ≡ function integer (declared_type n)
declared-more n = ap declared_type (add-one n)

-- the types of the declared names are those of their arrows
type_in-entries : (bs : List Binding) (name : List ℕ)
    → type_in (assumptions_of bs) name ≡ option_map declared_type (arrows_in bs name)
type_in-entries [] name = refl
type_in-entries (b ∷ bs) name = by_cases (bytes_eq name b.occ) (type_in-entries bs name)
  where
    by_cases : (t : Bool) → type_in (assumptions_of bs) name ≡ option_map declared_type (arrows_in bs name)
        → (if t then Some (declared_type b.arrows) else type_in (assumptions_of bs) name) ≡ option_map declared_type
        (if t then Some b.arrows else arrows_in bs name)
    by_cases true h = refl
    by_cases false h = h

abbrev an_int : List ℕ → Assumption
an_int name = record { name = name; type = integer }

-- arguments of type `Int` behind others
abbrev pushed : List Assumption → List (List ℕ) → List Assumption
pushed locals [] = locals
pushed locals (arg ∷ args) = pushed (an_int arg ∷ locals) args

either_way : (a b : Bool) (s t : Option Plain) → (if b then s else (if a then s else t)) ≡ (if a || b then s else t)
either_way true true s t = refl
either_way true false s t = refl
either_way false true s t = refl
either_way false false s t = refl

type_in-pushed : (args : List (List ℕ)) (locals : List Assumption) (name : List ℕ)
    → type_in (pushed locals args) name ≡ (if is_among name args then Some integer else type_in locals name)
type_in-pushed [] locals name = refl
type_in-pushed (arg ∷ args) locals name =
    type_in-pushed args (an_int arg ∷ locals) name
    ∙ either_way (bytes_eq name arg) (is_among name args) (Some integer) (type_in locals name)

args_types : (t : Bool) → option_map declared_type (if t then Some 0 else None) ≡ (if t then Some integer else None)
args_types true = refl
args_types false = refl

module _ (bs : List Binding) (args : List (List ℕ)) where
  abbrev Globals : List Assumption
  Globals = assumptions_of bs

  abbrev Locals : List Assumption
  Locals = pushed [] args

  -- the type of an atom is that of its arrows
  atom_has : (a : Atom) (t : Plain) → AtomHas Globals Locals a t
      → option_map declared_type (atom_arrows bs args a) ≡ Some t
  atom_has (Number value) t e = ap Some (sym e)
  atom_has (Argument occ) t e = args_types (is_among occ args) ∙ (sym (type_in-pushed args [] occ) ∙ e)
  atom_has (Declared occ) t e = sym (type_in-entries bs occ) ∙ e

  has_atom : (a : Atom) (t : Plain) → option_map declared_type (atom_arrows bs args a) ≡ Some t
      → AtomHas Globals Locals a t
  has_atom (Number value) t e = cc e
  has_atom (Argument occ) t e = type_in-pushed args [] occ ∙ (sym (args_types (is_among occ args)) ∙ e)
  has_atom (Declared occ) t e = type_in-entries bs occ ∙ e

  an_integer : (o : Option ℕ) → is_no_arrow o ≡ true → option_map declared_type o ≡ Some integer
  an_integer None e = absurd (cc e)
  an_integer (Some k) e = let z : k ≡ 0 = grind (arith, nat_tests) in rw z refl

  integer_one : (o : Option ℕ) → option_map declared_type o ≡ Some integer → is_no_arrow o ≡ true
  integer_one None e = absurd (cc e)
  integer_one (Some k) e = let z : k ≡ 0 = declared-one k 0 (cc e) in rw z refl

  applies-into : (atoms : List Atom) (k m : ℕ) → Applies Globals Locals (declared_type k) atoms (declared_type m)
      → (list_all (is_integer bs args) atoms ≡ true) × (k ≡ length atoms + m)
  applies-into [] k m e = let z = declared-one k m e in (refl, omega (arith, z))
  applies-into (a ∷ atoms) k m (u, v, e, h, r) =
      let f = declared-function k u v e in
      let i : is_integer bs args a ≡ true =
      integer_one (atom_arrows bs args a) (atom_has a integer
      (subst (λ (w : Plain). AtomHas Globals Locals a w) f.takes h)) in
      let q = applies-into atoms f.left m (subst (λ (w : Plain). Applies Globals Locals w atoms (declared_type m))
      f.gives r) in
      (rw i q.0, omega (arith, q.1, f.more))

  applies-back : (atoms : List Atom) (k m : ℕ) → k ≡ length atoms + m → list_all (is_integer bs args) atoms ≡ true
      → Applies Globals Locals (declared_type k) atoms (declared_type m)
  applies-back [] k m e h = let z : k ≡ m = omega (arith, e) in ap declared_type z
  applies-back (a ∷ atoms) k m e h = by_cases (is_integer bs args a) refl (applies-back atoms (length atoms + m) m refl)
    where
      by_cases : (t : Bool) → is_integer bs args a ≡ t
          → (list_all (is_integer bs args) atoms ≡ true
          → Applies Globals Locals (declared_type (length atoms + m)) atoms (declared_type m))
          → Applies Globals Locals (declared_type k) (a ∷ atoms) (declared_type m)
      by_cases true f more =
          let n : k ≡ length atoms + m + 1 = omega (arith, e) in (
            integer,
            declared_type (length atoms + m),
            ap declared_type n ∙ declared-more (length atoms + m),
            has_atom a integer (an_integer (atom_arrows bs args a) f),
            more (rw f at h),
          )
      by_cases false f more = absurd (cc (rw f at h))

-- the right side under the arguments of a clause
record Opened (globals locals : List Assumption) (args : List (List ℕ)) (atoms : List Atom) (n : ℕ) : Type 0 where
  left : ℕ
  arrows_are : n ≡ length args + left
  right : AtomsHave globals (pushed locals args) atoms (declared_type left)

clause-into : (globals locals : List Assumption) (args : List (List ℕ)) (atoms : List Atom) (n : ℕ)
    → ClauseHas globals locals args atoms (declared_type n)
    → Opened globals locals args atoms n
clause-into globals locals [] atoms n h = record { left = n; arrows_are = omega arith; right = h }
clause-into globals locals (arg ∷ args) atoms n (u, v, e, h) =
    let f = declared-function n u v e in
    let q = clause-into globals (an_int arg ∷ locals) args atoms f.left
    (subst (λ (w : Plain). ClauseHas globals (an_int arg ∷ locals) args atoms w) f.gives
    (subst (λ (w : Plain). ClauseHas globals (record { name = arg; type = w } ∷ locals) args atoms v) f.takes h)) in
    record { left = q.left; arrows_are = omega (arith, q.arrows_are, f.more); right = q.right }

clause-back : (globals locals : List Assumption) (args : List (List ℕ)) (atoms : List Atom) (n m : ℕ)
    → n ≡ length args + m
    → AtomsHave globals (pushed locals args) atoms (declared_type m)
    → ClauseHas globals locals args atoms (declared_type n)
clause-back globals locals [] atoms n m e h = subst (λ (k : ℕ). AtomsHave globals locals atoms (declared_type k))
    (omega (arith, e)) h
clause-back globals locals (arg ∷ args) atoms n m e h =
    let k : n ≡ length args + m + 1 = omega (arith, e) in (
      integer,
      declared_type (length args + m),
      ap declared_type k ∙ declared-more (length args + m),
      clause-back globals (an_int arg ∷ locals) args atoms (length args + m) m refl h,
    )

pub typed_fits : (bs : List Binding) (b : Binding) → IsTyped (assumptions_of bs) b → fits bs b ≡ true
typed_fits bs b h = start (clause-into (assumptions_of bs) [] b.args b.atoms b.arrows h)
  where
    head : (atoms : List Atom) (o : Option ℕ) (t : Plain) (m : ℕ) → b.arrows ≡ length b.args + m
        → option_map declared_type o ≡ Some t
        → Applies (assumptions_of bs) (pushed [] b.args) t atoms (declared_type m) → head_fits bs b atoms o ≡ true
    head atoms None t m n e r = absurd (cc e)
    head atoms (Some k) t m n e r =
        let q = applies-into bs b.args atoms k m (subst
        (λ (w : Plain). Applies (assumptions_of bs) (pushed [] b.args) w atoms (declared_type m)) (sym (cc e)) r) in
        rw q.0 (eq-eqb (k + length b.args) (length atoms + b.arrows) (omega (arith, q.1, n)))

    right : (atoms : List Atom) (m : ℕ) → b.arrows ≡ length b.args + m
        → AtomsHave (assumptions_of bs) (pushed [] b.args) atoms (declared_type m)
        → atoms_fit bs b atoms ≡ true
    right [] m n h = absurd h
    right (a ∷ atoms) m n (t, e, r) = head atoms (atom_arrows bs b.args a) t m n (atom_has bs b.args a t e) r

    start : Opened (assumptions_of bs) [] b.args b.atoms b.arrows → fits bs b ≡ true
    start o = rw (le-leb (length b.args) b.arrows (omega (arith, o.arrows_are)))
        (right b.atoms o.left o.arrows_are o.right)

pub fits_typed : (bs : List Binding) (b : Binding) → fits bs b ≡ true → IsTyped (assumptions_of bs) b
fits_typed bs b h = start (and_parts (nat_le (length b.args) b.arrows) (atoms_fit bs b b.atoms) h)
  where
    head : (a : Atom) (atoms : List Atom) (o : Option ℕ) (m : ℕ) → b.arrows ≡ length b.args + m
        → atom_arrows bs b.args a ≡ o → head_fits bs b atoms o ≡ true
        → AtomsHave (assumptions_of bs) (pushed [] b.args) (a ∷ atoms) (declared_type m)
    head a atoms None m n e h = absurd (cc h)
    head a atoms (Some k) m n e h =
        let p = and_parts (list_all (is_integer bs b.args) atoms) (k + length b.args == length atoms + b.arrows) h in
        let q : k ≡ length atoms + m = omega (arith, eqb-true (k + length b.args) (length atoms + b.arrows) p.1, n) in (
          declared_type k,
          has_atom bs b.args a (declared_type k) (ap (option_map declared_type) e),
          applies-back bs b.args atoms k m q p.0,
        )

    right : (atoms : List Atom) (m : ℕ) → b.arrows ≡ length b.args + m → atoms_fit bs b atoms ≡ true
        → AtomsHave (assumptions_of bs) (pushed [] b.args) atoms (declared_type m)
    right [] m n h = absurd (cc h)
    right (a ∷ atoms) m n h = head a atoms (atom_arrows bs b.args a) m n refl h

    start : (nat_le (length b.args) b.arrows ≡ true) × (atoms_fit bs b b.atoms ≡ true) → IsTyped (assumptions_of bs) b
    start p =
        let l = leb-true (length b.args) b.arrows p.0 in
        let e : b.arrows ≡ length b.args + (b.arrows - length b.args) = omega (arith, l) in
        clause-back (assumptions_of bs) [] b.args b.atoms b.arrows (b.arrows - length b.args) e
        (right b.atoms (b.arrows - length b.args) e p.1)

-- one value more has its type
pub typed-push : (globals : List Assumption) (bs : List Binding) (b : Binding) → AreTyped globals bs → IsTyped globals b
    → AreTyped globals (bs ++ b ∷ [])
typed-push globals [] b h t = (t, h)
typed-push globals (c ∷ cs) b h t = (h.0, typed-push globals cs b h.1 t)

pub typed_next : (globals : List Assumption) (bs : List Binding) (i : ℕ) (item : Binding) → i < length bs
    → item ≡ get_or bs i item
    → AreTyped globals (take i bs) → IsTyped globals item → AreTyped globals (take (i + 1) bs)
typed_next globals bs i item h e typed t =
    subst (AreTyped globals) (sym (take_more bs i item h ∙ ap (λ (b : Binding). take i bs ++ b ∷ []) (sym e)))
    (typed-push globals (take i bs) item typed t)

-- the first value that has not its type
pub first_ill : (globals : List Assumption) (bs : List Binding) (i : ℕ) (item : Binding) → i < length bs
    → item ≡ get_or bs i item
    → AreTyped globals (take i bs) → (IsTyped globals item → ⊥) → IsFirstIll globals bs i
first_ill globals bs i item h e typed ill = record {
  before = take i bs;
  it = item;
  after = drop (i + 1) bs;
  parts =
      sym (take-append-drop i bs)
      ∙ ap (λ (l : List Binding). take i bs ++ l) (drop_more bs i item h
      ∙ ap (λ (b : Binding). b ∷ drop (i + 1) bs) (sym e));
  behind = sym (length-take-le i bs (omega (arith, h)));
  typed = typed;
  ill = ill;
}
