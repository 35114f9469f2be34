-- The heads of patterns, in the shape in which the code meets them.
use Rattle.std.proofs.Common.{◌≡◌, sym, ap, subst, ◌∙◌, ℕ, ◌≤◌, List, [], ◌∷◌, ◌++◌, map}
use Rattle.std.proofs.lemmas.List.{length-map, map-append}
use Rattle.std.specs.Prelude.{Some, ◌≢◌, length, replicate}
use Rattle.std.specs.List.{range_with_len}
use Rattle.bp_base.specs.Lists.{Among}
use Rattle.bp_base.specs.declared.ty.Kind.TheVariants.{Star}
use Rattle.bp_base.specs.declared.ty.OrigName.{OrigName}
use Rattle.type_terms.specs.Terms.{var}
use Rattle.hs_core.specs.Types.{star, kind_term}
use Rattle.type_unify.specs.Types.{Plain}
use Rattle.type_equations.specs.States.{State, state_of, Equates, Refuses}
use Rattle.type_equations.specs.Demands.{with_unknowns}
use Rattle.type_equations.specs.Syntax.{plain_functions, plain_list, plain_tuple, unknowns}
use Rattle.type_equations.specs.declared.equations.Equations.{Equations}
use Rattle.infer_patterns.specs.Names.{kinds_of_declared, instance}
use Rattle.infer_patterns.specs.Patterns.{TupleEntered, TupleRefused, ListEntered, ListRefused, ConEntered, ConRefused}
use Rattle.infer_patterns.specs.Patterns.{con_state, con_parts}
use Rattle.infer_patterns.specs.declared.names.Declared.{Declared}
use Rattle.infer_patterns.proofs.EnterLemmas.{kinds_behind, state_behind, tuple_entered, tuple_refused, list_entered}
use Rattle.infer_patterns.proofs.EnterLemmas.{list_refused}
use Rattle.infer_patterns.proofs.ConEnterLemmas.{con_entered, con_refused}

-- the types that are made equal, and the state in which they are
abbrev pub Equal : State → Plain → Plain → State → Type 0
Equal new t u old = Equates old new t u

known : (old : Equations) → length old.kinds.items ≡ length (map kind_term old.kinds.items)
known old = sym (length-map old.kinds.items kind_term)

-- ---- lists

list_state : (old mid : Equations) → mid.bindings ≡ old.bindings → mid.kinds.items ≡ old.kinds.items ++ Star ∷ []
    → state_of mid ≡ with_unknowns (state_of old) (star ∷ [])
list_state old mid s k = state_behind (state_of old) (state_of mid) (star ∷ []) s
    (ap (map kind_term) k ∙ map-append kind_term old.kinds.items (Star ∷ []))

list_is : (old : Equations) (item : ℕ) (inner ty : Plain) → item ≡ length old.kinds.items → inner ≡ var item
    → ty ≡ plain_list inner → ty ≡ plain_list (var (length (map kind_term old.kinds.items)))
list_is old item inner ty i n t = t ∙ ap plain_list (n ∙ ap (λ j. var j) (i ∙ known old))

pub list_head_ok : (old mid : Equations) (new : State) (v item : ℕ) (own inner ty : Plain) → mid.bindings ≡ old.bindings
    → mid.kinds.items ≡ old.kinds.items ++ Star ∷ [] → item ≡ length old.kinds.items → own ≡ var v → inner ≡ var item
    → ty ≡ plain_list inner → Equates (state_of mid) new own ty → ListEntered (state_of old) new v
list_head_ok old mid new v item own inner ty s k i o n t h =
    list_entered (state_of old) (state_of mid) new v (list_state old mid s k)
    (subst (λ z. Equates (state_of mid) new z (plain_list (var (length (map kind_term old.kinds.items))))) o
    (subst (λ z. Equates (state_of mid) new own z) (list_is old item inner ty i n t) h))

pub list_head_err : (old mid : Equations) (v item : ℕ) (own inner ty : Plain) → mid.bindings ≡ old.bindings
    → mid.kinds.items ≡ old.kinds.items ++ Star ∷ [] → item ≡ length old.kinds.items → own ≡ var v → inner ≡ var item
    → ty ≡ plain_list inner → Refuses (state_of mid) own ty → ListRefused (state_of old) v
list_head_err old mid v item own inner ty s k i o n t h =
    list_refused (state_of old) (state_of mid) v (list_state old mid s k)
    (subst (λ z. Refuses (state_of mid) z (plain_list (var (length (map kind_term old.kinds.items))))) o
    (subst (λ z. Refuses (state_of mid) own z) (list_is old item inner ty i n t) h))

-- ---- tuples

tuple_state : (old mid : Equations) (m : ℕ) → mid.bindings ≡ old.bindings
    → mid.kinds.items ≡ old.kinds.items ++ replicate m Star
    → state_of mid ≡ with_unknowns (state_of old) (replicate m star)
tuple_state old mid m s k = state_behind (state_of old) (state_of mid) (replicate m star) s
    (kinds_behind old.kinds.items mid.kinds.items m k)

tuple_is : (old : Equations) (m : ℕ) (ids slice : List ℕ) (ty : Plain) → ids ≡ range_with_len (length old.kinds.items) m
    → slice ≡ ids → ty ≡ plain_tuple (unknowns slice)
    → ty ≡ plain_tuple (unknowns (range_with_len (length (map kind_term old.kinds.items)) m))
tuple_is old m ids slice ty i n t = t
    ∙ ap (λ l. plain_tuple (unknowns l)) (n ∙ i ∙ ap (λ a. range_with_len a m) (known old))

pub tuple_head_ok : (old mid : Equations) (new : State) (v m : ℕ) (ids slice : List ℕ) (own ty : Plain) → m ≤ 15 → m ≢ 1
    → mid.bindings ≡ old.bindings → mid.kinds.items ≡ old.kinds.items ++ replicate m Star
    → ids ≡ range_with_len (length old.kinds.items) m → slice ≡ ids → own ≡ var v → ty ≡ plain_tuple (unknowns slice)
    → Equates (state_of mid) new own ty → TupleEntered (state_of old) new v m
tuple_head_ok old mid new v m ids slice own ty l e s k i n o t h =
    tuple_entered (state_of old) (state_of mid) new v m (tuple_state old mid m s k) l e
    (subst (λ z. Equates (state_of mid) new z
    (plain_tuple (unknowns (range_with_len (length (map kind_term old.kinds.items)) m)))) o
    (subst (λ z. Equates (state_of mid) new own z) (tuple_is old m ids slice ty i n t) h))

pub tuple_head_err : (old mid : Equations) (v m : ℕ) (ids slice : List ℕ) (own ty : Plain) → m ≤ 15 → m ≢ 1
    → mid.bindings ≡ old.bindings → mid.kinds.items ≡ old.kinds.items ++ replicate m Star
    → ids ≡ range_with_len (length old.kinds.items) m → slice ≡ ids → own ≡ var v → ty ≡ plain_tuple (unknowns slice)
    → Refuses (state_of mid) own ty → TupleRefused (state_of old) v m
tuple_head_err old mid v m ids slice own ty l e s k i n o t h =
    tuple_refused (state_of old) (state_of mid) v m (tuple_state old mid m s k) l e
    (subst (λ z. Refuses (state_of mid) z
    (plain_tuple (unknowns (range_with_len (length (map kind_term old.kinds.items)) m)))) o
    (subst (λ z. Refuses (state_of mid) own z) (tuple_is old m ids slice ty i n t) h))

-- ---- constructors

con_state-is : (old mid : Equations) (d : Declared) (m : ℕ) → mid.bindings ≡ old.bindings
    → mid.kinds.items ≡ (old.kinds.items ++ d.kinds.items) ++ replicate m Star
    → state_of mid ≡ con_state (state_of old) d m
con_state-is old mid d m s k =
    state_behind (with_unknowns (state_of old) (kinds_of_declared d)) (state_of mid) (replicate m star) s
    (kinds_behind (old.kinds.items ++ d.kinds.items) mid.kinds.items m k
    ∙ ap (λ l. l ++ replicate m star) (map-append kind_term old.kinds.items d.kinds.items))

con_parts-are : (old : Equations) (d : Declared) (m : ℕ) (ids : List ℕ)
    → ids ≡ range_with_len (length (old.kinds.items ++ d.kinds.items)) m → ids ≡ con_parts (state_of old) d m
con_parts-are old d m ids p = p
    ∙ ap (λ a. range_with_len a m)
    (sym (length-map (old.kinds.items ++ d.kinds.items) kind_term)
    ∙ ap length (map-append kind_term old.kinds.items d.kinds.items))

own_is : (old : Equations) (d : Declared) (own : Plain)
    → own ≡ instance (map kind_term d.kinds.items) (length old.kinds.items) d.ty
    → own ≡ instance (kinds_of_declared d) (length (map kind_term old.kinds.items)) d.ty
own_is old d own o = o ∙ ap (λ a. instance (kinds_of_declared d) a d.ty) (known old)

wanted_is : (old : Equations) (d : Declared) (v m : ℕ) (ids slice : List ℕ) (result ty : Plain)
    → ids ≡ range_with_len (length (old.kinds.items ++ d.kinds.items)) m → slice ≡ ids → result ≡ var v
    → ty ≡ plain_functions (unknowns slice) result
    → ty ≡ plain_functions (unknowns (con_parts (state_of old) d m)) (var v)
wanted_is old d v m ids slice result ty p n r t = t ∙ ap (plain_functions (unknowns slice)) r
    ∙ ap (λ l. plain_functions (unknowns l) (var v)) (n ∙ con_parts-are old d m ids p)

pub con_head_ok : (names : List Declared) (old mid : Equations) (new : State) (n : OrigName) (v m k : ℕ)
    (ids slice : List ℕ) (d : Declared) (own result ty : Plain) → Among d names → d.name ≡ n → d.fields ≡ Some k → k ≡ m
    → mid.bindings ≡ old.bindings → mid.kinds.items ≡ (old.kinds.items ++ d.kinds.items) ++ replicate m Star
    → ids ≡ range_with_len (length (old.kinds.items ++ d.kinds.items)) m → slice ≡ ids
    → own ≡ instance (map kind_term d.kinds.items) (length old.kinds.items) d.ty → result ≡ var v
    → ty ≡ plain_functions (unknowns slice) result → Equates (state_of mid) new own ty
    → ConEntered names (state_of old) new n v m ids
con_head_ok names old mid new n v m k ids slice d own result ty a nm f e s q p l o r t h =
    con_entered names (state_of old) (state_of mid) new n v m ids d a nm (f ∙ ap (λ j. Some j) e)
    (con_parts-are old d m ids p) (con_state-is old mid d m s q)
    (subst (λ z. Equates (state_of mid) new z (plain_functions (unknowns (con_parts (state_of old) d m)) (var v)))
    (own_is old d own o)
    (subst (λ z. Equates (state_of mid) new own z) (wanted_is old d v m ids slice result ty p l r t) h))

pub con_head_err : (names : List Declared) (old mid : Equations) (n : OrigName) (v m k : ℕ) (ids slice : List ℕ)
    (d : Declared) (own result ty : Plain) → Among d names → d.name ≡ n → d.fields ≡ Some k → k ≡ m
    → mid.bindings ≡ old.bindings → mid.kinds.items ≡ (old.kinds.items ++ d.kinds.items) ++ replicate m Star
    → ids ≡ range_with_len (length (old.kinds.items ++ d.kinds.items)) m → slice ≡ ids
    → own ≡ instance (map kind_term d.kinds.items) (length old.kinds.items) d.ty → result ≡ var v
    → ty ≡ plain_functions (unknowns slice) result → Refuses (state_of mid) own ty
    → ConRefused names (state_of old) n v m
con_head_err names old mid n v m k ids slice d own result ty a nm f e s q p l o r t h =
    con_refused names (state_of old) (state_of mid) n v m d a nm (f ∙ ap (λ j. Some j) e) (con_state-is old mid d m s q)
    (subst (λ z. Refuses (state_of mid) z (plain_functions (unknowns (con_parts (state_of old) d m)) (var v)))
    (own_is old d own o)
    (subst (λ z. Refuses (state_of mid) own z) (wanted_is old d v m ids slice result ty p l r t) h))
