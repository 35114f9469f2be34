-- The arms of the walk through a pattern, in the shape in which the code meets them.
use Rattle.std.proofs.Common.{◌≡◌, sym, ap₂, subst, ◌∙◌, ℕ, List, [], ◌∷◌, ◌++◌, map}
use Rattle.std.proofs.lemmas.List.{length-map}
use Rattle.std.specs.Prelude.{Result, Ok, Err, OnOk, IfErr, length, replicate}
use Rattle.std.specs.List.{range_with_len}
use Rattle.bp_base.specs.Texts.{Text}
use Rattle.bp_base.specs.declared.ty.OrigName.{OrigName}
use Rattle.hs_core.specs.declared.tree.Pat.{Pat}
use Rattle.hs_core.specs.declared.tree.Pat.TheVariants.{PCon, PTuple, PList, PAs, PLazy}
use Rattle.hs_core.specs.Types.{kind_term}
use Rattle.type_equations.specs.States.{State, state_of}
use Rattle.type_equations.specs.declared.equations.Binder.{Binder}
use Rattle.type_equations.specs.declared.equations.Failure.{Failure}
use Rattle.type_equations.specs.declared.equations.Equations.{Equations}
use Rattle.infer_patterns.specs.Patterns.{PatternInferred, PatternRefused, PatternsInferred, PatternsRefused}
use Rattle.infer_patterns.specs.Patterns.{TupleEntered, ListEntered, ConEntered}
use Rattle.infer_patterns.specs.declared.names.Declared.{Declared}
use Rattle.infer_patterns.proofs.EnterLemmas.{as_inferred, as_refused, lazy_inferred, lazy_refused, tuple_inferred}
use Rattle.infer_patterns.proofs.EnterLemmas.{tuple_parts_refused, list_inferred, list_items_refused}
use Rattle.infer_patterns.proofs.ConEnterLemmas.{con_inferred, con_parts_refused}

pub on_ok : {A E : Type 0} {P Q : Type 0} (r : Result A E) → (P → Q) → OnOk r P → OnOk r Q
on_ok (Ok x) f h = f h
on_ok (Err e) f h = h

pub if_err : {A : Type 0} {P Q : Type 0} (r : Result A Failure) → (P → Q)
    → IfErr r (λ e. e ≡ Failure.NoTyping → P) → IfErr r (λ e. e ≡ Failure.NoTyping → Q)
if_err (Ok x) f h = h
if_err (Err e) f h = λ w. f (h w)

abbrev pub Inferred : List Declared → List Binder → List Binder → State → State → ℕ → Pat → Type 0
Inferred names before after old new v p = PatternInferred names before after old new p v

abbrev pub Refused : List Declared → State → ℕ → Pat → Type 0
Refused names old v p = PatternRefused names old p v

range_of : (old : Equations) (parts : List Pat) (is ids : List ℕ) (m : ℕ) → is ≡ ids → m ≡ length parts
    → ids ≡ range_with_len (length old.kinds.items) m
    → is ≡ range_with_len (length (map kind_term old.kinds.items)) (length parts)
range_of old parts is ids m e l r = e ∙ r ∙ ap₂ range_with_len (sym (length-map old.kinds.items kind_term)) l

copies_of : (old : Equations) (parts : List Pat) (is ids : List ℕ) (m : ℕ) → is ≡ ids → m ≡ length parts
    → ids ≡ replicate m (length old.kinds.items)
    → is ≡ replicate (length parts) (length (map kind_term old.kinds.items))
copies_of old parts is ids m e l r = e ∙ r ∙ ap₂ replicate l (sym (length-map old.kinds.items kind_term))

pub tuple_ok : (names : List Declared) (before after : List Binder) (old : Equations) (middle new : State) (pat : Pat)
    (parts ps : List Pat) (is ids : List ℕ) (v m : ℕ) → pat ≡ PTuple parts → ps ≡ parts → is ≡ ids → m ≡ length parts
    → ids ≡ range_with_len (length old.kinds.items) m → TupleEntered (state_of old) middle v m
    → PatternsInferred names before after middle new ps is
    → PatternInferred names before after (state_of old) new pat v
tuple_ok names before after old middle new pat parts ps is ids v m w p e l r t h =
    subst (Inferred names before after (state_of old) new v) (sym w)
    (tuple_inferred names before after (state_of old) middle new parts is v (range_of old parts is ids m e l r)
    (subst (λ k. TupleEntered (state_of old) middle v k) l t)
    (subst (λ z. PatternsInferred names before after middle new z is) p h))

pub tuple_err : (names : List Declared) (old : Equations) (middle : State) (pat : Pat) (parts ps : List Pat)
    (is ids : List ℕ) (v m : ℕ) → pat ≡ PTuple parts → ps ≡ parts → is ≡ ids → m ≡ length parts
    → ids ≡ range_with_len (length old.kinds.items) m → TupleEntered (state_of old) middle v m
    → PatternsRefused names middle ps is → PatternRefused names (state_of old) pat v
tuple_err names old middle pat parts ps is ids v m w p e l r t h =
    subst (Refused names (state_of old) v) (sym w)
    (tuple_parts_refused names (state_of old) middle parts is v (range_of old parts is ids m e l r)
    (subst (λ k. TupleEntered (state_of old) middle v k) l t)
    (subst (λ z. PatternsRefused names middle z is) p h))

pub list_ok : (names : List Declared) (before after : List Binder) (old : Equations) (middle new : State) (pat : Pat)
    (parts ps : List Pat) (is ids : List ℕ) (v m : ℕ) → pat ≡ PList parts → ps ≡ parts → is ≡ ids → m ≡ length parts
    → ids ≡ replicate m (length old.kinds.items) → ListEntered (state_of old) middle v
    → PatternsInferred names before after middle new ps is
    → PatternInferred names before after (state_of old) new pat v
list_ok names before after old middle new pat parts ps is ids v m w p e l r t h =
    subst (Inferred names before after (state_of old) new v) (sym w)
    (list_inferred names before after (state_of old) middle new parts is v (copies_of old parts is ids m e l r) t
    (subst (λ z. PatternsInferred names before after middle new z is) p h))

pub list_err : (names : List Declared) (old : Equations) (middle : State) (pat : Pat) (parts ps : List Pat)
    (is ids : List ℕ) (v m : ℕ) → pat ≡ PList parts → ps ≡ parts → is ≡ ids → m ≡ length parts
    → ids ≡ replicate m (length old.kinds.items) → ListEntered (state_of old) middle v
    → PatternsRefused names middle ps is → PatternRefused names (state_of old) pat v
list_err names old middle pat parts ps is ids v m w p e l r t h =
    subst (Refused names (state_of old) v) (sym w)
    (list_items_refused names (state_of old) middle parts is v (copies_of old parts is ids m e l r) t
    (subst (λ z. PatternsRefused names middle z is) p h))

pub con_ok : (names : List Declared) (before after : List Binder) (old middle new : State) (pat : Pat) (n : OrigName)
    (parts ps : List Pat) (is ids : List ℕ) (v m : ℕ) → pat ≡ PCon n parts → ps ≡ parts → is ≡ ids → m ≡ length parts
    → ConEntered names old middle n v m ids → PatternsInferred names before after middle new ps is
    → PatternInferred names before after old new pat v
con_ok names before after old middle new pat n parts ps is ids v m w p e l t h =
    subst (Inferred names before after old new v) (sym w)
    (con_inferred names before after old middle new n parts ids v
    (subst (λ k. ConEntered names old middle n v k ids) l t)
    (subst (λ z. PatternsInferred names before after middle new parts z) e
    (subst (λ z. PatternsInferred names before after middle new z is) p h)))

pub con_err : (names : List Declared) (old middle : State) (pat : Pat) (n : OrigName) (parts ps : List Pat)
    (is ids : List ℕ) (v m : ℕ) → pat ≡ PCon n parts → ps ≡ parts → is ≡ ids → m ≡ length parts
    → ConEntered names old middle n v m ids → PatternsRefused names middle ps is → PatternRefused names old pat v
con_err names old middle pat n parts ps is ids v m w p e l t h =
    subst (Refused names old v) (sym w)
    (con_parts_refused names old middle n parts ids v (subst (λ k. ConEntered names old middle n v k ids) l t)
    (subst (λ z. PatternsRefused names middle parts z) e (subst (λ z. PatternsRefused names middle z is) p h)))

pub as_ok : (names : List Declared) (before middle after : List Binder) (old new : State) (pat inner p : Pat) (x : Text)
    (v : ℕ) → pat ≡ PAs x inner → p ≡ inner → middle ≡ before ++ record { name = x; unknown = v } ∷ []
    → PatternInferred names middle after old new p v → PatternInferred names before after old new pat v
as_ok names before middle after old new pat inner p x v w e b h =
    subst (Inferred names before after old new v) (sym w)
    (as_inferred names before middle after old new x inner v b (subst (Inferred names middle after old new v) e h))

pub as_err : (names : List Declared) (old : State) (pat inner p : Pat) (x : Text) (v : ℕ) → pat ≡ PAs x inner
    → p ≡ inner → PatternRefused names old p v → PatternRefused names old pat v
as_err names old pat inner p x v w e h = subst (Refused names old v) (sym w)
    (as_refused names old x inner v (subst (Refused names old v) e h))

pub lazy_ok : (names : List Declared) (before after : List Binder) (old new : State) (pat inner p : Pat) (v : ℕ)
    → pat ≡ PLazy inner → p ≡ inner → PatternInferred names before after old new p v
    → PatternInferred names before after old new pat v
lazy_ok names before after old new pat inner p v w e h = subst (Inferred names before after old new v) (sym w)
    (lazy_inferred names before after old new inner v (subst (Inferred names before after old new v) e h))

pub lazy_err : (names : List Declared) (old : State) (pat inner p : Pat) (v : ℕ) → pat ≡ PLazy inner → p ≡ inner
    → PatternRefused names old p v → PatternRefused names old pat v
lazy_err names old pat inner p v w e h = subst (Refused names old v) (sym w)
    (lazy_refused names old inner v (subst (Refused names old v) e h))
