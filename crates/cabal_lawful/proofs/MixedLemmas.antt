-- The entries of `mixins` that are read.
use Rattle.std.proofs.Common.{◌≡◌, inl, inr, refl, Bool, true, false, ◌==◌, cond, codes, List, [], ◌∷◌, length}
use Rattle.std.proofs.Common.{map, Option, Some, None, option_map}
use Rattle.std.specs.Prelude.{IfSome}
use Rattle.std.specs.List.{AllByRecursion}
use Rattle.bp_base.specs.declared.linking.Rename.{Rename}
use Rattle.bp_base.specs.Lists.{Among, AreDistinct}
use Rattle.bp_base.specs.Texts.{Text}
use Rattle.cabal_text.specs.Tokens.{cons_if, each_read}
use Rattle.cabal_text.specs.Names.{is_dependency, renames_of, names_of}
use Rattle.cabal_component.specs.declared.component.Mixin.{Mixin}
use Rattle.cabal_component.specs.declared.component.Provides.{Provides}
use Rattle.cabal_component.specs.declared.component.Provides.TheVariants.{Whole, Listed, Hiding}
use Rattle.cabal_component.specs.Entries.{bracket_of, word_bracket, news_repeat, olds_repeat, needs_if, needs_in}
use Rattle.cabal_component.specs.Entries.{needs_of, mixin, mixin_with, listed_with, hiding_with, entry_at, entry_of}
use Rattle.cabal_component.specs.Entries.{mixins_of}
use Rattle.cabal_stanzas.specs.declared.table.ComponentField.TheVariants as f
use Rattle.cabal_component.specs.declared.given.Value.TheVariants as v
use Rattle.cabal_component.specs.Given.{value_of, mixins_in}
use Rattle.cabal_component.specs.Reading.{resolved_mixin}
use Rattle.cabal_component.specs.Lawful.{HasNewsApart, IsLawfulEntry}
use Rattle.cabal_lawful.proofs.ApartLemmas.{repeats_none}

each_step : {X : Type 0} (P : X → Type 0) (o : Option X) (m : Option (List X)) → IfSome o P
    → IfSome m (AllByRecursion P) → IfSome (cons_if o m) (AllByRecursion P)
each_step P None m h k = tt
each_step P (Some x) None h k = tt
each_step P (Some x) (Some xs) h k = (h, k)

-- where each item that is read has a property, all have it
each_all : {A X : Type 0} (reads : A → Option X) (P : X → Type 0) → ((item : A) → IfSome (reads item) P)
    → (items : List A) → IfSome (each_read reads items) (AllByRecursion P)
each_all reads P f [] = tt
each_all reads P f (item ∷ items) =
    each_step P (reads item) (each_read reads items) (f item) (each_all reads P f items)

cond_some : {X : Type 0} (P : X → Type 0) (r : Bool) (one other : Option X) → (r ≡ true → IfSome one P)
    → (r ≡ false → IfSome other P) → IfSome (cond r one other) P
cond_some P true one other f g = f refl
cond_some P false one other f g = g refl

-- no two renamings of requirements have one old name
abbrev HasOldsApart : List Rename → Type 0
HasOldsApart needs = AreDistinct (map (λ (r : Rename). r.from) needs)

needs_if_ok : (o : Option (List Rename)) → IfSome (needs_if o) HasOldsApart
needs_if_ok None = tt
needs_if_ok (Some ns) =
    cond_some HasOldsApart (olds_repeat ns) None (Some ns) (λ q. tt)
    (λ q. (repeats_none [] (map (λ (r : Rename). r.from) ns) q).distinct)

needs_in_ok : (o : Option (List Text × List Text)) → IfSome (needs_in o) HasOldsApart
needs_in_ok None = tt
needs_in_ok (Some x) =
    cond_some HasOldsApart (length x.1 == 0) (needs_if (renames_of x.0)) None (λ q. needs_if_ok (renames_of x.0))
    (λ q. tt)

needs_ok : (tokens : List Text) → IfSome (needs_of tokens) HasOldsApart
needs_ok [] = tt
needs_ok (token ∷ tokens) = needs_in_ok (word_bracket (codes "requires") (token ∷ tokens))

with_step : (dep : Text) (provides : Provides) (o : Option (List Rename)) → HasNewsApart provides
    → IfSome o HasOldsApart → IfSome (option_map (λ needs. mixin dep provides needs) o) IsLawfulEntry
with_step dep provides None n h = tt
with_step dep provides (Some needs) n h = record { news = n; olds = h }

with_ok : (dep : Text) (provides : Provides) (rest : List Text) → HasNewsApart provides
    → IfSome (mixin_with dep provides rest) IsLawfulEntry
with_ok dep provides rest n = with_step dep provides (needs_of rest) n (needs_ok rest)

listed_ok : (dep : Text) (o : Option (List Rename)) (rest : List Text) → IfSome (listed_with dep o rest) IsLawfulEntry
listed_ok dep None rest = tt
listed_ok dep (Some items) rest =
    cond_some IsLawfulEntry (news_repeat items) None (mixin_with dep (Listed items) rest) (λ q. tt)
    (λ q. with_ok dep (Listed items) rest ((repeats_none [] (map (λ (r : Rename). r.to) items) q).distinct))

hiding_ok : (dep : Text) (o : Option (List Text)) (rest : List Text) → IfSome (hiding_with dep o rest) IsLawfulEntry
hiding_ok dep None rest = tt
hiding_ok dep (Some names) rest = with_ok dep (Hiding names) rest tt

entry_at_ok : (dep : Text) (rest : List Text) (o p : Option (List Text × List Text))
    → IfSome (entry_at dep rest o p) IsLawfulEntry
entry_at_ok dep rest (Some x) p = listed_ok dep (renames_of x.0) x.1
entry_at_ok dep rest None (Some x) = hiding_ok dep (names_of x.0) x.1
entry_at_ok dep rest None None = with_ok dep Whole rest tt

entry_ok : (item : List Text) → IfSome (entry_of item) IsLawfulEntry
entry_ok [] = tt
entry_ok (dep ∷ rest) =
    cond_some IsLawfulEntry (is_dependency dep)
    (entry_at dep rest (bracket_of rest) (word_bracket (codes "hiding") rest)) None
    (λ q. entry_at_ok dep rest (bracket_of rest) (word_bracket (codes "hiding") rest)) (λ q. tt)

mixed_ok : (o : Option (List Mixin)) → IfSome o (AllByRecursion IsLawfulEntry)
    → AllByRecursion IsLawfulEntry (mixins_in (option_map (λ ms. v.Mixins ms) o))
mixed_ok None h = tt
mixed_ok (Some ms) h = h

-- the entries of a value of `mixins`
pub mixins_ok : (value : Text) → AllByRecursion IsLawfulEntry (mixins_in (value_of f.Mixins value))
mixins_ok value = mixed_ok (mixins_of value) (each_all entry_of IsLawfulEntry entry_ok _)

-- entries whose dependencies are resolved
pub resolved_ok : (owner : Text) (own : Text → Bool) (ms : List Mixin) → AllByRecursion IsLawfulEntry ms
    → AllByRecursion IsLawfulEntry (map (resolved_mixin owner own) ms)
resolved_ok owner own [] h = tt
resolved_ok owner own (m ∷ ms) h = (record { news = h.0.news; olds = h.0.olds }, resolved_ok owner own ms h.1)

-- each entry is of a dependency
pub entries_ok : (deps : List Text) (ms : List Mixin)
    → ((a : Text) → Among a (map (λ (m : Mixin). m.dep) ms) → Among a deps) → AllByRecursion IsLawfulEntry ms
    → AllByRecursion (λ (m : Mixin). Among m.dep deps × IsLawfulEntry m) ms
entries_ok deps [] f h = tt
entries_ok deps (m ∷ ms) f h = ((f m.dep (inl refl), h.0), entries_ok deps ms (λ a k. f a (inr k)) h.1)
