-- The components of a package file are lawful.
use Rattle.std.proofs.Common.{◌≡◌, refl, sym, ap, subst, Bool, true, false, cond, codes, ℕ, List, [], ◌∷◌, ◌++◌, map}
use Rattle.std.proofs.Common.{Option, Some, None}
use Rattle.std.specs.List.{AllByRecursion, flat_map}
use Rattle.bp_base.specs.Lists.{Among, AreDistinct}
use Rattle.bp_base.specs.Texts.{Text}
use Rattle.bp_base.proofs.SetLemmas.{among-right}
use Rattle.cabal_text.specs.declared.lines.Line.{Line}
use Rattle.cabal_text.specs.Lines.{Block, blocks, deeper_than}
use Rattle.cabal_stanzas.specs.declared.stanzas.Field.{Field}
use Rattle.cabal_stanzas.specs.declared.heads.Head.{Head}
use Rattle.cabal_stanzas.specs.declared.heads.Head.TheVariants.{Component, Common, Ignored, Other}
use Rattle.cabal_stanzas.specs.declared.table.Kind.{Kind}
use Rattle.cabal_stanzas.specs.declared.table.Kind.TheVariants.{Library, Executable}
use Rattle.cabal_stanzas.specs.declared.table.ComponentField.TheVariants as f
use Rattle.cabal_stanzas.specs.Stanzas.{fields_at, indent_in, odd_lines}
use Rattle.cabal_stanzas.specs.Heads.{refused_names, head_at, package_of, component_name}
use Rattle.cabal_component.specs.declared.component.Mixin.{Mixin}
use Rattle.cabal_component.specs.declared.given.Given.{Given}
use Rattle.cabal_component.specs.Given.{value_of, givens, modules_in, renames_in, main_in, mixins_in, modules_at}
use Rattle.cabal_component.specs.Given.{renames_at, main_at, mixins_at}
use Rattle.cabal_component.specs.Package.{main_refused, unread_lines, repeated, placed, twice_lines, fields_refused}
use Rattle.cabal_component.specs.Package.{givens_in, stanza_refused, block_refused, blocks_refused, package_refused}
use Rattle.cabal_component.specs.Reading.{is_own, is_executable, own_mixins, listed_deps, deps_of, component_with}
use Rattle.cabal_component.specs.Reading.{stanza_components, block_components, components_of}
use Rattle.cabal_component.specs.Lawful.{IsLawful, IsLawfulEntry}
use Rattle.cabal_lawful.proofs.ApartLemmas.{distinct_keeps, distinct_apart}
use Rattle.cabal_lawful.proofs.NameLemmas.{listed, own_listed, own_distinct, own_among, twice_none}
use Rattle.cabal_lawful.proofs.GivenLemmas.{value_met, not_read}
use Rattle.cabal_lawful.proofs.MixedLemmas.{mixins_ok, resolved_ok, entries_ok}

nil_left : {A : Type 0} (xs ys : List A) → xs ++ ys ≡ [] → xs ≡ []
nil_left [] ys e = refl
nil_left (x ∷ xs) ys e = absurd (cc)

nil_right : {A : Type 0} (xs ys : List A) → xs ++ ys ≡ [] → ys ≡ []
nil_right [] ys e = e
nil_right (x ∷ xs) ys e = absurd (cc)

all_append : {A : Type 0} (P : A → Type 0) (xs ys : List A) → AllByRecursion P xs → AllByRecursion P ys
    → AllByRecursion P (xs ++ ys)
all_append P [] ys h k = k
all_append P (x ∷ xs) ys h k = (h.0, all_append P xs ys h.1 k)

-- the own names with `Main` of an executable before them
own_names_apart : (kind : Kind) (head : ℕ) (gs : List Given) → AreDistinct (listed (placed kind head gs))
    → AreDistinct ((cond (is_executable kind) (codes "Main" ∷ []) []) ++ own_listed gs)
own_names_apart Library head gs d = own_distinct gs d
own_names_apart Executable head gs d = (λ h. d.0 (own_among gs (codes "Main") h), own_distinct gs d.1)

main_alone : (kind : Kind) (fs : List Field) → is_executable kind ≡ false → main_at (givens kind fs) ≡ []
main_alone Library fs e = ap main_in (not_read Library f.MainIs (λ r. absurd (cc)) fs)
main_alone Executable fs e = absurd (cc)

modules_alone : (kind : Kind) (fs : List Field) → is_executable kind ≡ true
    → (modules_at f.Signatures (givens kind fs) ≡ []) × (modules_at f.ExposedModules (givens kind fs) ≡ [])
    × (renames_at (givens kind fs) ≡ [])
modules_alone Library fs e = absurd (cc)
modules_alone Executable fs e = (
  ap modules_in (not_read Executable f.Signatures (λ r. absurd (cc)) fs),
  ap modules_in (not_read Executable f.ExposedModules (λ r. absurd (cc)) fs),
  ap renames_in (not_read Executable f.ReexportedModules (λ r. absurd (cc)) fs),
)

module _ (file owner : Text) (own : Text → Bool) where
  mixed_lawful : (kind : Kind) (fs : List Field) → AllByRecursion IsLawfulEntry (own_mixins owner own (givens kind fs))
  mixed_lawful kind fs =
      resolved_ok owner own (mixins_at (givens kind fs))
      (value_met (λ o. AllByRecursion IsLawfulEntry (mixins_in o)) kind f.Mixins tt
      (λ x text u e. subst (λ y. AllByRecursion IsLawfulEntry (mixins_in (value_of y text))) (sym e) (mixins_ok text))
      fs)

  entries_lawful : (kind : Kind) (fs : List Field)
      → AllByRecursion (λ (m : Mixin). Among m.dep (deps_of (listed_deps owner own (givens kind fs))
      (own_mixins owner own (givens kind fs))) × IsLawfulEntry m) (own_mixins owner own (givens kind fs))
  entries_lawful kind fs =
      let deps = listed_deps owner own (givens kind fs) in
      let mixed = map (λ (m : Mixin). m.dep) (own_mixins owner own (givens kind fs)) in
      entries_ok (deps_of deps (own_mixins owner own (givens kind fs))) (own_mixins owner own (givens kind fs))
      (λ a h. distinct_keeps (deps ++ mixed) a (among-right a deps mixed h)) (mixed_lawful kind fs)

  component_ok : (kind : Kind) (name : Text) (head : ℕ) (fs : List Field)
      → twice_lines (placed kind head (givens kind fs)) ≡ []
      → IsLawful (component_with file owner own kind name (givens kind fs))
  component_ok kind name head fs t = record {
    own = own_names_apart kind head (givens kind fs) ((twice_none [] (placed kind head (givens kind fs)) t).distinct);
    deps = distinct_apart (listed_deps owner own (givens kind fs)
        ++ map (λ (m : Mixin). m.dep) (own_mixins owner own (givens kind fs)));
    entries = entries_lawful kind fs;
    library = main_alone kind fs;
    executable = modules_alone kind fs;
  }

  stanza_ok : (h : Option Head) (l : Line) (deeper : List Line) → stanza_refused h l deeper ≡ []
      → AllByRecursion IsLawful (stanza_components file owner own h deeper)
  stanza_ok None l deeper r = tt
  stanza_ok (Some (Component kind name)) l deeper r =
      let gs = givens_in kind deeper in
      let fields = nil_right (odd_lines (indent_in deeper) deeper) (fields_refused kind l.number gs) r in
      let second = nil_right (main_refused kind l.number gs ++ unread_lines gs)
      (repeated gs ++ twice_lines (placed kind l.number gs)) fields in
      let twice = nil_right (repeated gs) (twice_lines (placed kind l.number gs)) second in
      (component_ok kind (component_name owner kind name) l.number (fields_at (indent_in deeper) deeper) twice, tt)
  stanza_ok (Some Common) l deeper r = tt
  stanza_ok (Some Ignored) l deeper r = tt
  stanza_ok (Some Other) l deeper r = tt

  blocks_ok : (bs : List Block) → flat_map block_refused bs ≡ []
      → AllByRecursion IsLawful (flat_map (block_components file owner own) bs)
  blocks_ok [] r = tt
  blocks_ok (b ∷ bs) r =
      all_append IsLawful (block_components file owner own b) (flat_map (block_components file owner own) bs)
      (stanza_ok (head_at b.line) b.line b.deeper (nil_left (block_refused b) (flat_map block_refused bs) r))
      (blocks_ok bs (nil_right (block_refused b) (flat_map block_refused bs) r))

-- where no line of a package file is refused, its components are lawful
pub components_ok : (file : Text) (ls : List Line) → package_refused ls ≡ []
    → AllByRecursion IsLawful (components_of file ls)
components_ok file ls r =
    let later = nil_right (refused_names (fields_at 0 ls)) (map (λ (l : Line). l.number) (deeper_than 0 ls)
    ++ blocks_refused ls) r in
    let all = nil_right (map (λ (l : Line). l.number) (deeper_than 0 ls)) (blocks_refused ls) later in
    blocks_ok file (package_of (fields_at 0 ls)) (is_own ls) (blocks 0 ls) all
