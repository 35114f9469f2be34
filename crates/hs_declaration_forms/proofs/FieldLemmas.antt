-- Fields of constructors and sides of infix ones, with and without their `!`.
use Rattle.std.proofs.Common.{◌≡◌, ℕ, ◌+◌, Bool, true, false, List, [], ◌∷◌, ◌++◌, refl, sym, ap, ◌∙◌, arith, true≢false}
use Rattle.std.specs.Prelude.{max, map, not, codes, Option, Some, None, ◌||◌}
use Rattle.hs_forms.specs.Reading.{begins}
use Rattle.hs_forms.specs.Limits.{Within, deepest}
use Rattle.hs_forms.specs.Productions.{Chain}
use Rattle.hs_forms.proofs.FormLemmas.{begins_apart, begins_append}
use Rattle.hs_tokens.specs.declared.terminal.Terminal.{Terminal}
use Rattle.hs_tokens.specs.declared.terminal.Terminal.TheVariants as t
use Rattle.hs_trees.specs.Patterns.{Ts}
use Rattle.hs_trees.specs.Types.{starts_atype, spelling_atype, spelling_btype, depth_of_atype, depth_of_btype, is_atype}
use Rattle.hs_trees.specs.Types.{depth_of_type}
use Rattle.hs_trees.specs.declared.types.ATypeTree.{ATypeTree}
use Rattle.hs_trees.specs.declared.types.ATypeTree.TheVariants as a
use Rattle.hs_trees.specs.declared.types.BTypeTree.{BTypeTree}
use Rattle.hs_trees.specs.declared.types.BTypeTree.{fold-roll-BTypeTree}
use Rattle.hs_trees.specs.declared.types.TypeTree.{fold-roll-TypeTree}
use Rattle.hs_trees.proofs.TypeCaseLemmas.{con_read}
use Rattle.hs_trees.proofs.TypeChainLemmas.{make_type, make_btype}
use Rattle.hs_trees.proofs.TypeLayerLemmas.{atype_starts, btype_starts, btype_deep, type_deep}
use Rattle.hs_modules.specs.Extents.{Extent, depth_of}
use Rattle.hs_modules.specs.PartExtents.{extent_of_atype, extent_of_btype, extent_of_type, atype_extent, btype_extent}
use Rattle.hs_modules.specs.PartExtents.{type_extent}
use Rattle.hs_modules.specs.Modules.{extent_of_field, extent_of_side}
use Rattle.hs_modules.specs.ModuleTokens.{field_tokens, side_tokens}
use Rattle.hs_modules.specs.declared.declarations.Field.{Field}
use Rattle.hs_modules.specs.declared.declarations.ConstrSide.{ConstrSide}
use Rattle.hs_modules.specs.declared.declarations.ConstrSide.TheVariants as v_side
use Rattle.hs_modules.specs.declared.names.ConTree.{ConTree}
use Rattle.hs_modules.proofs.PartDepthLemmas.{type_depth_is}
use Rattle.hs_forms.specs.declared.fault.Fault.{Fault}
use Rattle.hs_expression_forms.specs.Trees.{Trees, Took, Failed, within}
use Rattle.hs_expression_forms.proofs.TreesLemmas.{behind_took, behind_failed, stays_first}
use Rattle.hs_block_forms.specs.Combined.{Heads}
use Rattle.hs_block_forms.proofs.CombinedLemmas.{headed_chain}
use Rattle.hs_declaration_forms.specs.Datatypes.{is_bang, starts_field, cons, fields, stricts, atypes, btypes, sides}
use Rattle.hs_declaration_forms.specs.Datatypes.{side_depth, PrefixParts}
use Rattle.hs_declaration_forms.proofs.MadeLemmas.{begins_none, stays_off}
use Rattle.hs_declaration_forms.proofs.MergeLemmas.{Joins, joined_took, joined_failed}

-- the depth of the extent of a `btype` and of an `atype`
pub btype_depth_is : (x : BTypeTree) → (extent_of_btype x).depth ≡ depth_of_btype x
btype_depth_is x =
    let e : (extent_of_type (make_type x [])).depth ≡ max (extent_of_btype x).depth 0 + 0 =
    ap depth_of (fold-roll-TypeTree Extent Extent Extent atype_extent btype_extent type_extent
    (record { first = x; rest = [] })) in
    let f : depth_of_type (make_type x []) ≡ max (depth_of_btype x) 0 + 0 =
    type_deep (record { first = x; rest = [] }) in
    omega (arith, e, f, type_depth_is (make_type x []))

pub atype_depth_is : (x : ATypeTree) → (extent_of_atype x).depth ≡ depth_of_atype x
atype_depth_is x =
    let e : (extent_of_btype (make_btype x [])).depth ≡ max (extent_of_atype x).depth 0 =
    ap depth_of (fold-roll-BTypeTree Extent Extent Extent atype_extent btype_extent type_extent
    (record { first = x; rest = [] })) in
    let f : depth_of_btype (make_btype x []) ≡ max (depth_of_atype x) 0 =
    btype_deep (record { first = x; rest = [] }) in
    omega (arith, e, f, btype_depth_is (make_btype x []))

pub fields_deep : (fs : List Field) → deepest (map depth_of (map extent_of_field fs)) ≡ deepest (map fields.deep fs)
fields_deep [] = refl
fields_deep (f ∷ fs) = λ i. max (atype_depth_is f.atype i) (fields_deep fs i)

pub side_deep : (x : ConstrSide) → (extent_of_side x).depth ≡ side_depth x
side_deep (v_side.Lazy b) = btype_depth_is b
side_deep (v_side.Strict a) = atype_depth_is a

-- a least `atype`
abbrev pub least_atype : ATypeTree
least_atype = a.Con []

pub least_atype_formed : is_atype least_atype ≡ true
least_atype_formed = (con_read None [] []).good.0

pub least_atype_deep : depth_of_atype least_atype ≡ 0
least_atype_deep =
    let d : Within (Some 0) (depth_of_atype least_atype) = (con_read (Some 0) [] []).good.1 in omega (arith, d)

no_bang : (k : Terminal) → starts_atype k ≡ true → is_bang k ≡ false
no_bang (t.Con n) h = refl
no_bang (t.Var n) h = refl
no_bang t.LeftParen h = refl
no_bang t.LeftBracket h = refl
no_bang _ h = absurd (true≢false (sym h))

atype_plain : (x : ATypeTree) (after : Ts) → begins is_bang (spelling_atype x ++ after) ≡ false
atype_plain x after = begins_apart starts_atype is_bang (spelling_atype x) after no_bang (atype_starts x)

btype_plain : (x : BTypeTree) (after : Ts) → begins is_bang (spelling_btype x ++ after) ≡ false
btype_plain x after = begins_apart starts_atype is_bang (spelling_btype x) after no_bang (btype_starts x)

-- fields
abbrev pub strict_field : ATypeTree → Field
strict_field x = record { strict = true; atype = x }

abbrev pub lazy_field : ATypeTree → Field
lazy_field x = record { strict = false; atype = x }

pub strict_fields : Joins fields stricts strict_field (begins is_bang)
strict_fields = record {
  tokens = λ x. refl;
  formed = λ x g. g;
  deep = λ x. refl;
  extends = λ x k e. refl;
  starts = λ x after g. refl;
  only = λ f after g q e. only f.strict f.atype after g e;
}
  where
    only : (b : Bool) (x : ATypeTree) (after : Ts) → is_atype x ≡ true →
        begins is_bang (field_tokens (record { strict = b; atype = x }) ++ after) ≡ true →
        (y : ATypeTree) × (record { strict = b; atype = x } ≡ strict_field y) × (is_atype y ≡ true)
    only true x after g e = (x, refl, g)
    only false x after g e = absurd (true≢false (sym e ∙ atype_plain x after))

pub lazy_fields : Joins fields atypes lazy_field (begins_none is_bang)
lazy_fields = record {
  tokens = λ x. refl;
  formed = λ x g. g;
  deep = λ x. refl;
  extends = λ x k e. refl;
  starts = λ x after g. ap not (atype_plain x after);
  only = λ f after g q e. only f.strict f.atype after g e;
}
  where
    only : (b : Bool) (x : ATypeTree) (after : Ts) → is_atype x ≡ true →
        begins_none is_bang (field_tokens (record { strict = b; atype = x }) ++ after) ≡ true →
        (y : ATypeTree) × (record { strict = b; atype = x } ≡ lazy_field y) × (is_atype y ≡ true)
    only true x after g e = absurd (true≢false (sym e))
    only false x after g e = (x, refl, g)

-- sides
pub strict_sides : Joins sides stricts (λ x. v_side.Strict x) (begins is_bang)
strict_sides = record {
  tokens = λ x. refl;
  formed = λ x g. g;
  deep = λ x. refl;
  extends = λ x k e. refl;
  starts = λ x after g. refl;
  only = λ y after g q e. only y after g e;
}
  where
    only : (y : ConstrSide) (after : Ts) → sides.formed y ≡ true → begins is_bang (side_tokens y ++ after) ≡ true →
        (x : ATypeTree) × (y ≡ v_side.Strict x) × (is_atype x ≡ true)
    only (v_side.Strict x) after g e = (x, refl, g)
    only (v_side.Lazy x) after g e = absurd (true≢false (sym e ∙ btype_plain x after))

pub lazy_sides : Joins sides btypes (λ x. v_side.Lazy x) (begins_none is_bang)
lazy_sides = record {
  tokens = λ x. refl;
  formed = λ x g. g;
  deep = λ x. refl;
  extends = λ x k e. e;
  starts = λ x after g. ap not (btype_plain x after);
  only = λ y after g q e. only y after g e;
}
  where
    only : (y : ConstrSide) (after : Ts) → sides.formed y ≡ true →
        begins_none is_bang (side_tokens y ++ after) ≡ true →
        (x : BTypeTree) × (y ≡ v_side.Lazy x) × (btypes.formed x ≡ true)
    only (v_side.Strict x) after g e = absurd (true≢false (sym e))
    only (v_side.Lazy x) after g e = (x, refl, g)

-- with a `!`, and without
module _ {T : Type 0} (whole : Trees Terminal T) (make : ATypeTree → T)
    (j : Joins whole stricts make (begins is_bang)) (limit : Option ℕ) (ts next : Ts)
    (at : ts ≡ t.VarSym (codes "!") ∷ next) where
  pub strict_took : (x : ATypeTree) (rest : Ts) (m : ℕ) → Took atypes limit next x rest m →
      Took whole limit ts (make x) rest m
  strict_took x rest m acc =
      joined_took whole stricts make (begins is_bang) j limit ts x rest m
      (behind_took atypes limit (t.VarSym (codes "!")) ts next x rest m at acc)

  pub strict_failed : (e : Fault) → Failed atypes limit next e → Failed whole limit ts e
  strict_failed e r =
      joined_failed whole stricts make (begins is_bang) j limit ts e (stays_first is_bang ts (ap (begins is_bang) at))
      (behind_failed atypes limit (t.VarSym (codes "!")) ts next e at r)

module _ {P T : Type 0} (whole : Trees Terminal T) (part : Trees Terminal P) (make : P → T)
    (j : Joins whole part make (begins_none is_bang)) (limit : Option ℕ) (ts : Ts) where
  pub lazy_took : (x : P) (rest : Ts) (m : ℕ) → Took part limit ts x rest m → Took whole limit ts (make x) rest m
  lazy_took x rest m acc = joined_took whole part make (begins_none is_bang) j limit ts x rest m acc

  pub lazy_failed : begins is_bang ts ≡ false → (e : Fault) → Failed part limit ts e → Failed whole limit ts e
  lazy_failed off e r =
      joined_failed whole part make (begins_none is_bang) j limit ts e (stays_off is_bang ts off) r

-- the fields behind a constructor's name, as a chain
from_atype : (ts : Ts) → begins starts_atype ts ≡ true → begins starts_field ts ≡ true
from_atype [] h = h
from_atype (k ∷ ts) h = ap (λ b. b || is_bang k) h

pub field_starts : (f : Field) → begins starts_field (field_tokens f) ≡ true
field_starts f = by f.strict f.atype
  where
    by : (b : Bool) (x : ATypeTree) → begins starts_field (field_tokens (record { strict = b; atype = x })) ≡ true
    by true x = refl
    by false x = from_atype (spelling_atype x) (atype_starts x)

pub side_starts : (x : ConstrSide) → begins starts_field (side_tokens x) ≡ true
side_starts (v_side.Lazy b) = from_atype (spelling_btype b) (btype_starts b)
side_starts (v_side.Strict a) = refl

pub field_heads : Heads cons fields starts_field
field_heads = record { starts = field_starts; apart_head = λ h k e. refl; apart = λ x k e. refl }

abbrev pub field_chain : Option ℕ → Chain Terminal PrefixParts ConTree Field
field_chain limit =
    headed_chain cons fields starts_field field_heads None limit (within fields limit).Good (Unit {0}) (λ r x g. g)
    (λ x g. (tt, g))
