-- What the list of an import lets in, and what it asks for (Haskell 2010 Report, section 5.3.1).
use Rattle.std.specs.Prelude.{Bool, true, false, not, ◌||◌, List, [], ◌∷◌, map, Option, Some, None}
use Rattle.std.specs.Prelude.{if◌then◌else◌}
use Rattle.std.specs.List.{flat_map}
use Rattle.std.specs.Str.{bytes_eq}
use Rattle.bp_base.specs.Texts.{Text}
use Rattle.bp_base.specs.Lists.{is_among}
use Rattle.bp_base.specs.declared.entity.Export.{Export}
use Rattle.hs_modules.specs.declared.module.CNameTree.{CNameTree}
use Rattle.hs_modules.specs.declared.module.CNameTree.TheVariants as cn
use Rattle.hs_modules.specs.declared.module.SubsTree.TheVariants as s
use Rattle.hs_modules.specs.declared.module.ItemTree.{ItemTree}
use Rattle.hs_modules.specs.declared.module.ItemTree.TheVariants as i
use Rattle.hs_modules.specs.declared.module.ImportList.{ImportList}
use Rattle.hs_modules.specs.declared.module.ImportList.TheVariants as l
use Rattle.hs_scopes.specs.Words.{var_name, con_name}
use Rattle.hs_scopes.specs.Meanings.{name_of, is_types}

abbrev pub sub_name : CNameTree → Text
sub_name (cn.Var x) = var_name x
sub_name (cn.Con x) = con_name x

-- ---- what an item lists: a variable, a type, all constructors of a type, or some

abbrev pub listed_value : ItemTree → List Text
listed_value (i.Var x) = var_name x ∷ []
listed_value (i.Type x) = []
listed_value (i.TypeWith x subs) = []

abbrev pub listed_type : ItemTree → List Text
listed_type (i.Var x) = []
listed_type (i.Type x) = x ∷ []
listed_type (i.TypeWith x subs) = x ∷ []

abbrev pub bare_type : ItemTree → List Text
bare_type (i.Var x) = []
bare_type (i.Type x) = x ∷ []
bare_type (i.TypeWith x subs) = []

abbrev pub whole_type : ItemTree → List Text
whole_type (i.Var x) = []
whole_type (i.Type x) = []
whole_type (i.TypeWith x s.All) = x ∷ []
whole_type (i.TypeWith x (s.Only names)) = []

-- the constructors that it lists with this type
abbrev pub listed_cons : Text → ItemTree → List Text
listed_cons t (i.Var x) = []
listed_cons t (i.Type x) = []
listed_cons t (i.TypeWith x s.All) = []
listed_cons t (i.TypeWith x (s.Only names)) = if bytes_eq x t then map sub_name names else []

-- ---- what a list lets in

-- what is listed, by names: variables; types; types by their bare names; types with `(..)`; and with a type
-- its listed constructors
pub record Listing : Type 0 where
  pub values : Text → Bool
  pub types : Text → Bool
  pub bares : Text → Bool
  pub wholes : Text → Bool
  pub cons : Text → List Text

abbrev pub listing : List ItemTree → Listing
listing items = record {
  values = λ x. is_among x (flat_map listed_value items);
  types = λ x. is_among x (flat_map listed_type items);
  bares = λ x. is_among x (flat_map bare_type items);
  wholes = λ x. is_among x (flat_map whole_type items);
  cons = λ x. flat_map (listed_cons x) items;
}

pub data Filter : Type 0 where
  everything : Filter
  only : Listing → Filter
  hiding : Listing → Filter

abbrev pub filter_of : ImportList → Filter
filter_of l.Everything = Filter.everything
filter_of (l.Only items comma) = Filter.only (listing items)
filter_of (l.Hiding items comma) = Filter.hiding (listing items)

-- a type (where the test is true) or a value of this name
abbrev pub lists_head : Listing → Bool → Text → Bool
lists_head ls true x = ls.types x
lists_head ls false x = ls.values x

abbrev pub lets_head : Filter → Bool → Text → Bool
lets_head Filter.everything type x = true
lets_head (Filter.only ls) type x = lists_head ls type x
lets_head (Filter.hiding ls) type x = not (lists_head ls type x)

-- a constructor with its type
abbrev pub lists_con : Listing → (type con : Text) → Bool
lists_con ls t c = ls.wholes t || is_among c (ls.cons t)

-- In a `hiding` list the bare name of a type hides a constructor of that name, too.
abbrev pub lets_con : Filter → (type con : Text) → Bool
lets_con Filter.everything t c = true
lets_con (Filter.only ls) t c = lists_con ls t c
lets_con (Filter.hiding ls) t c = not (lists_con ls t c || ls.bares c)

-- ---- what a list asks for: each thing that it names is exported, a constructor with its type

abbrev pub exported_value : Export → List Text
exported_value e = if is_types (name_of e.entity).space then [] else e.occ ∷ []

abbrev pub exported_type : Export → List Text
exported_type e = if is_types (name_of e.entity).space then e.occ ∷ [] else []

abbrev pub exported_cons : Text → Export → List Text
exported_cons t e = if bytes_eq e.occ t then e.cons else []

pub record Showing : Type 0 where
  pub values : Text → Bool
  pub types : Text → Bool
  pub cons : Text → List Text

abbrev pub showing : List Export → Showing
showing es = record {
  values = λ x. is_among x (flat_map exported_value es);
  types = λ x. is_among x (flat_map exported_type es);
  cons = λ x. flat_map (exported_cons x) es;
}

abbrev pub unless : Bool → Text → Option Text
unless true x = None
unless false x = Some x

-- the first
abbrev pub or_else : Option Text → Option Text → Option Text
or_else (Some x) other = Some x
or_else None other = other

abbrev pub first_some : {A : Type 0} → (A → Option Text) → List A → Option Text
first_some f [] = None
first_some f (x ∷ xs) = or_else (f x) (first_some f xs)

abbrev pub missing_sub : List Text → CNameTree → Option Text
missing_sub cons c = unless (is_among (sub_name c) cons) (sub_name c)

abbrev pub missing_in : Showing → ItemTree → Option Text
missing_in show (i.Var x) = unless (show.values (var_name x)) (var_name x)
missing_in show (i.Type x) = unless (show.types x) x
missing_in show (i.TypeWith x s.All) = unless (show.types x) x
missing_in show (i.TypeWith x (s.Only names)) =
    or_else (unless (show.types x) x) (first_some (missing_sub (show.cons x)) names)

-- the first thing that a list asks for and that isn't there; what `hiding` names need not be there
abbrev pub missing : Showing → ImportList → Option Text
missing show l.Everything = None
missing show (l.Only items comma) = first_some (missing_in show) items
missing show (l.Hiding items comma) = None
