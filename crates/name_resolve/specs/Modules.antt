-- The declarations of a module or signature: what is asked of them, in order, and their resolved trees (Haskell 2010
-- Report, chapter 4).
use Rattle.std.specs.Prelude.{◌≡◌, Bool, true, false, ◌&&◌, List, [], ◌∷◌, ◌++◌, flat_map, map, Option, Some, None}
use Rattle.std.specs.Prelude.{if◌then◌else◌}
use Rattle.std.specs.List.{list_any}
use Rattle.std.specs.Str.{bytes_eq}
use Rattle.bp_base.specs.Texts.{Text}
use Rattle.bp_base.specs.Lists.{is_among}
use Rattle.bp_checks.specs.Check.{Check, ◌>>=◌, given, each, refusing}
use Rattle.bp_base.specs.declared.ty.Space.{Space}
use Rattle.bp_base.specs.declared.ty.Space.TheVariants.{Types, Values}
use Rattle.hs_trees.specs.declared.types.BTypeTree.{BTypeTree}
use Rattle.hs_modules.specs.declared.expressions.DeclTree.{DeclTree}
use Rattle.hs_modules.specs.declared.expressions.DeclTree.TheVariants.{Signature, Fixity as FixityDecl, Function'}
use Rattle.hs_modules.specs.declared.expressions.DeclTree.TheVariants.{Pattern'}
use Rattle.hs_modules.specs.declared.declarations.ConstrSide.{ConstrSide}
use Rattle.hs_modules.specs.declared.declarations.ConstrSide.TheVariants as side
use Rattle.hs_modules.specs.declared.declarations.Field.{Field}
use Rattle.hs_modules.specs.declared.declarations.ConstrTree.{ConstrTree}
use Rattle.hs_modules.specs.declared.declarations.ConstrTree.TheVariants as c
use Rattle.hs_modules.specs.declared.declarations.TopDeclTree.{TopDeclTree}
use Rattle.hs_modules.specs.declared.declarations.TopDeclTree.TheVariants as t
use Rattle.hs_modules.specs.declared.declarations.SigDeclTree.{SigDeclTree}
use Rattle.hs_modules.specs.declared.declarations.SigDeclTree.TheVariants as sd
use Rattle.hs_modules.specs.declared.declarations.TopSlot.{TopSlot}
use Rattle.hs_modules.specs.declared.declarations.TopSlot.TheVariants as ts
use Rattle.hs_modules.specs.declared.declarations.SigSlot.{SigSlot}
use Rattle.hs_modules.specs.declared.declarations.SigSlot.TheVariants as ss
use Rattle.hs_modules.specs.declared.module.Module.{Module}
use Rattle.hs_modules.specs.declared.module.Module.TheVariants as m
use Rattle.hs_core.specs.declared.tree.Written.{Written}
use Rattle.hs_core.specs.declared.tree.FieldDecl.{FieldDecl}
use Rattle.hs_core.specs.declared.tree.ConDecl.{ConDecl}
use Rattle.hs_core.specs.declared.tree.Decl.{Decl}
use Rattle.hs_core.specs.declared.tree.Decl.TheVariants as d
use Rattle.hs_scopes.specs.declared.scope.ScopeItem.{ScopeItem}
use Rattle.hs_scopes.specs.Words.{con_name, conop_name, var_name}
use Rattle.hs_scopes.specs.declared.scope.MeaningFault.{MeaningFault}
use Rattle.hs_scopes.specs.declared.scope.MeaningFault.TheVariants as mf
use Rattle.hs_scopes.specs.Meanings.{name_meant}
use Rattle.hs_scopes.specs.Some.{if_some, if_both, if_all}
use Rattle.hs_scopes.specs.Types.{applied_to, resolved_type, resolved_atype}
use Rattle.hs_scopes.specs.Patterns.{Literals}
use Rattle.hs_scopes.specs.Resolved.{Env, Binder, resolved_decl, names_bound, fixities_of}
use Rattle.name_resolve.specs.Asked.{Item, Reference, Part, first_twice, first_loose, decl_items, decl_parts}
use Rattle.name_resolve.specs.Asked.{type_parts, atype_parts}

-- a declaration of a module, or an abstract type of a signature
pub data Top : Type 0 where
  top : TopDeclTree → Top
  kinded : Text → Top

abbrev pub top_of : TopSlot → List Top
top_of ts.Empty = []
top_of (ts.Import i) = []
top_of (ts.Decl x) = Top.top x ∷ []

abbrev pub sig_of : SigDeclTree → Top
sig_of (sd.Top x) = Top.top x
sig_of (sd.Kinded x k) = Top.kinded x

abbrev pub sig_top_of : SigSlot → List Top
sig_top_of ss.Empty = []
sig_top_of (ss.Import i) = []
sig_top_of (ss.Decl x) = sig_of x ∷ []

-- declarations in the order of the source
abbrev pub tops : Module → List Top
tops (m.Headless b) = flat_map top_of (b.first ∷ b.rest)
tops (m.Named x b) = flat_map top_of (b.first ∷ b.rest)
tops (m.Exporting x es b) = flat_map top_of (b.first ∷ b.rest)
tops (m.Signature x b) = flat_map sig_top_of (b.first ∷ b.rest)

abbrev pub is_signature : Module → Bool
is_signature (m.Headless b) = false
is_signature (m.Named x b) = false
is_signature (m.Exporting x es b) = false
is_signature (m.Signature x b) = true

-- ---- resolved type declarations

abbrev pub resolved_btype : List ScopeItem → BTypeTree → Option Written
resolved_btype is x = if_both applied_to (resolved_atype is x.first) (if_all (resolved_atype is) x.rest)

abbrev pub field_by : Bool → Option Written → Option FieldDecl
field_by strict w = if_some (λ u. record { strict = strict; ty = u }) w

abbrev pub resolved_field : List ScopeItem → Field → Option FieldDecl
resolved_field is x = field_by x.strict (resolved_atype is x.atype)

abbrev pub resolved_side : List ScopeItem → ConstrSide → Option FieldDecl
resolved_side is (side.Lazy x) = field_by false (resolved_btype is x)
resolved_side is (side.Strict x) = field_by true (resolved_atype is x)

abbrev pub con_decl : Text → List FieldDecl → ConDecl
con_decl x fs = record { occ = x; fields = fs }

abbrev pub resolved_con : List ScopeItem → ConstrTree → Option ConDecl
resolved_con is (c.Prefix x fs) = if_some (con_decl (con_name x)) (if_all (resolved_field is) fs)
resolved_con is (c.Infix l op r) = if_both (λ u v. con_decl (conop_name op) (u ∷ v ∷ [])) (resolved_side is l)
    (resolved_side is r)

-- ---- resolved declarations; an abstract type of a signature has none

abbrev pub fixity_decls : List Binder → List Decl
fixity_decls bs = map (λ b. d.FixityOf b.name b.fixity) bs

-- fixity declarations stay at the top, one for each name
abbrev pub resolved_value_decl : Env → DeclTree → Option (List Decl)
resolved_value_decl env (Signature x xs u) = resolved_decl env (Signature x xs u)
resolved_value_decl env (FixityDecl w digit op os) = Some (fixity_decls (fixities_of (FixityDecl w digit op os)))
resolved_value_decl env (Function' lhs b ls) = resolved_decl env (Function' lhs b ls)
resolved_value_decl env (Pattern' x b ls) = resolved_decl env (Pattern' x b ls)

abbrev pub one : Decl → List Decl
one x = x ∷ []

abbrev pub resolved_top : Env → TopDeclTree → Option (List Decl)
resolved_top env (t.EmptyData x ps) = Some (d.DataDecl x false ps [] ∷ [])
resolved_top env (t.Data x ps first rest) = if_some (λ cs. one (d.DataDecl x false ps cs))
    (if_all (resolved_con env.items) (first ∷ rest))
resolved_top env (t.Newtype x ps con a) = if_some (λ f. one
    (d.DataDecl x true ps (con_decl (con_name con) (f ∷ []) ∷ []))) (field_by false (resolved_atype env.items a))
resolved_top env (t.Synonym x ps u) = if_some (λ w. one (d.SynonymDecl x ps w)) (resolved_type env.items u)
resolved_top env (t.Decl x) = resolved_value_decl env x

abbrev pub resolved : Env → Top → Option (List Decl)
resolved env (Top.top x) = resolved_top env x
resolved env (Top.kinded x) = Some []

-- ---- the items of the whole group

abbrev pub con_item : ConstrTree → Item
con_item (c.Prefix x fs) = Item.thing Values (con_name x)
con_item (c.Infix l op r) = Item.thing Values (conop_name op)

abbrev pub top_items : TopDeclTree → List Item
top_items (t.EmptyData x ps) = Item.thing Types x ∷ []
top_items (t.Data x ps first rest) = Item.thing Types x ∷ map con_item (first ∷ rest)
top_items (t.Newtype x ps con a) = Item.thing Types x ∷ Item.thing Values (con_name con) ∷ []
top_items (t.Synonym x ps u) = Item.thing Types x ∷ []
top_items (t.Decl x) = decl_items x

abbrev pub items_of : Top → List Item
items_of (Top.top x) = top_items x
items_of (Top.kinded x) = Item.thing Types x ∷ []

abbrev pub module_items : Module → List Item
module_items x = flat_map items_of (tops x)

-- the values that declarations bind, constructors not among them
abbrev pub values_of : Top → List Text
values_of (Top.top (t.EmptyData x ps)) = []
values_of (Top.top (t.Data x ps first rest)) = []
values_of (Top.top (t.Newtype x ps con a)) = []
values_of (Top.top (t.Synonym x ps u)) = []
values_of (Top.top (t.Decl x)) = names_bound x
values_of (Top.kinded x) = []

abbrev pub module_values : Module → List Text
module_values x = flat_map values_of (tops x)

abbrev pub signed_of : Item → List Text
signed_of (Item.signature x) = x ∷ []
signed_of (Item.clause x n) = []
signed_of (Item.thing s x) = []
signed_of (Item.fixity x) = []

-- what a fixity declaration at the top may name: values and constructors, and in a signature what type signatures name
abbrev pub binds_name : Module → Text → Item → Bool
binds_name x n (Item.clause y k) = bytes_eq n y
binds_name x n (Item.thing Values y) = bytes_eq n y
binds_name x n (Item.thing Types y) = false
binds_name x n (Item.signature y) = is_signature x && bytes_eq n y
binds_name x n (Item.fixity y) = false

abbrev pub first_unsigned : List Text → List Text → Option Text
first_unsigned signed [] = None
first_unsigned signed (x ∷ xs) = if is_among x signed then first_unsigned signed xs else Some x

-- ---- why names and operators are refused, without want of memory

pub data NameFault : Type 0 where
  NotInScope : Text → NameFault
  AmbiguousName : Text → NameFault
  Twice : Text → NameFault
  Fixity : Text → NameFault
  NoSignatureOf : Text → NameFault

abbrev pub Done : Type 0
Done = Unit {0}

-- nothing is found, or the refusal of what is found
abbrev pub none_found : (Text → NameFault) → Option Text → Check Done NameFault
none_found f None = given tt
none_found f (Some x) = record { passes = λ u. ⊥; fails = λ r. r ≡ f x }

-- at the top level: Twice, then NoSignatureOf, then Fixity, each in the order of the source
abbrev pub declared_once : Module → Check Done NameFault
declared_once x = do
  once ← none_found NameFault.Twice (first_twice [] (module_items x))
  signed ← none_found NameFault.NoSignatureOf (first_unsigned (flat_map signed_of (module_items x)) (module_values x))
  none_found NameFault.Fixity (first_loose (λ n. list_any (binds_name x n) (module_items x)) (module_items x))

-- ---- each declaration: its references, then Twice, then Fixity

-- the names that type signatures of the whole group may name: in a signature they bind by themselves
abbrev pub may_sign : Module → List Text
may_sign x = if is_signature x then flat_map signed_of (module_items x) else module_values x

-- the type variables of a head, which may not stand twice
abbrev pub head_group : List Text → Part
head_group ps = Part.group (map (Item.thing Types) ps)

abbrev pub side_parts : List Text → ConstrSide → List Part
side_parts ps (side.Lazy x) = atype_parts (Some ps) x.first ++ flat_map (atype_parts (Some ps)) x.rest
side_parts ps (side.Strict x) = atype_parts (Some ps) x

abbrev pub con_parts : List Text → ConstrTree → List Part
con_parts ps (c.Prefix x fs) = flat_map (λ f. atype_parts (Some ps) f.atype) fs
con_parts ps (c.Infix l op r) = side_parts ps l ++ side_parts ps r

abbrev pub top_parts : List Text → TopDeclTree → List Part
top_parts own (t.EmptyData x ps) = head_group ps ∷ []
top_parts own (t.Data x ps first rest) = head_group ps ∷ flat_map (con_parts ps) (first ∷ rest)
top_parts own (t.Newtype x ps con a) = head_group ps ∷ atype_parts (Some ps) a
top_parts own (t.Synonym x ps u) = head_group ps ∷ type_parts (Some ps) u
top_parts own (t.Decl x) = decl_parts own [] x

abbrev pub parts_of : List Text → Top → List Part
parts_of own (Top.top x) = top_parts own x
parts_of own (Top.kinded x) = []

abbrev pub reference_of : Part → List Reference
reference_of (Part.refers r) = r ∷ []
reference_of (Part.group is) = []

abbrev pub group_of : Part → List (List Item)
group_of (Part.refers r) = []
group_of (Part.group is) = is ∷ []

abbrev pub name_fault : Text → MeaningFault → NameFault
name_fault x mf.NotInScope = NameFault.NotInScope x
name_fault x mf.AmbiguousName = NameFault.AmbiguousName x

abbrev pub global_meant : List ScopeItem → Space → Text → Check Done NameFault
global_meant items space x = do
  n ← refusing (name_fault x) (name_meant items space x)
  given tt

abbrev pub bound_or : Bool → Check Done NameFault → Check Done NameFault
bound_or true s = given tt
bound_or false s = s

abbrev pub reference_meant : List ScopeItem → Reference → Check Done NameFault
reference_meant items (Reference.plain x bound) = bound_or (is_among x bound) (global_meant items Values x)
reference_meant items (Reference.global space x) = global_meant items space x
reference_meant items (Reference.variable x head) =
    bound_or (is_among x head) (record { passes = λ u. ⊥; fails = λ r. r ≡ NameFault.NotInScope x })
reference_meant items (Reference.signed x own) = bound_or (is_among x own)
    (record { passes = λ u. ⊥; fails = λ r. r ≡ NameFault.NotInScope x })

abbrev pub found : {A : Type 0} → Option A → Bool
found None = false
found (Some a) = true

abbrev pub has_twice : List Item → Bool
has_twice is = found (first_twice [] is)

-- a fixity declaration of a local group for a name that it does not bind
abbrev pub binds_local : Text → Item → Bool
binds_local n (Item.clause y k) = bytes_eq n y
binds_local n (Item.thing s y) = bytes_eq n y
binds_local n (Item.signature y) = false
binds_local n (Item.fixity y) = false

abbrev pub has_loose : List Item → Bool
has_loose is = found (first_loose (λ n. list_any (binds_local n) is) is)

-- the name of a declaration: that of a pattern binding is its first variable
abbrev pub first_or : List Text → Text
first_or [] = []
first_or (x ∷ xs) = x

abbrev pub value_decl_name : DeclTree → Text
value_decl_name (Signature x xs u) = var_name x
value_decl_name (FixityDecl w digit op os) = first_or (map (λ b. b.name) (fixities_of (FixityDecl w digit op os)))
value_decl_name (Function' lhs b ls) = first_or (names_bound (Function' lhs b ls))
value_decl_name (Pattern' x b ls) = first_or (names_bound (Pattern' x b ls))

abbrev pub declared_name : Top → Text
declared_name (Top.top (t.EmptyData x ps)) = x
declared_name (Top.top (t.Data x ps first rest)) = x
declared_name (Top.top (t.Newtype x ps con a)) = x
declared_name (Top.top (t.Synonym x ps u)) = x
declared_name (Top.top (t.Decl x)) = value_decl_name x
declared_name (Top.kinded x) = x

-- the tree, or Fixity of the declared name where there is none
abbrev pub tree_or : Text → Option (List Decl) → Check (List Decl) NameFault
tree_or x None = record { passes = λ u. ⊥; fails = λ r. r ≡ NameFault.Fixity x }
tree_or x (Some ds) = given ds

abbrev pub none_of : Bool → NameFault → Check Done NameFault
none_of true r = record { passes = λ u. ⊥; fails = λ q. q ≡ r }
none_of false r = given tt

abbrev pub declaration_gives : Env → List Text → Top → Check (List Decl) NameFault
declaration_gives env own x = do
  meant ← each (flat_map reference_of (parts_of own x)) (λ done r. reference_meant env.items r)
  once ← none_of (list_any has_twice (flat_map group_of (parts_of own x))) (NameFault.Twice (declared_name x))
  bound ← none_of (list_any has_loose (flat_map group_of (parts_of own x))) (NameFault.Fixity (declared_name x))
  tree_or (declared_name x) (resolved env x)

abbrev pub decls_give : Literals → Module → List ScopeItem → Check (List Decl) NameFault
decls_give ls x items = do
  dss ← each (tops x) (λ done y. declaration_gives (record { literals = ls; items = items; locals = [] })
      (may_sign x) y)
  given (flat_map (λ ds. ds) dss)

-- what is declared at the top level, and then each declaration
abbrev pub resolve_gives : Literals → Module → List ScopeItem → Check (List Decl) NameFault
resolve_gives ls x items = do
  once ← declared_once x
  decls_give ls x items
