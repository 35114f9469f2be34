-- The grammar of types: which tokens a tree stands for, how deep it is, and which trees there are.
use Rattle.std.specs.Prelude.{◌≡◌, ℕ, zero, suc, ◌+◌, max, Bool, true, false, ◌&&◌, ◌||◌, nat_lt, List, [], ◌∷◌, ◌++◌}
use Rattle.std.specs.Prelude.{length, flat_map, replicate, map, Option}
use Rattle.hs_forms.specs.Reading.{Form}
use Rattle.hs_forms.specs.Forms.{commas_form}
use Rattle.hs_forms.specs.Answers.{Sort}
use Rattle.hs_forms.specs.Limits.{Within, deepest, all_of}
use Rattle.hs_tokens.specs.Terminals.{is_arrow, is_comma}
use Rattle.hs_tokens.specs.declared.terminal.Terminal.{Terminal}
use Rattle.hs_tokens.specs.declared.terminal.Terminal.TheVariants as t
use Rattle.hs_trees.specs.declared.types.ATypeTree.{ATypeTree, ATypeTree-F, fold-ATypeTree}
use Rattle.hs_trees.specs.declared.types.ATypeTree.TheVariants as a
use Rattle.hs_trees.specs.declared.types.BTypeTree.{BTypeTree, BTypeTree-F, fold-BTypeTree}
use Rattle.hs_trees.specs.declared.types.TypeTree.{TypeTree, TypeTree-F, fold-TypeTree}

-- The tokens of a tree, from those of its parts.
abbrev pub atype_tokens : ATypeTree-F (List Terminal) (List Terminal) (List Terminal) → List Terminal
atype_tokens (ATypeTree-F.Con name) = t.Con name ∷ []
atype_tokens ATypeTree-F.Unit = t.LeftParen ∷ t.RightParen ∷ []
atype_tokens ATypeTree-F.ListCon = t.LeftBracket ∷ t.RightBracket ∷ []
atype_tokens ATypeTree-F.ArrowCon = t.LeftParen ∷ t.Arrow ∷ t.RightParen ∷ []
atype_tokens (ATypeTree-F.TupleCon commas) = t.LeftParen ∷ (replicate commas t.Comma ++ t.RightParen ∷ [])
atype_tokens (ATypeTree-F.Var name) = t.Var name ∷ []
atype_tokens (ATypeTree-F.Parts first rest) = t.LeftParen ∷
    ((first ++ flat_map (λ part. t.Comma ∷ part) rest) ++ t.RightParen ∷ [])
atype_tokens (ATypeTree-F.List inner) = t.LeftBracket ∷ (inner ++ t.RightBracket ∷ [])

abbrev pub btype_tokens : BTypeTree-F (List Terminal) (List Terminal) (List Terminal) → List Terminal
btype_tokens b = b.first ++ flat_map (λ part. part) b.rest

abbrev pub type_tokens : TypeTree-F (List Terminal) (List Terminal) (List Terminal) → List Terminal
type_tokens y = y.first ++ flat_map (λ part. t.Arrow ∷ part) y.rest

-- The depth of a tree, from those of its parts.
abbrev pub atype_depth : ATypeTree-F ℕ ℕ ℕ → ℕ
atype_depth (ATypeTree-F.Parts first rest) = max first (deepest rest) + 1
atype_depth (ATypeTree-F.List inner) = inner + 1
atype_depth _ = 0

abbrev pub btype_depth : BTypeTree-F ℕ ℕ ℕ → ℕ
btype_depth b = max b.first (deepest b.rest)

abbrev pub type_depth : TypeTree-F ℕ ℕ ℕ → ℕ
type_depth y = max y.first (deepest y.rest) + length y.rest

-- a tuple has 2 to 15 parts
abbrev pub atype_formed : ATypeTree-F Bool Bool Bool → Bool
atype_formed (ATypeTree-F.TupleCon commas) = nat_lt 0 commas && nat_lt commas 15
atype_formed (ATypeTree-F.Parts first rest) = nat_lt (length rest) 15 && (first && all_of rest)
atype_formed (ATypeTree-F.List inner) = inner
atype_formed _ = true

abbrev pub btype_formed : BTypeTree-F Bool Bool Bool → Bool
btype_formed b = b.first && all_of b.rest

abbrev pub type_formed : TypeTree-F Bool Bool Bool → Bool
type_formed y = y.first && all_of y.rest

-- the tokens that begin an atype
abbrev pub starts_atype : Terminal → Bool
starts_atype (t.Con name) = true
starts_atype (t.Var name) = true
starts_atype t.LeftParen = true
starts_atype t.LeftBracket = true
starts_atype _ = false

abbrev pub spelling_atype : ATypeTree → List Terminal
spelling_atype = fold-ATypeTree (List Terminal) (List Terminal) (List Terminal) atype_tokens btype_tokens type_tokens

abbrev pub spelling_btype : BTypeTree → List Terminal
spelling_btype = fold-BTypeTree (List Terminal) (List Terminal) (List Terminal) atype_tokens btype_tokens type_tokens

abbrev pub spelling_type : TypeTree → List Terminal
spelling_type = fold-TypeTree (List Terminal) (List Terminal) (List Terminal) atype_tokens btype_tokens type_tokens

abbrev pub depth_of_atype : ATypeTree → ℕ
depth_of_atype = fold-ATypeTree ℕ ℕ ℕ atype_depth btype_depth type_depth

abbrev pub depth_of_btype : BTypeTree → ℕ
depth_of_btype = fold-BTypeTree ℕ ℕ ℕ atype_depth btype_depth type_depth

abbrev pub depth_of_type : TypeTree → ℕ
depth_of_type = fold-TypeTree ℕ ℕ ℕ atype_depth btype_depth type_depth

abbrev pub is_atype : ATypeTree → Bool
is_atype = fold-ATypeTree Bool Bool Bool atype_formed btype_formed type_formed

abbrev pub is_btype : BTypeTree → Bool
is_btype = fold-BTypeTree Bool Bool Bool atype_formed btype_formed type_formed

abbrev pub is_type : TypeTree → Bool
is_type = fold-TypeTree Bool Bool Bool atype_formed btype_formed type_formed

-- The trees within a limit.
abbrev pub atype_form : Option ℕ → Form Terminal ATypeTree
atype_form limit = record {
  tokens = spelling_atype;
  Good = λ x. (is_atype x ≡ true) × Within limit (depth_of_atype x);
  extends = λ x k. false;
}

abbrev pub btype_form : Option ℕ → Form Terminal BTypeTree
btype_form limit = record {
  tokens = spelling_btype;
  Good = λ x. (is_btype x ≡ true) × Within limit (depth_of_btype x);
  extends = λ x k. starts_atype k;
}

abbrev pub type_form : Option ℕ → Form Terminal TypeTree
type_form limit = record {
  tokens = spelling_type;
  Good = λ x. (is_type x ≡ true) × Within limit (depth_of_type x);
  extends = λ x k. starts_atype k || is_arrow k;
}

-- the parts of a tuple, or the one type in brackets
abbrev pub Parts : Type 0
Parts = TypeTree × List TypeTree

abbrev pub spelling_parts : Parts → List Terminal
spelling_parts p = spelling_type p.0 ++ flat_map (λ x. t.Comma ∷ spelling_type x) p.1

abbrev pub depth_of_parts : Parts → ℕ
depth_of_parts p = max (depth_of_type p.0) (deepest (map depth_of_type p.1))

abbrev pub are_parts : Parts → Bool
are_parts p = nat_lt (length p.1) 15 && (is_type p.0 && all_of (map is_type p.1))

abbrev pub parts_form : Option ℕ → Form Terminal Parts
parts_form limit = record {
  tokens = spelling_parts;
  Good = λ p. (are_parts p ≡ true) × Within limit (depth_of_parts p);
  extends = λ x k. (starts_atype k || is_arrow k) || is_comma k;
}

-- the name of the unit or of a tuple behind its `(`, by the number of its commas
abbrev pub tuple_name_form : Form Terminal ℕ
tuple_name_form = commas_form t.Comma t.RightParen 15

-- The type of that name: `()` has no comma.
abbrev pub named_type : ℕ → ATypeTree
named_type zero = a.Unit
named_type (suc n) = a.TupleCon (suc n)

-- the tokens that begin such a name
abbrev pub starts_tuple_name : Terminal → Bool
starts_tuple_name t.RightParen = true
starts_tuple_name t.Comma = true
starts_tuple_name _ = false

-- The forms with the depth of their trees.
abbrev pub atype_sort : Option ℕ → Sort Terminal ATypeTree
atype_sort limit = record { form = atype_form limit; depth = depth_of_atype }

abbrev pub btype_sort : Option ℕ → Sort Terminal BTypeTree
btype_sort limit = record { form = btype_form limit; depth = depth_of_btype }

abbrev pub type_sort : Option ℕ → Sort Terminal TypeTree
type_sort limit = record { form = type_form limit; depth = depth_of_type }

abbrev pub parts_sort : Option ℕ → Sort Terminal Parts
parts_sort limit = record { form = parts_form limit; depth = depth_of_parts }

abbrev pub tuple_name_sort : Sort Terminal ℕ
tuple_name_sort = record { form = tuple_name_form; depth = λ commas. 0 }
