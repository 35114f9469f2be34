-- The grammar of patterns (Haskell 2010 Report, section 3.17.1): the tokens of a tree, how deep it is, and which trees
-- there are.
use Rattle.std.specs.Prelude.{◌≡◌, ℕ, zero, suc, ◌+◌, max, Bool, true, false, not, ◌&&◌, ◌||◌, nat_lt, List, [], ◌∷◌}
use Rattle.std.specs.Prelude.{◌++◌, length, flat_map, map, replicate, Option}
use Rattle.std.specs.Str.{bytes_eq}
use Rattle.hs_forms.specs.Reading.{Form, begins}
use Rattle.hs_forms.specs.Answers.{Sort}
use Rattle.hs_forms.specs.Limits.{Within, deepest, all_of}
use Rattle.hs_tokens.specs.Terminals.{is_at, is_comma, is_minus, starts_qconop, minus}
use Rattle.hs_tokens.specs.declared.terminal.Terminal.{Terminal}
use Rattle.hs_tokens.specs.declared.terminal.Terminal.TheVariants as t
use Rattle.hs_trees.specs.declared.patterns.LiteralTree.{LiteralTree}
use Rattle.hs_trees.specs.declared.patterns.LiteralTree.TheVariants as l
use Rattle.hs_trees.specs.declared.patterns.VarTree.{VarTree}
use Rattle.hs_trees.specs.declared.patterns.VarTree.TheVariants as v
use Rattle.hs_trees.specs.declared.patterns.GConTree.{GConTree}
use Rattle.hs_trees.specs.declared.patterns.GConTree.TheVariants as g
use Rattle.hs_trees.specs.declared.patterns.QConOpTree.{QConOpTree}
use Rattle.hs_trees.specs.declared.patterns.QConOpTree.TheVariants as o
use Rattle.hs_trees.specs.declared.patterns.PatTree.{PatTree, PatTree-F, fold-PatTree}
use Rattle.hs_trees.specs.declared.patterns.OpLPat.{OpLPat, OpLPat-F, fold-OpLPat}
use Rattle.hs_trees.specs.declared.patterns.LPatTree.{LPatTree, LPatTree-F, fold-LPatTree}
use Rattle.hs_trees.specs.declared.patterns.APatTree.{APatTree, APatTree-F, fold-APatTree}

abbrev pub Ts : Type 0
Ts = List Terminal

abbrev pub literal_token : LiteralTree → Terminal
literal_token (l.Integer text) = t.Integer text
literal_token (l.Char text) = t.Char text
literal_token (l.Text text) = t.Text text

abbrev pub var_tokens : VarTree → Ts
var_tokens (v.Id name) = t.Var name ∷ []
var_tokens (v.Sym name) = t.LeftParen ∷ t.VarSym name ∷ t.RightParen ∷ []

abbrev pub gcon_tokens : GConTree → Ts
gcon_tokens g.Unit = t.LeftParen ∷ t.RightParen ∷ []
gcon_tokens g.List = t.LeftBracket ∷ t.RightBracket ∷ []
gcon_tokens (g.Tuple commas) = t.LeftParen ∷ (replicate commas t.Comma ++ t.RightParen ∷ [])
gcon_tokens (g.Con name) = t.Con name ∷ []
gcon_tokens (g.Sym name) = t.LeftParen ∷ t.ConSym name ∷ t.RightParen ∷ []
gcon_tokens g.Colon = t.LeftParen ∷ t.Colon ∷ t.RightParen ∷ []

abbrev pub qconop_tokens : QConOpTree → Ts
qconop_tokens (o.Sym name) = t.ConSym name ∷ []
qconop_tokens o.Colon = t.Colon ∷ []
qconop_tokens (o.Quoted name) = t.Backquote ∷ t.Con name ∷ t.Backquote ∷ []

-- The constructor that the name of the unit or of a tuple is, by the number of its commas: `()` has none.
abbrev pub named_con : ℕ → GConTree
named_con zero = g.Unit
named_con (suc n) = g.Tuple (suc n)

-- a list between commas
abbrev pub between_commas : Ts → List Ts → Ts
between_commas first rest = first ++ flat_map (λ part. t.Comma ∷ part) rest

abbrev pub apat_tokens : APatTree-F Ts Ts Ts Ts → Ts
apat_tokens (APatTree-F.Var name) = var_tokens name
apat_tokens (APatTree-F.As name part) = var_tokens name ++ t.At ∷ part
apat_tokens APatTree-F.Wild = t.Underscore ∷ []
apat_tokens (APatTree-F.Con con) = gcon_tokens con
apat_tokens (APatTree-F.Literal literal) = literal_token literal ∷ []
apat_tokens (APatTree-F.Parts first rest) = t.LeftParen ∷ (between_commas first rest ++ t.RightParen ∷ [])
apat_tokens (APatTree-F.List first rest) = t.LeftBracket ∷ (between_commas first rest ++ t.RightBracket ∷ [])
apat_tokens (APatTree-F.Lazy part) = t.Tilde ∷ part

abbrev pub lpat_tokens : LPatTree-F Ts Ts Ts Ts → Ts
lpat_tokens (LPatTree-F.Negative text) = t.VarSym minus ∷ t.Integer text ∷ []
lpat_tokens (LPatTree-F.Apply con first rest) = gcon_tokens con ++ (first ++ flat_map (λ part. part) rest)
lpat_tokens (LPatTree-F.APat part) = part

abbrev pub op_tokens : OpLPat-F Ts Ts Ts Ts → Ts
op_tokens x = qconop_tokens x.op ++ x.pat

abbrev pub pat_tokens : PatTree-F Ts Ts Ts Ts → Ts
pat_tokens p = p.first ++ flat_map (λ part. part) p.rest

abbrev pub spelling_apat : APatTree → Ts
spelling_apat = fold-APatTree Ts Ts Ts Ts apat_tokens lpat_tokens op_tokens pat_tokens

abbrev pub spelling_lpat : LPatTree → Ts
spelling_lpat = fold-LPatTree Ts Ts Ts Ts apat_tokens lpat_tokens op_tokens pat_tokens

abbrev pub spelling_op : OpLPat → Ts
spelling_op = fold-OpLPat Ts Ts Ts Ts apat_tokens lpat_tokens op_tokens pat_tokens

abbrev pub spelling_pat : PatTree → Ts
spelling_pat = fold-PatTree Ts Ts Ts Ts apat_tokens lpat_tokens op_tokens pat_tokens

-- a tuple's name has 1 to 14 commas
abbrev pub is_gcon : GConTree → Bool
is_gcon (g.Tuple commas) = nat_lt 0 commas && nat_lt commas 15
is_gcon _ = true

-- a tuple has 2 to 15 parts, a list any number
abbrev pub apat_formed : APatTree-F Bool Bool Bool Bool → Bool
apat_formed (APatTree-F.Var name) = true
apat_formed (APatTree-F.As name part) = part
apat_formed APatTree-F.Wild = true
apat_formed (APatTree-F.Con con) = is_gcon con
apat_formed (APatTree-F.Literal literal) = true
apat_formed (APatTree-F.Parts first rest) = nat_lt (length rest) 15 && (first && all_of rest)
apat_formed (APatTree-F.List first rest) = first && all_of rest
apat_formed (APatTree-F.Lazy part) = part

abbrev pub lpat_formed : LPatTree-F Bool Bool Bool Bool → Bool
lpat_formed (LPatTree-F.Negative text) = true
lpat_formed (LPatTree-F.Apply con first rest) = is_gcon con && (first && all_of rest)
lpat_formed (LPatTree-F.APat part) = part

abbrev pub op_formed : OpLPat-F Bool Bool Bool Bool → Bool
op_formed x = x.pat

abbrev pub pat_formed : PatTree-F Bool Bool Bool Bool → Bool
pat_formed p = p.first && all_of p.rest

abbrev pub is_apat : APatTree → Bool
is_apat = fold-APatTree Bool Bool Bool Bool apat_formed lpat_formed op_formed pat_formed

abbrev pub is_lpat : LPatTree → Bool
is_lpat = fold-LPatTree Bool Bool Bool Bool apat_formed lpat_formed op_formed pat_formed

abbrev pub is_op : OpLPat → Bool
is_op = fold-OpLPat Bool Bool Bool Bool apat_formed lpat_formed op_formed pat_formed

abbrev pub is_pat : PatTree → Bool
is_pat = fold-PatTree Bool Bool Bool Bool apat_formed lpat_formed op_formed pat_formed

-- the depth of a tree, from those of its parts
abbrev pub apat_depth : APatTree-F ℕ ℕ ℕ ℕ → ℕ
apat_depth (APatTree-F.Var name) = 0
apat_depth (APatTree-F.As name part) = part + 1
apat_depth APatTree-F.Wild = 0
apat_depth (APatTree-F.Con con) = 0
apat_depth (APatTree-F.Literal literal) = 0
apat_depth (APatTree-F.Parts first rest) = max first (deepest rest) + 1
apat_depth (APatTree-F.List first rest) = max first (deepest rest) + 1
apat_depth (APatTree-F.Lazy part) = part + 1

abbrev pub lpat_depth : LPatTree-F ℕ ℕ ℕ ℕ → ℕ
lpat_depth (LPatTree-F.Negative text) = 0
lpat_depth (LPatTree-F.Apply con first rest) = max first (deepest rest)
lpat_depth (LPatTree-F.APat part) = part

abbrev pub op_depth : OpLPat-F ℕ ℕ ℕ ℕ → ℕ
op_depth x = x.pat

abbrev pub pat_depth : PatTree-F ℕ ℕ ℕ ℕ → ℕ
pat_depth p = max p.first (deepest p.rest) + length p.rest

abbrev pub depth_of_apat : APatTree → ℕ
depth_of_apat = fold-APatTree ℕ ℕ ℕ ℕ apat_depth lpat_depth op_depth pat_depth

abbrev pub depth_of_lpat : LPatTree → ℕ
depth_of_lpat = fold-LPatTree ℕ ℕ ℕ ℕ apat_depth lpat_depth op_depth pat_depth

abbrev pub depth_of_op : OpLPat → ℕ
depth_of_op = fold-OpLPat ℕ ℕ ℕ ℕ apat_depth lpat_depth op_depth pat_depth

abbrev pub depth_of_pat : PatTree → ℕ
depth_of_pat = fold-PatTree ℕ ℕ ℕ ℕ apat_depth lpat_depth op_depth pat_depth

-- the tokens that begin an `apat`
abbrev pub starts_apat : Terminal → Bool
starts_apat (t.Var name) = true
starts_apat (t.Con name) = true
starts_apat (t.Integer text) = true
starts_apat (t.Char text) = true
starts_apat (t.Text text) = true
starts_apat t.LeftParen = true
starts_apat t.LeftBracket = true
starts_apat t.Underscore = true
starts_apat t.Tilde = true
starts_apat _ = false

-- the tokens that begin an `lpat`
abbrev pub starts_lpat : Terminal → Bool
starts_lpat k = starts_apat k || is_minus k

-- Whether a pattern begins here.
abbrev pub starts_pat : Ts → Bool
starts_pat [] = false
starts_pat (t.VarSym name ∷ t.Integer text ∷ ts) = bytes_eq name minus
starts_pat (k ∷ ts) = starts_apat k

-- the tokens that may begin a name behind `(`
abbrev pub opens_name : Terminal → Bool
opens_name t.RightParen = true
opens_name t.Comma = true
opens_name (t.VarSym name) = true
opens_name (t.ConSym name) = true
opens_name t.Colon = true
opens_name _ = false

-- What stands behind a `(` begins patterns, if it is not refused.
abbrev pub opens_pat : Ts → Bool
opens_pat ts = not (begins opens_name ts) || starts_pat ts

-- Trees within a limit. An `apat` goes on with `@` if it is a name.
abbrev pub apat_form : Option ℕ → Form Terminal APatTree
apat_form limit = record {
  tokens = spelling_apat;
  Good = λ x. (is_apat x ≡ true) × Within limit (depth_of_apat x);
  extends = λ x k. is_at k;
}

-- `apat {apat}`
abbrev pub APats : Type 0
APats = APatTree × List APatTree

abbrev pub spelling_apats : APats → Ts
spelling_apats p = spelling_apat p.0 ++ flat_map spelling_apat p.1

abbrev pub depth_of_apats : APats → ℕ
depth_of_apats p = max (depth_of_apat p.0) (deepest (map depth_of_apat p.1))

abbrev pub are_apats : APats → Bool
are_apats p = is_apat p.0 && all_of (map is_apat p.1)

abbrev pub apats_form : Option ℕ → Form Terminal APats
apats_form limit = record {
  tokens = spelling_apats;
  Good = λ p. (are_apats p ≡ true) × Within limit (depth_of_apats p);
  extends = λ p k. starts_apat k || is_at k;
}

abbrev pub lpat_form : Option ℕ → Form Terminal LPatTree
lpat_form limit = record {
  tokens = spelling_lpat;
  Good = λ x. (is_lpat x ≡ true) × Within limit (depth_of_lpat x);
  extends = λ x k. starts_apat k || is_at k;
}

abbrev pub pat_form : Option ℕ → Form Terminal PatTree
pat_form limit = record {
  tokens = spelling_pat;
  Good = λ x. (is_pat x ≡ true) × Within limit (depth_of_pat x);
  extends = λ x k. (starts_apat k || is_at k) || starts_qconop k;
}

abbrev pub qconop_form : Form Terminal QConOpTree
qconop_form = record { tokens = qconop_tokens; Good = λ x. Unit {0}; extends = λ x k. false }

-- patterns between commas
abbrev pub Pats : Type 0
Pats = PatTree × List PatTree

abbrev pub spelling_pats : Pats → Ts
spelling_pats p = spelling_pat p.0 ++ flat_map (λ x. t.Comma ∷ spelling_pat x) p.1

abbrev pub depth_of_pats : Pats → ℕ
depth_of_pats p = max (depth_of_pat p.0) (deepest (map depth_of_pat p.1))

-- so many that `most` more may stand behind the first, if there is such a bound
abbrev pub Few : Option ℕ → ℕ → Type 0
Few = Within

abbrev pub pats_form : Option ℕ → Option ℕ → Form Terminal Pats
pats_form most limit = record {
  tokens = spelling_pats;
  Good = λ p. Few most (length p.1) × (is_pat p.0 && all_of (map is_pat p.1) ≡ true) × Within limit (depth_of_pats p);
  extends = λ p k. ((starts_apat k || is_at k) || starts_qconop k) || is_comma k;
}

-- The forms with the depth of their trees.
abbrev pub apat_sort : Option ℕ → Sort Terminal APatTree
apat_sort limit = record { form = apat_form limit; depth = depth_of_apat }

abbrev pub apats_sort : Option ℕ → Sort Terminal APats
apats_sort limit = record { form = apats_form limit; depth = depth_of_apats }

abbrev pub lpat_sort : Option ℕ → Sort Terminal LPatTree
lpat_sort limit = record { form = lpat_form limit; depth = depth_of_lpat }

abbrev pub pat_sort : Option ℕ → Sort Terminal PatTree
pat_sort limit = record { form = pat_form limit; depth = depth_of_pat }

abbrev pub pats_sort : Option ℕ → Option ℕ → Sort Terminal Pats
pats_sort most limit = record { form = pats_form most limit; depth = depth_of_pats }

abbrev pub qconop_sort : Sort Terminal QConOpTree
qconop_sort = record { form = qconop_form; depth = λ op. 0 }
