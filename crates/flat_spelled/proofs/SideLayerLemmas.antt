-- The terminals and facts of guards, right sides, alternatives and declarations, one layer at a time.
use Rattle.std.proofs.Common.{◌≡◌, ℕ, Bool, true, List, [], ◌∷◌, ◌++◌, map, refl, ap, ◌∙◌}
use Rattle.std.specs.Prelude.{not, ◌&&◌}
use Rattle.std.specs.List.{flat_map}
use Rattle.std.proofs.lemmas.Bool.{and_from, and_parts}
use Rattle.std.proofs.lemmas.List.{append-nil}
use Rattle.hs_forms.specs.Limits.{all_of}
use Rattle.hs_tokens.specs.declared.terminal.Terminal.TheVariants as t
use Rattle.hs_tokens.specs.declared.word.Word.TheVariants as w
use Rattle.hs_trees.specs.Patterns.{spelling_apat, is_apat}
use Rattle.hs_trees.specs.Types.{spelling_type, is_type}
use Rattle.hs_trees.specs.declared.patterns.APatTree.{APatTree}
use Rattle.hs_trees.specs.declared.types.TypeTree.{TypeTree}
use Rattle.hs_modules.specs.declared.expressions.AExpTree.{AExpTree}
use Rattle.hs_modules.specs.declared.expressions.ExpTree.{ExpTree}
use Rattle.hs_modules.specs.Tokens.{token_algebra, spelling_aexp, spelling_exp}
use Rattle.hs_modules.specs.Formed.{Facts, fact_algebra, all_good, facts_of_aexp, facts_of_exp}
use Rattle.hs_modules.specs.Formed.{facts_of_infix, good_of}
use Rattle.flat_spelled.proofs.SeenLemmas.{Ts}
use Rattle.hs_modules.specs.declared.expressions.AltBody.{AltBody, AltBody-F, roll-AltBody}
use Rattle.hs_modules.specs.declared.expressions.AltTree.{roll-AltTree}
use Rattle.hs_modules.specs.declared.expressions.DeclTree.{DeclTree, DeclTree-F, roll-DeclTree}
use Rattle.hs_modules.specs.declared.expressions.GdTree.{GdTree, roll-GdTree}
use Rattle.hs_modules.specs.declared.expressions.GdaTree.{GdaTree, roll-GdaTree}
use Rattle.hs_modules.specs.declared.expressions.GuardTree.{GuardTree, GuardTree-F, roll-GuardTree}
use Rattle.hs_modules.specs.declared.expressions.Locals.{Locals, Locals-F, roll-Locals}
use Rattle.hs_modules.specs.declared.expressions.RhsBody.{RhsBody, RhsBody-F, roll-RhsBody}
use Rattle.hs_modules.specs.declared.expressions.RhsTree.{RhsTree, roll-RhsTree}
use Rattle.hs_modules.specs.declared.expressions.FunLhsTree.{FunLhsTree, FunLhsTree-F, roll-FunLhsTree}
use Rattle.hs_modules.specs.declared.expressions.FunLhsTree.{fold-roll-FunLhsTree}
use Rattle.hs_modules.specs.declared.declarations.Fixity.{Fixity}
use Rattle.hs_modules.specs.declared.names.OpTree.{OpTree}
use Rattle.hs_trees.specs.declared.patterns.PatTree.{PatTree}
use Rattle.hs_trees.specs.declared.patterns.VarTree.{VarTree}
use Rattle.hs_trees.specs.Patterns.{spelling_pat, is_pat, var_tokens}
use Rattle.hs_modules.specs.Words.{op_tokens, is_operator}
use Rattle.hs_modules.specs.Tokens.{spelling_alt, spelling_alt_body, spelling_decl}
use Rattle.hs_modules.specs.Tokens.{spelling_decl_block, spelling_gd, spelling_gda, spelling_guard}
use Rattle.hs_modules.specs.Tokens.{spelling_locals, spelling_rhs, spelling_rhs_body, fixity_word, fun_lhs_tokens}
use Rattle.hs_modules.specs.Formed.{facts_of_alt, facts_of_alt_body, facts_of_decl}
use Rattle.hs_modules.specs.Formed.{facts_of_gd, facts_of_gda, facts_of_guard}
use Rattle.hs_modules.specs.Formed.{facts_of_locals, facts_of_rhs, facts_of_rhs_body, is_level, is_fun_lhs}
use Rattle.hs_modules.specs.Formed.{fun_lhs_formed}
use Rattle.hs_modules.specs.Formed.{last_of}
use Rattle.hs_modules.proofs.FoldingLemmas.{alt_body_folded, decl_folded, guard_folded}
use Rattle.hs_modules.proofs.FoldingLemmas.{locals_folded, rhs_body_folded, alt_folded}
use Rattle.hs_modules.proofs.FoldingLemmas.{gd_folded, gda_folded, rhs_folded}
use Rattle.std.specs.Prelude.{Some}
use Rattle.flat_spelled.proofs.LayerLemmas.{chain_of, operand_of, decl_block_of, decl_block_good, chain_tokens}
use Rattle.flat_spelled.proofs.LayerLemmas.{chain_facts}
use Rattle.flat_spelled.proofs.LayerLemmas.{operand_tokens_are, operand_good, atom_chain_ends}

-- ---- guards, each of one atom

abbrev pub test_of : AExpTree → GuardTree
test_of a = roll-GuardTree (GuardTree-F.Test (chain_of (operand_of a)))

abbrev pub bind_of : PatTree → AExpTree → GuardTree
bind_of pat a = roll-GuardTree (GuardTree-F.Bind pat (chain_of (operand_of a)))

pub test_tokens : (a : AExpTree) → spelling_guard (test_of a) ≡ spelling_aexp a
unfolding token_algebra
test_tokens a = guard_folded token_algebra (GuardTree-F.Test (chain_of (operand_of a))) ∙ chain_tokens (operand_of a)
    ∙ operand_tokens_are a

pub bind_tokens : (pat : PatTree) (a : AExpTree) → spelling_guard (bind_of pat a) ≡ spelling_pat pat
    ++ t.LeftArrow ∷ spelling_aexp a
unfolding token_algebra
bind_tokens pat a =
    guard_folded token_algebra (GuardTree-F.Bind pat (chain_of (operand_of a)))
    ∙ ap (λ (z : Ts). spelling_pat pat ++ t.LeftArrow ∷ z) (chain_tokens (operand_of a) ∙ operand_tokens_are a)

-- a guard is well formed, and ends in no type
abbrev pub guard_ok : GuardTree → Bool
guard_ok g = (facts_of_guard g).good && not (facts_of_guard g).ends_in_type

pub test_ok : (a : AExpTree) → (facts_of_aexp a).good ≡ true → guard_ok (test_of a) ≡ true
unfolding fact_algebra
test_ok a e =
    let is = guard_folded fact_algebra (GuardTree-F.Test (chain_of (operand_of a))) in
    and_from (facts_of_guard (test_of a)).good (not (facts_of_guard (test_of a)).ends_in_type)
    (ap good_of is ∙ chain_facts (operand_of a) (operand_good a e))
    (ap (λ (g : Facts). not g.ends_in_type) is ∙ atom_chain_ends a)

pub bind_ok : (pat : PatTree) (a : AExpTree) → is_pat pat ≡ true → (facts_of_aexp a).good ≡ true
    → guard_ok (bind_of pat a) ≡ true
unfolding fact_algebra
bind_ok pat a h e =
    let is = guard_folded fact_algebra (GuardTree-F.Bind pat (chain_of (operand_of a))) in
    and_from (facts_of_guard (bind_of pat a)).good (not (facts_of_guard (bind_of pat a)).ends_in_type)
    (ap good_of is ∙ and_from (is_pat pat) (facts_of_infix (chain_of (operand_of a))).good h
    (chain_facts (operand_of a) (operand_good a e)))
    (ap (λ (g : Facts). not g.ends_in_type) is ∙ atom_chain_ends a)

guards_good : (gs : List GuardTree) → all_of (map guard_ok gs) ≡ true → all_good (map facts_of_guard gs) ≡ true
guards_good [] e = refl
guards_good (g ∷ gs) e =
    let both = and_parts (guard_ok g) (all_of (map guard_ok gs)) e in
    and_from (facts_of_guard g).good (all_good (map facts_of_guard gs))
    (and_parts (facts_of_guard g).good (not (facts_of_guard g).ends_in_type) both.0).0 (guards_good gs both.1)

last_good : (g : GuardTree) (gs : List GuardTree) → guard_ok g ≡ true → all_of (map guard_ok gs) ≡ true
    → not (last_of (facts_of_guard g) (map facts_of_guard gs)).ends_in_type ≡ true
last_good g [] e h = (and_parts (facts_of_guard g).good (not (facts_of_guard g).ends_in_type) e).1
last_good g (next ∷ gs) e h =
    let both = and_parts (guard_ok next) (all_of (map guard_ok gs)) h in last_good next gs both.0 both.1

-- ---- choices of right sides: `| g, g = e` and `| g, g -> e`

abbrev pub guarded_tokens : GuardTree → List GuardTree → Ts
guarded_tokens g gs = t.Bar ∷ (spelling_guard g ++ flat_map (λ (it : Ts). t.Comma ∷ it) (map spelling_guard gs))

abbrev pub gd_of : GuardTree → List GuardTree → ExpTree → GdTree
gd_of g gs x = roll-GdTree (record { first = g; rest = gs; exp = x })

pub gd_tokens : (g : GuardTree) (gs : List GuardTree) (x : ExpTree)
    → spelling_gd (gd_of g gs x) ≡ guarded_tokens g gs ++ t.Equals ∷ spelling_exp x
unfolding token_algebra
gd_tokens g gs x = gd_folded token_algebra (record { first = g; rest = gs; exp = x })

pub gd_good : (g : GuardTree) (gs : List GuardTree) (x : ExpTree) → guard_ok g ≡ true → all_of (map guard_ok gs) ≡ true
    → (facts_of_exp x).good ≡ true → (facts_of_gd (gd_of g gs x)).good ≡ true
unfolding fact_algebra
gd_good g gs x e h k =
    ap good_of (gd_folded fact_algebra (record { first = g; rest = gs; exp = x }))
    ∙ and_from ((facts_of_guard g).good && all_good (map facts_of_guard gs)) (facts_of_exp x).good
    (and_from (facts_of_guard g).good (all_good (map facts_of_guard gs))
    (and_parts (facts_of_guard g).good (not (facts_of_guard g).ends_in_type) e).0 (guards_good gs h)) k

abbrev pub gda_of : GuardTree → List GuardTree → ExpTree → GdaTree
gda_of g gs x = roll-GdaTree (record { first = g; rest = gs; exp = x })

pub gda_tokens : (g : GuardTree) (gs : List GuardTree) (x : ExpTree)
    → spelling_gda (gda_of g gs x) ≡ guarded_tokens g gs ++ t.Arrow ∷ spelling_exp x
unfolding token_algebra
gda_tokens g gs x = gda_folded token_algebra (record { first = g; rest = gs; exp = x })

pub gda_good : (g : GuardTree) (gs : List GuardTree) (x : ExpTree) → guard_ok g ≡ true → all_of (map guard_ok gs) ≡ true
    → (facts_of_exp x).good ≡ true → (facts_of_gda (gda_of g gs x)).good ≡ true
unfolding fact_algebra
gda_good g gs x e h k =
    ap good_of (gda_folded fact_algebra (record { first = g; rest = gs; exp = x }))
    ∙ and_from (((facts_of_guard g).good && all_good (map facts_of_guard gs))
    && not (last_of (facts_of_guard g) (map facts_of_guard gs)).ends_in_type) (facts_of_exp x).good
    (and_from ((facts_of_guard g).good && all_good (map facts_of_guard gs))
    (not (last_of (facts_of_guard g) (map facts_of_guard gs)).ends_in_type)
    (and_from (facts_of_guard g).good (all_good (map facts_of_guard gs))
    (and_parts (facts_of_guard g).good (not (facts_of_guard g).ends_in_type) e).0 (guards_good gs h))
    (last_good g gs e h)) k

-- ---- bodies, local declarations, right sides and alternatives

pub equals_tokens : (x : ExpTree) → spelling_rhs_body (roll-RhsBody (RhsBody-F.Equals x)) ≡ t.Equals ∷ spelling_exp x
unfolding token_algebra
equals_tokens x = rhs_body_folded token_algebra (RhsBody-F.Equals x)

pub equals_good : (x : ExpTree) → (facts_of_exp x).good ≡ true
    → (facts_of_rhs_body (roll-RhsBody (RhsBody-F.Equals x))).good ≡ true
unfolding fact_algebra
equals_good x e = ap good_of (rhs_body_folded fact_algebra (RhsBody-F.Equals x)) ∙ e

pub guarded_equals_tokens : (g : GdTree) (gs : List GdTree)
    → spelling_rhs_body (roll-RhsBody (RhsBody-F.GuardedEquals g gs))
    ≡ spelling_gd g ++ flat_map (λ (part : Ts). part) (map spelling_gd gs)
unfolding token_algebra
guarded_equals_tokens g gs = rhs_body_folded token_algebra (RhsBody-F.GuardedEquals g gs)

pub guarded_equals_good : (g : GdTree) (gs : List GdTree) → (facts_of_gd g).good ≡ true
    → all_good (map facts_of_gd gs) ≡ true
    → (facts_of_rhs_body (roll-RhsBody (RhsBody-F.GuardedEquals g gs))).good ≡ true
unfolding fact_algebra
guarded_equals_good g gs e h =
    ap good_of (rhs_body_folded fact_algebra (RhsBody-F.GuardedEquals g gs))
    ∙ and_from (facts_of_gd g).good (all_good (map facts_of_gd gs)) e h

pub arrow_tokens : (x : ExpTree) → spelling_alt_body (roll-AltBody (AltBody-F.Arrow x)) ≡ t.Arrow ∷ spelling_exp x
unfolding token_algebra
arrow_tokens x = alt_body_folded token_algebra (AltBody-F.Arrow x)

pub arrow_good : (x : ExpTree) → (facts_of_exp x).good ≡ true
    → (facts_of_alt_body (roll-AltBody (AltBody-F.Arrow x))).good ≡ true
unfolding fact_algebra
arrow_good x e = ap good_of (alt_body_folded fact_algebra (AltBody-F.Arrow x)) ∙ e

pub guarded_arrows_tokens : (g : GdaTree) (gs : List GdaTree)
    → spelling_alt_body (roll-AltBody (AltBody-F.GuardedArrows g gs))
    ≡ spelling_gda g ++ flat_map (λ (part : Ts). part) (map spelling_gda gs)
unfolding token_algebra
guarded_arrows_tokens g gs = alt_body_folded token_algebra (AltBody-F.GuardedArrows g gs)

pub guarded_arrows_good : (g : GdaTree) (gs : List GdaTree) → (facts_of_gda g).good ≡ true
    → all_good (map facts_of_gda gs) ≡ true
    → (facts_of_alt_body (roll-AltBody (AltBody-F.GuardedArrows g gs))).good ≡ true
unfolding fact_algebra
guarded_arrows_good g gs e h =
    ap good_of (alt_body_folded fact_algebra (AltBody-F.GuardedArrows g gs))
    ∙ and_from (facts_of_gda g).good (all_good (map facts_of_gda gs)) e h

abbrev pub locals_of : List DeclTree → Locals
locals_of [] = roll-Locals Locals-F.Absent
locals_of (d ∷ ds) = roll-Locals (Locals-F.Where (decl_block_of (d ∷ ds)))

pub no_locals_tokens : spelling_locals (locals_of []) ≡ []
unfolding token_algebra
no_locals_tokens = locals_folded token_algebra Locals-F.Absent

pub locals_tokens_are : (d : DeclTree) (ds : List DeclTree)
    → spelling_locals (locals_of (d ∷ ds)) ≡ t.Word w.Where ∷ spelling_decl_block (decl_block_of (d ∷ ds))
unfolding token_algebra
locals_tokens_are d ds = locals_folded token_algebra (Locals-F.Where (decl_block_of (d ∷ ds)))

pub locals_good : (ds : List DeclTree)
    → all_good (map facts_of_decl ds) ≡ true
    → (facts_of_locals (locals_of ds)).good ≡ true
unfolding fact_algebra
locals_good [] e = ap good_of (locals_folded fact_algebra Locals-F.Absent)
locals_good (d ∷ ds) e =
    ap good_of (locals_folded fact_algebra (Locals-F.Where (decl_block_of (d ∷ ds)))) ∙ decl_block_good (d ∷ ds) e

pub rhs_tokens_are : (body : RhsBody) (local : Locals)
    → spelling_rhs (roll-RhsTree (record { body = body; locals = local })) ≡ spelling_rhs_body body
    ++ spelling_locals local
unfolding token_algebra
rhs_tokens_are body local = rhs_folded token_algebra (record { body = body; locals = local })

pub rhs_good : (body : RhsBody) (local : Locals) → (facts_of_rhs_body body).good ≡ true → (facts_of_locals local).good
    ≡ true
    → (facts_of_rhs (roll-RhsTree (record { body = body; locals = local }))).good ≡ true
unfolding fact_algebra
rhs_good body local e h =
    ap good_of (rhs_folded fact_algebra (record { body = body; locals = local }))
    ∙ and_from (facts_of_rhs_body body).good (facts_of_locals local).good e h

pub alt_tokens_are : (pat : PatTree) (body : AltBody) (local : Locals)
    → spelling_alt (roll-AltTree (record { pat = pat; body = body; locals = local }))
    ≡ spelling_pat pat ++ (spelling_alt_body body ++ spelling_locals local)
unfolding token_algebra
alt_tokens_are pat body local = alt_folded token_algebra (record { pat = pat; body = body; locals = local })

pub alt_good : (pat : PatTree) (body : AltBody) (local : Locals) → is_pat pat ≡ true → (facts_of_alt_body body).good
    ≡ true
    → (facts_of_locals local).good ≡ true
    → (facts_of_alt (roll-AltTree (record { pat = pat; body = body; locals = local }))).good ≡ true
unfolding fact_algebra
alt_good pat body local g e h =
    ap good_of (alt_folded fact_algebra (record { pat = pat; body = body; locals = local }))
    ∙ and_from (is_pat pat) ((facts_of_alt_body body).good && (facts_of_locals local).good) g
    (and_from (facts_of_alt_body body).good (facts_of_locals local).good e h)

-- ---- declarations

pub signature_tokens : (var : VarTree) (ty : TypeTree) → spelling_decl (roll-DeclTree (DeclTree-F.Signature var [] ty))
    ≡ var_tokens var ++ t.DoubleColon ∷ spelling_type ty
unfolding token_algebra
signature_tokens var ty =
    decl_folded token_algebra (DeclTree-F.Signature var [] ty)
    ∙ ap (λ (z : Ts). z ++ t.DoubleColon ∷ spelling_type ty) (append-nil (var_tokens var))

pub signature_good : (var : VarTree) (ty : TypeTree) → is_type ty ≡ true
    → (facts_of_decl (roll-DeclTree (DeclTree-F.Signature var [] ty))).good ≡ true
unfolding fact_algebra
signature_good var ty e = ap good_of (decl_folded fact_algebra (DeclTree-F.Signature var [] ty)) ∙ e

pub fixity_tokens : (word' : Fixity) (digit : List ℕ) (op : OpTree)
    → spelling_decl (roll-DeclTree (DeclTree-F.Fixity word' (Some digit) op []))
    ≡ fixity_word word' ∷ t.Integer digit ∷ op_tokens op
unfolding token_algebra
fixity_tokens word' digit op =
    decl_folded token_algebra (DeclTree-F.Fixity word' (Some digit) op [])
    ∙ ap (λ (z : Ts). fixity_word word' ∷ t.Integer digit ∷ z) (append-nil (op_tokens op))

pub fixity_good : (word' : Fixity) (digit : List ℕ) (op : OpTree) → is_level (Some digit) ≡ true → is_operator op ≡ true
    → (facts_of_decl (roll-DeclTree (DeclTree-F.Fixity word' (Some digit) op []))).good ≡ true
unfolding fact_algebra
fixity_good word' digit op e h =
    ap good_of (decl_folded fact_algebra (DeclTree-F.Fixity word' (Some digit) op []))
    ∙ and_from (is_level (Some digit)) (is_operator op && true) e (and_from (is_operator op) true h refl)

pub pattern_tokens : (pat : PatTree) (rhs : RhsTree) → spelling_decl (roll-DeclTree (DeclTree-F.Pattern pat rhs))
    ≡ spelling_pat pat ++ spelling_rhs rhs
unfolding token_algebra
pattern_tokens pat rhs = decl_folded token_algebra (DeclTree-F.Pattern pat rhs)

pub pattern_good : (pat : PatTree) (rhs : RhsTree) → is_pat pat ≡ true → (facts_of_rhs rhs).good ≡ true
    → (facts_of_decl (roll-DeclTree (DeclTree-F.Pattern pat rhs))).good ≡ true
unfolding fact_algebra
pattern_good pat rhs e h =
    ap good_of (decl_folded fact_algebra (DeclTree-F.Pattern pat rhs))
    ∙ and_from (is_pat pat) (facts_of_rhs rhs).good e h

abbrev pub prefix_of : VarTree → APatTree → List APatTree → FunLhsTree
prefix_of var a rest = roll-FunLhsTree (FunLhsTree-F.Prefix var a rest)

pub function_tokens : (var : VarTree) (a : APatTree) (rest : List APatTree) (rhs : RhsTree)
    → spelling_decl (roll-DeclTree (DeclTree-F.Function (prefix_of var a rest) rhs))
    ≡ (var_tokens var ++ (spelling_apat a ++ flat_map spelling_apat rest)) ++ spelling_rhs rhs
unfolding token_algebra
function_tokens var a rest rhs =
    decl_folded token_algebra (DeclTree-F.Function (prefix_of var a rest) rhs)
    ∙ ap (λ (z : Ts). z ++ spelling_rhs rhs) (fold-roll-FunLhsTree Ts fun_lhs_tokens (FunLhsTree-F.Prefix var a rest))

pub function_good : (var : VarTree) (a : APatTree) (rest : List APatTree) (rhs : RhsTree) → is_apat a
    && all_of (map is_apat rest) ≡ true
    → (facts_of_rhs rhs).good ≡ true
    → (facts_of_decl (roll-DeclTree (DeclTree-F.Function (prefix_of var a rest) rhs))).good ≡ true
unfolding fact_algebra
function_good var a rest rhs e h =
    ap good_of (decl_folded fact_algebra (DeclTree-F.Function (prefix_of var a rest) rhs))
    ∙ and_from (is_fun_lhs (prefix_of var a rest)) (facts_of_rhs rhs).good
    (fold-roll-FunLhsTree Bool fun_lhs_formed (FunLhsTree-F.Prefix var a rest) ∙ e) h
