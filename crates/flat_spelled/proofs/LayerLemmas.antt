-- The terminals and facts of surface trees, one layer at a time.
use Rattle.std.proofs.Common.{◌≡◌, true, false, List, [], ◌∷◌, ◌++◌, map, refl, ap, ◌∙◌}
use Rattle.std.specs.Prelude.{not, ◌&&◌}
use Rattle.std.specs.List.{flat_map}
use Rattle.std.proofs.lemmas.Bool.{and_from, and_parts}
use Rattle.std.proofs.lemmas.List.{append-nil}
use Rattle.hs_tokens.specs.declared.terminal.Terminal.TheVariants as t
use Rattle.hs_tokens.specs.declared.word.Word.TheVariants as w
use Rattle.hs_trees.specs.Patterns.{literal_token, gcon_tokens, spelling_apat}
use Rattle.hs_trees.specs.Types.{spelling_type, is_type}
use Rattle.hs_trees.specs.declared.patterns.LiteralTree.{LiteralTree}
use Rattle.hs_trees.specs.declared.patterns.GConTree.{GConTree}
use Rattle.hs_trees.specs.declared.patterns.APatTree.{APatTree}
use Rattle.hs_trees.specs.declared.types.TypeTree.{TypeTree}
use Rattle.hs_modules.specs.declared.names.QVarTree.{QVarTree}
use Rattle.hs_modules.specs.declared.names.QOpTree.{QOpTree}
use Rattle.hs_modules.specs.declared.expressions.AExpTree.{AExpTree, AExpTree-F, roll-AExpTree}
use Rattle.hs_modules.specs.declared.expressions.ExpTree.{ExpTree, ExpTree-F, roll-ExpTree}
use Rattle.hs_modules.specs.declared.expressions.IfTree.{roll-IfTree}
use Rattle.hs_modules.specs.declared.expressions.InfixTree.{InfixTree, roll-InfixTree}
use Rattle.hs_modules.specs.declared.expressions.LambdaTree.{roll-LambdaTree}
use Rattle.hs_modules.specs.declared.expressions.OperandTree.{OperandTree, OperandTree-F, roll-OperandTree}
use Rattle.hs_modules.specs.declared.expressions.SignedOperand.{SignedOperand, roll-SignedOperand}
use Rattle.hs_modules.specs.Words.{qvar_tokens, qop_tokens}
use Rattle.hs_modules.specs.Tokens.{token_algebra, spelling_aexp, spelling_exp, spelling_operand, spelling_infix}
use Rattle.hs_modules.specs.Formed.{Facts, fact_algebra, closed, all_good, facts_of_aexp, facts_of_exp}
use Rattle.hs_modules.specs.Formed.{facts_of_operand, facts_of_infix, facts_of_signed, good_of}
use Rattle.hs_modules.proofs.FoldingLemmas.{aexp_folded, exp_folded, operand_folded, if_folded, infix_folded}
use Rattle.hs_modules.proofs.FoldingLemmas.{lambda_folded}
use Rattle.hs_modules.proofs.FoldingLemmas.{signed_folded}
use Rattle.flat_spelled.proofs.SeenLemmas.{Ts}
use Rattle.hs_modules.specs.declared.expressions.AltSlot.{AltSlot-F, roll-AltSlot}
use Rattle.hs_modules.specs.declared.expressions.AltBlock.{AltBlock, roll-AltBlock}
use Rattle.hs_modules.specs.declared.expressions.AltTree.{AltTree}
use Rattle.hs_modules.specs.declared.expressions.DeclBlock.{DeclBlock, roll-DeclBlock}
use Rattle.hs_modules.specs.declared.expressions.DeclSlot.{DeclSlot-F, roll-DeclSlot}
use Rattle.hs_modules.specs.declared.expressions.DeclTree.{DeclTree}
use Rattle.hs_modules.specs.Tokens.{spelling_alt, spelling_alt_block, spelling_alt_slot, spelling_decl}
use Rattle.hs_modules.specs.Tokens.{spelling_decl_block, spelling_decl_slot}
use Rattle.hs_modules.specs.Formed.{facts_of_alt, facts_of_alt_block, facts_of_alt_slot, facts_of_decl}
use Rattle.hs_modules.specs.Formed.{facts_of_decl_block, facts_of_decl_slot}
use Rattle.hs_modules.proofs.FoldingLemmas.{alt_slot_folded, decl_slot_folded}
use Rattle.hs_modules.proofs.FoldingLemmas.{alt_block_folded}
use Rattle.hs_modules.proofs.FoldingLemmas.{decl_block_folded}

abbrev pub chain_of : OperandTree → InfixTree
chain_of x = roll-InfixTree (record { first = roll-SignedOperand (record { negated = false; operand = x }); rest = [] })

abbrev pub exp_of : OperandTree → ExpTree
exp_of x = roll-ExpTree (ExpTree-F.Infix (chain_of x))

abbrev pub operand_of : AExpTree → OperandTree
operand_of a = roll-OperandTree (OperandTree-F.Apply a [])

-- ---- terminals

pub chain_tokens : (x : OperandTree) → spelling_infix (chain_of x) ≡ spelling_operand x
unfolding token_algebra
chain_tokens x =
    infix_folded token_algebra (record {
      first = roll-SignedOperand
          (record { negated = false; operand = x });
      rest = [];
    })
    ∙ append-nil _ ∙ signed_folded token_algebra (record { negated = false; operand = x })

pub exp_tokens_are : (x : OperandTree) → spelling_exp (exp_of x) ≡ spelling_operand x
unfolding token_algebra
exp_tokens_are x = exp_folded token_algebra (ExpTree-F.Infix (chain_of x)) ∙ chain_tokens x

pub annotated_tokens : (x : OperandTree) (ty : TypeTree)
    → spelling_exp (roll-ExpTree (ExpTree-F.Annotated (chain_of x) ty)) ≡ spelling_operand x
    ++ t.DoubleColon ∷ spelling_type ty
unfolding token_algebra
annotated_tokens x ty =
    exp_folded token_algebra (ExpTree-F.Annotated (chain_of x) ty)
    ∙ ap (λ (z : Ts). z ++ t.DoubleColon ∷ spelling_type ty) (chain_tokens x)

pub apply_tokens : (a : AExpTree) (rest : List AExpTree)
    → spelling_operand (roll-OperandTree (OperandTree-F.Apply a rest))
    ≡ spelling_aexp a ++ flat_map (λ (part : Ts). part) (map spelling_aexp rest)
unfolding token_algebra
apply_tokens a rest = operand_folded token_algebra (OperandTree-F.Apply a rest)

pub operand_tokens_are : (a : AExpTree) → spelling_operand (operand_of a) ≡ spelling_aexp a
operand_tokens_are a = apply_tokens a [] ∙ append-nil (spelling_aexp a)

pub var_tokens_are : (name : QVarTree) → spelling_aexp (roll-AExpTree (AExpTree-F.Var name)) ≡ qvar_tokens name
unfolding token_algebra
var_tokens_are name = aexp_folded token_algebra (AExpTree-F.Var name)

pub con_tokens_are : (name : GConTree) → spelling_aexp (roll-AExpTree (AExpTree-F.Con name)) ≡ gcon_tokens name
unfolding token_algebra
con_tokens_are name = aexp_folded token_algebra (AExpTree-F.Con name)

pub literal_tokens : (it : LiteralTree) → spelling_aexp (roll-AExpTree (AExpTree-F.Literal it)) ≡ literal_token it ∷ []
unfolding token_algebra
literal_tokens it = aexp_folded token_algebra (AExpTree-F.Literal it)

pub parts_tokens : (x : ExpTree) (xs : List ExpTree) → spelling_aexp (roll-AExpTree (AExpTree-F.Parts x xs))
    ≡ t.LeftParen
    ∷ ((spelling_exp x ++ flat_map (λ (part : Ts). t.Comma ∷ part) (map spelling_exp xs)) ++ t.RightParen ∷ [])
unfolding token_algebra
parts_tokens x xs = aexp_folded token_algebra (AExpTree-F.Parts x xs)

pub list_tokens : (x : ExpTree) (xs : List ExpTree) → spelling_aexp (roll-AExpTree (AExpTree-F.List x xs))
    ≡ t.LeftBracket
    ∷ ((spelling_exp x ++ flat_map (λ (part : Ts). t.Comma ∷ part) (map spelling_exp xs)) ++ t.RightBracket ∷ [])
unfolding token_algebra
list_tokens x xs = aexp_folded token_algebra (AExpTree-F.List x xs)

pub section_tokens : (o : QOpTree) (c : InfixTree) → spelling_aexp (roll-AExpTree (AExpTree-F.RightSection o c))
    ≡ t.LeftParen ∷ (qop_tokens o ++ (spelling_infix c ++ t.RightParen ∷ []))
unfolding token_algebra
section_tokens o c = aexp_folded token_algebra (AExpTree-F.RightSection o c)

pub lambda_tokens : (a : APatTree) (rest : List APatTree) (x : ExpTree)
    → spelling_operand (roll-OperandTree
    (OperandTree-F.Lambda (roll-LambdaTree (record { first = a; rest = rest; body = x }))))
    ≡ t.Backslash ∷ ((spelling_apat a ++ flat_map spelling_apat rest) ++ t.Arrow ∷ spelling_exp x)
unfolding token_algebra
lambda_tokens a rest x =
    operand_folded token_algebra (OperandTree-F.Lambda (roll-LambdaTree (record { first = a; rest = rest; body = x })))
    ∙ lambda_folded token_algebra (record { first = a; rest = rest; body = x })

pub if_tokens : (a b c : ExpTree)
    → spelling_operand (roll-OperandTree
    (OperandTree-F.If (roll-IfTree (record { test = a; then_part = b; else_part = c }))))
    ≡ t.Word w.If ∷ (spelling_exp a ++ t.Word w.Then ∷ (spelling_exp b ++ t.Word w.Else ∷ spelling_exp c))
unfolding token_algebra
if_tokens a b c =
    operand_folded token_algebra (OperandTree-F.If (roll-IfTree (record { test = a; then_part = b; else_part = c })))
    ∙ if_folded token_algebra (record { test = a; then_part = b; else_part = c })

-- ---- facts

pub chain_facts : (x : OperandTree) → (facts_of_operand x).good ≡ true → (facts_of_infix (chain_of x)).good ≡ true
unfolding fact_algebra
chain_facts x e =
    ap good_of (infix_folded fact_algebra
    (record { first = roll-SignedOperand (record { negated = false; operand = x }); rest = [] }))
    ∙ and_from ((facts_of_signed one).good && true) true
    (and_from (facts_of_signed one).good true
    (ap good_of (signed_folded fact_algebra (record { negated = false; operand = x })) ∙ e) refl) refl
  where
    one : SignedOperand
    one = roll-SignedOperand (record { negated = false; operand = x })

-- the other facts of a chain of one operand
pub chain_open : (x : OperandTree) → (facts_of_infix (chain_of x)).is_open ≡ (facts_of_operand x).is_open
unfolding fact_algebra
chain_open x =
    ap (λ (g : Facts). g.is_open) (infix_folded fact_algebra
    (record { first = roll-SignedOperand (record { negated = false; operand = x }); rest = [] }))
    ∙ ap (λ (g : Facts). g.is_open) (signed_folded fact_algebra (record { negated = false; operand = x }))

pub chain_ends : (x : OperandTree) → (facts_of_infix (chain_of x)).ends_in_type ≡ (facts_of_operand x).ends_in_type
unfolding fact_algebra
chain_ends x =
    ap (λ (g : Facts). g.ends_in_type) (infix_folded fact_algebra
    (record { first = roll-SignedOperand (record { negated = false; operand = x }); rest = [] }))
    ∙ ap (λ (g : Facts). g.ends_in_type) (signed_folded fact_algebra (record { negated = false; operand = x }))

pub exp_facts_are : (x : OperandTree) → (facts_of_operand x).good ≡ true → (facts_of_exp (exp_of x)).good ≡ true
unfolding fact_algebra
exp_facts_are x e = ap good_of (exp_folded fact_algebra (ExpTree-F.Infix (chain_of x))) ∙ chain_facts x e

pub apply_facts : (a : AExpTree)
    (rest : List AExpTree)
    → facts_of_operand (roll-OperandTree (OperandTree-F.Apply a rest))
    ≡ closed ((facts_of_aexp a).good && all_good (map facts_of_aexp rest))
unfolding fact_algebra
apply_facts a rest = operand_folded fact_algebra (OperandTree-F.Apply a rest)

pub operand_good : (a : AExpTree) → (facts_of_aexp a).good ≡ true → (facts_of_operand (operand_of a)).good ≡ true
operand_good a e = ap good_of (apply_facts a []) ∙ and_from (facts_of_aexp a).good true e refl

pub atom_chain_closed : (a : AExpTree) → not (facts_of_infix (chain_of (operand_of a))).is_open ≡ true
atom_chain_closed a = ap not (chain_open (operand_of a) ∙ ap (λ (g : Facts). g.is_open) (apply_facts a []))

pub atom_chain_ends : (a : AExpTree) → not (facts_of_infix (chain_of (operand_of a))).ends_in_type ≡ true
atom_chain_ends a = ap not (chain_ends (operand_of a) ∙ ap (λ (g : Facts). g.ends_in_type) (apply_facts a []))

pub annotated_facts : (a : AExpTree) (ty : TypeTree) → (facts_of_aexp a).good ≡ true → is_type ty ≡ true
    → (facts_of_exp (roll-ExpTree (ExpTree-F.Annotated (chain_of (operand_of a)) ty))).good ≡ true
unfolding fact_algebra
annotated_facts a ty e g =
    let chain = facts_of_infix (chain_of (operand_of a)) in
    ap good_of (exp_folded fact_algebra (ExpTree-F.Annotated (chain_of (operand_of a)) ty))
    ∙ and_from (chain.good && not chain.is_open) (is_type ty)
    (and_from chain.good (not chain.is_open) (chain_facts (operand_of a) (operand_good a e)) (atom_chain_closed a)) g

-- parts between semicolons
abbrev pub between_semicolons : List Ts → Ts
between_semicolons [] = []
between_semicolons (part ∷ parts) = part ++ flat_map (λ (it : Ts). t.Semicolon ∷ it) parts

abbrev pub decl_block_of : List DeclTree → DeclBlock
decl_block_of [] = roll-DeclBlock (record { first = roll-DeclSlot DeclSlot-F.NoDecl; rest = [] })
decl_block_of (d ∷ ds) = roll-DeclBlock
    (record { first = roll-DeclSlot (DeclSlot-F.Decl d); rest = map (λ x. roll-DeclSlot (DeclSlot-F.Decl x)) ds })

decl_slots : (ds : List DeclTree) → map spelling_decl_slot (map (λ x. roll-DeclSlot (DeclSlot-F.Decl x)) ds)
    ≡ map spelling_decl ds
unfolding token_algebra
decl_slots [] = refl
decl_slots (d ∷ ds) = λ i. decl_slot_folded token_algebra (DeclSlot-F.Decl d) i ∷ decl_slots ds i

pub decl_block_tokens : (ds : List DeclTree) → spelling_decl_block (decl_block_of ds)
    ≡ t.LeftBrace ∷ (between_semicolons (map spelling_decl ds) ++ t.RightBrace ∷ [])
unfolding token_algebra
decl_block_tokens [] =
    decl_block_folded token_algebra (record { first = roll-DeclSlot DeclSlot-F.NoDecl; rest = [] })
    ∙ ap (λ (z : Ts). t.LeftBrace ∷ ((z ++ []) ++ t.RightBrace ∷ [])) (decl_slot_folded token_algebra DeclSlot-F.NoDecl)
decl_block_tokens (d ∷ ds) =
    decl_block_folded token_algebra
    (record { first = roll-DeclSlot (DeclSlot-F.Decl d); rest = map (λ x. roll-DeclSlot (DeclSlot-F.Decl x)) ds })
    ∙ (λ i. t.LeftBrace ∷ ((decl_slot_folded token_algebra (DeclSlot-F.Decl d) i
    ++ flat_map (λ part. t.Semicolon ∷ part) (decl_slots ds i))
    ++ t.RightBrace ∷ []))

decl_slots_good : (ds : List DeclTree) → all_good (map facts_of_decl ds) ≡ true
    → all_good (map facts_of_decl_slot (map (λ x. roll-DeclSlot (DeclSlot-F.Decl x)) ds)) ≡ true
unfolding fact_algebra
decl_slots_good [] e = refl
decl_slots_good (d ∷ ds) e =
    let both = and_parts (facts_of_decl d).good (all_good (map facts_of_decl ds)) e in
    and_from (facts_of_decl_slot (roll-DeclSlot (DeclSlot-F.Decl d))).good
    (all_good (map facts_of_decl_slot (map (λ x. roll-DeclSlot (DeclSlot-F.Decl x)) ds)))
    (ap good_of (decl_slot_folded fact_algebra (DeclSlot-F.Decl d)) ∙ both.0) (decl_slots_good ds both.1)

pub decl_block_good : (ds : List DeclTree)
    → all_good (map facts_of_decl ds) ≡ true
    → (facts_of_decl_block (decl_block_of ds)).good ≡ true
unfolding fact_algebra
decl_block_good [] e =
    ap good_of (decl_block_folded fact_algebra (record { first = roll-DeclSlot DeclSlot-F.NoDecl; rest = [] }))
    ∙ and_from (facts_of_decl_slot (roll-DeclSlot DeclSlot-F.NoDecl)).good true
    (ap good_of (decl_slot_folded fact_algebra DeclSlot-F.NoDecl)) refl
decl_block_good (d ∷ ds) e =
    let both = and_parts (facts_of_decl d).good (all_good (map facts_of_decl ds)) e in
    let rest = map (λ x. roll-DeclSlot (DeclSlot-F.Decl x)) ds in
    ap good_of (decl_block_folded fact_algebra (record { first = roll-DeclSlot (DeclSlot-F.Decl d); rest = rest }))
    ∙ and_from (facts_of_decl_slot (roll-DeclSlot (DeclSlot-F.Decl d))).good (all_good (map facts_of_decl_slot rest))
    (ap good_of (decl_slot_folded fact_algebra (DeclSlot-F.Decl d)) ∙ both.0) (decl_slots_good ds both.1)

abbrev pub alt_block_of : List AltTree → AltBlock
alt_block_of [] = roll-AltBlock (record { first = roll-AltSlot AltSlot-F.NoAlt; rest = [] })
alt_block_of (d ∷ ds) = roll-AltBlock
    (record { first = roll-AltSlot (AltSlot-F.Alt d); rest = map (λ x. roll-AltSlot (AltSlot-F.Alt x)) ds })

alt_slots : (ds : List AltTree) → map spelling_alt_slot (map (λ x. roll-AltSlot (AltSlot-F.Alt x)) ds)
    ≡ map spelling_alt ds
unfolding token_algebra
alt_slots [] = refl
alt_slots (d ∷ ds) = λ i. alt_slot_folded token_algebra (AltSlot-F.Alt d) i ∷ alt_slots ds i

pub alt_block_tokens : (ds : List AltTree) → spelling_alt_block (alt_block_of ds)
    ≡ t.LeftBrace ∷ (between_semicolons (map spelling_alt ds) ++ t.RightBrace ∷ [])
unfolding token_algebra
alt_block_tokens [] =
    alt_block_folded token_algebra (record { first = roll-AltSlot AltSlot-F.NoAlt; rest = [] })
    ∙ ap (λ (z : Ts). t.LeftBrace ∷ ((z ++ []) ++ t.RightBrace ∷ [])) (alt_slot_folded token_algebra AltSlot-F.NoAlt)
alt_block_tokens (d ∷ ds) =
    alt_block_folded token_algebra (record {
      first = roll-AltSlot (AltSlot-F.Alt d);
      rest = map
          (λ x. roll-AltSlot (AltSlot-F.Alt x)) ds;
    })
    ∙ (λ i. t.LeftBrace ∷ ((alt_slot_folded token_algebra (AltSlot-F.Alt d) i
    ++ flat_map (λ part. t.Semicolon ∷ part) (alt_slots ds i))
    ++ t.RightBrace ∷ []))

alt_slots_good : (ds : List AltTree) → all_good (map facts_of_alt ds) ≡ true
    → all_good (map facts_of_alt_slot (map (λ x. roll-AltSlot (AltSlot-F.Alt x)) ds)) ≡ true
unfolding fact_algebra
alt_slots_good [] e = refl
alt_slots_good (d ∷ ds) e =
    let both = and_parts (facts_of_alt d).good (all_good (map facts_of_alt ds)) e in
    and_from (facts_of_alt_slot (roll-AltSlot (AltSlot-F.Alt d))).good
    (all_good (map facts_of_alt_slot (map (λ x. roll-AltSlot (AltSlot-F.Alt x)) ds)))
    (ap good_of (alt_slot_folded fact_algebra (AltSlot-F.Alt d)) ∙ both.0) (alt_slots_good ds both.1)

pub alt_block_good : (ds : List AltTree) → all_good (map facts_of_alt ds) ≡ true
    → (facts_of_alt_block (alt_block_of ds)).good ≡ true
unfolding fact_algebra
alt_block_good [] e =
    ap good_of (alt_block_folded fact_algebra (record { first = roll-AltSlot AltSlot-F.NoAlt; rest = [] }))
    ∙ and_from (facts_of_alt_slot (roll-AltSlot AltSlot-F.NoAlt)).good true
    (ap good_of (alt_slot_folded fact_algebra AltSlot-F.NoAlt)) refl
alt_block_good (d ∷ ds) e =
    let both = and_parts (facts_of_alt d).good (all_good (map facts_of_alt ds)) e in
    let rest = map (λ x. roll-AltSlot (AltSlot-F.Alt x)) ds in
    ap good_of (alt_block_folded fact_algebra (record { first = roll-AltSlot (AltSlot-F.Alt d); rest = rest }))
    ∙ and_from (facts_of_alt_slot (roll-AltSlot (AltSlot-F.Alt d))).good (all_good (map facts_of_alt_slot rest))
    (ap good_of (alt_slot_folded fact_algebra (AltSlot-F.Alt d)) ∙ both.0) (alt_slots_good ds both.1)
