-- Constructors and declarations of types are found again.
use Rattle.std.proofs.Common.{◌≡◌, ℕ, ◌<◌, Bool, true, false, List, [], ◌∷◌, ◌++◌, length, refl, sym, ap}
use Rattle.std.proofs.Common.{true≢false, arith, length-append}
use Rattle.std.specs.Prelude.{max, map, codes, ◌&&◌, None}
use Rattle.std.proofs.lemmas.Bool.{not-true}
use Rattle.hs_forms.specs.Reading.{begins}
use Rattle.hs_forms.specs.Answers.{Accepts}
use Rattle.hs_forms.proofs.FormLemmas.{begins_within, begins_apart}
use Rattle.hs_forms.proofs.LimitLemmas.{and_left, and_right, or_left}
use Rattle.hs_tokens.specs.declared.terminal.Terminal.{Terminal}
use Rattle.hs_tokens.specs.declared.terminal.Terminal.TheVariants as t
use Rattle.hs_tokens.specs.declared.word.Word.TheVariants as w
use Rattle.hs_trees.specs.Types.{spelling_type, spelling_atype, starts_atype, is_atype, is_type}
use Rattle.hs_trees.specs.Patterns.{Ts}
use Rattle.hs_trees.specs.declared.types.ATypeTree.{ATypeTree}
use Rattle.hs_modules.specs.Words.{con_tokens, conop_tokens, is_con, is_conop, has_dot}
use Rattle.hs_modules.specs.ModuleTokens.{side_tokens}
use Rattle.hs_modules.specs.ModuleForms.{is_side, is_constr, is_unqualified}
use Rattle.hs_modules.specs.declared.names.ConTree.{ConTree}
use Rattle.hs_modules.specs.declared.names.ConTree.TheVariants as c
use Rattle.hs_modules.specs.declared.names.ConOpTree.{ConOpTree}
use Rattle.hs_modules.specs.declared.names.ConOpTree.TheVariants as k
use Rattle.hs_modules.specs.declared.declarations.Field.{Field}
use Rattle.hs_modules.specs.declared.declarations.ConstrSide.{ConstrSide}
use Rattle.hs_modules.specs.declared.declarations.ConstrSide.TheVariants as v_side
use Rattle.hs_modules.specs.declared.declarations.ConstrTree.{ConstrTree}
use Rattle.hs_modules.specs.declared.declarations.ConstrTree.TheVariants as v_constr
use Rattle.hs_modules.specs.declared.declarations.TopDeclTree.{TopDeclTree}
use Rattle.hs_modules.specs.declared.declarations.TopDeclTree.TheVariants as v
use Rattle.hs_declarations.specs.Declarations.{is_data_word, is_equals, is_type_word}
use Rattle.hs_declarations.specs.declared.synonyms.Synonym.{Synonym}
use Rattle.hs_declarations.proofs.DeclarationLemmas.{synonym_ok}
use Rattle.hs_expression_forms.specs.Trees.{Took}
use Rattle.hs_block_forms.specs.Blocks.{ends_item, is_bar}
use Rattle.hs_declaration_forms.specs.Datatypes.{cons, con_form, conop_form, atypes, btypes, fields, sides, side_goes}
use Rattle.hs_declaration_forms.specs.Datatypes.{PrefixParts, applied, infixes, constrs, constr_goes, is_bang}
use Rattle.hs_declaration_forms.specs.Datatypes.{starts_field, starts_conop, constr_lists, datas, newtypes}
use Rattle.hs_declaration_forms.specs.Datatypes.{type_decls, synonym_trees, stricts, is_newtype_word}
use Rattle.hs_declaration_forms.proofs.MadeLemmas.{begins_none}
use Rattle.hs_declaration_forms.proofs.FieldLemmas.{strict_field, lazy_field, strict_fields, lazy_fields, strict_sides}
use Rattle.hs_declaration_forms.proofs.FieldLemmas.{lazy_sides, field_chain}
use Rattle.hs_declaration_forms.proofs.ConstrLemmas.{infix_took, prefix_took, constr_infix, constr_prefix, constrs_are}
use Rattle.hs_declaration_forms.proofs.DataLemmas.{data_took, empty_took}
use Rattle.hs_declaration_forms.proofs.NewtypeLemmas.{body_took, newtype_took}
use Rattle.hs_declaration_forms.proofs.NamedLemmas.{goes, no_var}
use Rattle.hs_declaration_forms.proofs.TypeDeclLemmas.{data_joins, newtype_joins, synonym_joins, make_synonym}
use Rattle.hs_one_tree.specs.Found.{Found}
use Rattle.hs_one_tree.proofs.WholeLemmas.{each_all, chain_found, ItemFound}
use Rattle.hs_one_tree.proofs.FoundLemmas.{found, read_found, behind_found, between_found, follow_quiet}
use Rattle.hs_one_tree.proofs.BlockFoundLemmas.{headed_quiet}
use Rattle.hs_one_tree.proofs.TypeFoundLemmas.{types_found, btypes_found, atypes_found}
use Rattle.hs_one_tree.proofs.JoinedLemmas.{joined_found}

-- names and operators of constructors
pub one_con : (x y : ConTree) (s r : Ts) → con_tokens x ++ s ≡ con_tokens y ++ r → (y ≡ x) × (r ≡ s)
one_con (c.Id n) (c.Id m) s r e = let same : m ≡ n = cc in (ap c.Id same, cc)
one_con (c.Id n) (c.Sym m) s r e = absurd cc
one_con (c.Sym n) (c.Id m) s r e = absurd cc
one_con (c.Sym n) (c.Sym m) s r e = let same : m ≡ n = cc in (ap c.Sym same, cc)

con_some : (x : ConTree) → 0 < length (con_tokens x)
con_some (c.Id n) = omega arith
con_some (c.Sym n) = omega arith

cons_found : (x : ConTree) → Found cons x
cons_found x good rest quiet =
    read_found cons x rest (record {
      good = (good, tt);
      only = λ s other after same it still e. one_con x other s after e;
    }) (con_some x)

con_at : (x : ConTree) (here : Ts) → is_con x ≡ true → Accepts con_form (λ x. 0) (con_tokens x ++ here) x here 0
con_at x here good =
    let long = length-append (con_tokens x) here in
    let some = con_some x in
    record {
      spelled = refl;
      reads = record { good = good; only = λ s other after same it still e. one_con x other s after e };
      measured_is = refl;
      room = omega arith;
    }

one_conop : (x y : ConOpTree) (s r : Ts) → conop_tokens x ++ s ≡ conop_tokens y ++ r → (y ≡ x) × (r ≡ s)
one_conop (k.Sym n) (k.Sym m) s r e = let same : m ≡ n = cc in (ap k.Sym same, cc)
one_conop (k.Sym n) (k.Quoted m) s r e = absurd cc
one_conop (k.Quoted n) (k.Sym m) s r e = absurd cc
one_conop (k.Quoted n) (k.Quoted m) s r e = let same : m ≡ n = cc in (ap k.Quoted same, cc)

conop_some : (x : ConOpTree) → 0 < length (conop_tokens x)
conop_some (k.Sym n) = omega arith
conop_some (k.Quoted n) = omega arith

conop_at : (x : ConOpTree) (here : Ts) → is_conop x ≡ true →
    Accepts conop_form (λ x. 0) (conop_tokens x ++ here) x here 0
conop_at x here good =
    let long = length-append (conop_tokens x) here in
    let some = conop_some x in
    record {
      spelled = refl;
      reads = record { good = good; only = λ s other after same it still e. one_conop x other s after e };
      measured_is = refl;
      room = omega arith;
    }

-- fields and sides
fields_found : (f : Field) → Found fields f
fields_found f = by f.strict f.atype
  where
    by : (b : Bool) (x : ATypeTree) → Found fields (record { strict = b; atype = x })
    by true x = λ good. joined_found fields stricts strict_field (begins is_bang) strict_fields x good
        (behind_found atypes (t.VarSym (codes "!")) x (atypes_found x)) good
    by false x = λ good. joined_found fields atypes lazy_field (begins_none is_bang) lazy_fields x good
        (atypes_found x) good

sides_found : (x : ConstrSide) → Found sides x
sides_found (v_side.Lazy b) = λ good.
    joined_found sides btypes (λ x. v_side.Lazy x) (begins_none is_bang) lazy_sides b good (btypes_found b) good
sides_found (v_side.Strict x) = λ good.
    joined_found sides stricts (λ x. v_side.Strict x) (begins is_bang) strict_sides x good
    (behind_found atypes (t.VarSym (codes "!")) x (atypes_found x)) good

-- constructors
applied_found : (p : PrefixParts) → Found applied p
applied_found p good rest quiet =
    chain_found (field_chain None) applied.deep p.0 p.1 rest (good, tt) quiet
    (λ here q. cons_found p.0 (and_left (cons.formed p.0) _ good) here q)
    (each_all (ItemFound (field_chain None)) (λ f n fine here q. fields_found f fine.0 here q) p.1) (omega arith)

applied_quiet : (p : PrefixParts) (j : Terminal) → constr_goes j ≡ false → applied.extends p j ≡ false
applied_quiet p j e =
    headed_quiet cons fields starts_field None p j (or_left (starts_field j) _ e) (λ x. refl) (λ x. refl)

side_ends : (x : ConstrSide) (j : Terminal) → constr_goes j ≡ false → side_goes x j ≡ false
side_ends (v_side.Lazy b) j e = or_left (starts_atype j) _ (or_left (starts_field j) _ e)
side_ends (v_side.Strict a) j e = refl

side_stops : (x : ConstrSide) (j : Terminal) → starts_conop j ≡ true → side_goes x j ≡ false
side_stops (v_side.Strict a) j h = refl
side_stops (v_side.Lazy b) (t.ConSym n) h = refl
side_stops (v_side.Lazy b) t.Backquote h = refl
side_stops (v_side.Lazy b) _ h = absurd (true≢false (sym h))

conop_starts : (op : ConOpTree) → begins starts_conop (conop_tokens op) ≡ true
conop_starts (k.Sym n) = refl
conop_starts (k.Quoted n) = refl

infix_at : (x : ConstrSide) (op : ConOpTree) (y : ConstrSide) → is_conop op ≡ true → is_side x ≡ true →
    is_side y ≡ true → (rest : Ts) → begins (side_goes y) rest ≡ false →
    Took infixes None (side_tokens x ++ (conop_tokens op ++ (side_tokens y ++ rest))) (x, (op, y)) rest
    (max (sides.deep x) (sides.deep y))
infix_at x op y fine left right rest quiet =
    let next = side_tokens y ++ rest in
    let here = conop_tokens op ++ next in
    let one = sides_found x left here (begins_apart starts_conop (side_goes x) (conop_tokens op) next (side_stops x)
    (conop_starts op)) in
    infix_took None (side_tokens x ++ here) x here _ one op next 0 (conop_at op next fine) y rest _
    (sides_found y right rest quiet)

constrs_found : (x : ConstrTree) → Found constrs x
constrs_found (v_constr.Prefix con fs) = λ good rest quiet.
    let p : PrefixParts = (con, fs) in
    let acc = applied_found p good rest (begins_within constr_goes (applied.extends p) rest (applied_quiet p) quiet) in
    let ts = applied.tokens p ++ rest in
    found constrs ts (v_constr.Prefix con fs) rest _
    (constr_prefix None ts p rest _ (prefix_took None ts p rest _ acc) quiet)
constrs_found (v_constr.Infix x op y) = λ good rest quiet.
    let both = and_right (is_conop op) _ good in
    let ts = side_tokens x ++ (conop_tokens op ++ (side_tokens y ++ rest)) in
    let acc = infix_at x op y (and_left (is_conop op) _ good) (and_left (is_side x) _ both)
    (and_right (is_side x) _ both) rest (begins_within constr_goes (side_goes y) rest (side_ends y) quiet) in
    found constrs ts (v_constr.Infix x op y) rest _ (constr_infix None ts (x, (op, y)) rest _ acc)

-- declarations of types
constrs_quiet : (p : ConstrTree × List ConstrTree) (j : Terminal) → ends_item j ≡ true →
    constr_lists.extends p j ≡ false
constrs_quiet p t.Semicolon h = refl
constrs_quiet p t.RightBrace h = refl
constrs_quiet p _ h = absurd (true≢false (sym h))

no_equals : (rest : Ts) → begins goes rest ≡ false → begins is_equals rest ≡ false
no_equals [] q = refl
no_equals (t.Semicolon ∷ rest) q = refl
no_equals (t.RightBrace ∷ rest) q = refl
no_equals (_ ∷ rest) q = absurd (true≢false q)

own : (name : List ℕ) (b : Bool) → is_unqualified name && b ≡ true → has_dot name ≡ false
own name b e = not-true (has_dot name) (and_left (is_unqualified name) b e)

-- each declaration of a type
pub type_decls_found : (x : TopDeclTree) → Found type_decls x
type_decls_found (v.EmptyData name ps) = λ good.
    joined_found type_decls datas (λ x. x) (begins is_data_word) data_joins (v.EmptyData name ps) good
    (λ fine rest quiet.
    let params = map t.Var ps ++ rest in
    found datas (t.Word w.Data ∷ t.Con name ∷ params) (v.EmptyData name ps) rest 0
    (empty_took None name ps (own name true fine) (t.Word w.Data ∷ t.Con name ∷ params) (t.Con name ∷ params) params
    rest
    refl refl refl (no_var rest quiet) (no_equals rest quiet))) good
type_decls_found (v.Data name ps first more) = λ good.
    joined_found type_decls datas (λ x. x) (begins is_data_word) data_joins (v.Data name ps first more) good
    (λ fine rest quiet.
    let p : ConstrTree × List ConstrTree = (first, more) in
    let body = constr_lists.tokens p ++ rest in
    let here = t.Equals ∷ body in
    let params = map t.Var ps ++ here in
    let whole = and_left (is_unqualified name && (is_constr first && _)) true fine in
    let list = between_found constrs t.Bar is_bar constrs_are None first more (constrs_found first)
    (each_all (Found constrs) constrs_found more) (and_right (is_unqualified name) _ whole) rest
    (follow_quiet constr_lists ends_item constrs_quiet p rest quiet) in
    found datas (t.Word w.Data ∷ t.Con name ∷ params) (v.Data name ps first more) rest _
    (data_took None name ps (own name _ whole) (t.Word w.Data ∷ t.Con name ∷ params) (t.Con name ∷ params) params here
    refl refl refl body refl p rest _ list)) good
type_decls_found (v.Newtype name ps con x) = λ good.
    joined_found type_decls newtypes (λ x. x) (begins is_newtype_word) newtype_joins (v.Newtype name ps con x) good
    (λ fine rest quiet.
    let inner = spelling_atype x ++ rest in
    let body = con_tokens con ++ inner in
    let here = t.Equals ∷ body in
    let params = map t.Var ps ++ here in
    let whole = and_left (is_unqualified name && (is_con con && is_atype x)) true fine in
    let both = and_right (is_unqualified name) _ whole in
    let field = atypes_found x (and_right (is_con con) _ both) rest
    (follow_quiet atypes ends_item (λ x j h. refl) x rest
    quiet) in
    found newtypes (t.Word w.Newtype ∷ t.Con name ∷ params) (v.Newtype name ps con x) rest _
    (newtype_took None name ps (own name _ whole) (t.Word w.Newtype ∷ t.Con name ∷ params) (t.Con name ∷ params) params
    here refl refl refl body refl (con, x) rest _
    (body_took None body con inner 0 (con_at con inner (and_left (is_con con) _ both)) x rest _ field))) good
type_decls_found (v.Synonym name ps y) = λ good.
    let p : Synonym = record { name = name; params = ps; ty = y } in
    let both = and_left (is_unqualified name && is_type y) true good in
    joined_found type_decls synonym_trees make_synonym (begins is_type_word) synonym_joins p both
    (λ fine rest quiet.
    let body = spelling_type y ++ rest in
    let here = t.Equals ∷ body in
    let params = map t.Var ps ++ here in
    let type = types_found y (and_right (is_unqualified name) _ fine) rest quiet in
    found synonym_trees (t.Word w.Type ∷ t.Con name ∷ params) p rest _
    (synonym_ok None name ps (own name _ fine) (t.Word w.Type ∷ t.Con name ∷ params) (t.Con name ∷ params) params here
    body y rest _ refl refl refl refl type)) good
type_decls_found (v.Decl d) = λ good. absurd (true≢false (sym (and_right _ false good)))
