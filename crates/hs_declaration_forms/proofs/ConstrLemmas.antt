-- Constructors: a name with its fields, or an operator between two sides, whichever the tokens go on as.
use Rattle.std.proofs.Common.{◌≡◌, ℕ, zero, Bool, true, false, List, [], ◌∷◌, ◌++◌, length, refl, sym, ap, ◌∙◌, arith}
use Rattle.std.proofs.Common.{true≢false, subst, drop}
use Rattle.std.specs.Prelude.{max, map, min, codes, Option, None, ◌||◌, ◌&&◌}
use Rattle.std.proofs.lemmas.Bool.{and_from}
use Rattle.hs_forms.specs.Reading.{begins, SameStart}
use Rattle.hs_forms.specs.Answers.{Accepts, Rejects, Fails}
use Rattle.hs_forms.specs.Productions.{Chain}
use Rattle.hs_forms.specs.declared.fault.Fault.{Fault}
use Rattle.hs_forms.proofs.FormLemmas.{begins_append, begins_same}
use Rattle.hs_forms.proofs.LimitLemmas.{and_left, and_right, or_left, or_right}
use Rattle.hs_tokens.specs.declared.terminal.Terminal.{Terminal}
use Rattle.hs_tokens.specs.declared.terminal.Terminal.TheVariants as t
use Rattle.hs_trees.specs.Patterns.{Ts}
use Rattle.hs_modules.specs.Extents.{depth_of}
use Rattle.hs_modules.specs.Modules.{extent_of_constr, extent_of_field, extent_of_side}
use Rattle.hs_modules.specs.ModuleTokens.{side_tokens, constr_tokens}
use Rattle.hs_modules.specs.ModuleForms.{is_side}
use Rattle.hs_modules.specs.Words.{is_conop, conop_tokens}
use Rattle.hs_modules.specs.declared.names.ConTree.{ConTree}
use Rattle.hs_modules.specs.declared.names.ConOpTree.{ConOpTree}
use Rattle.hs_modules.specs.declared.names.ConOpTree.TheVariants as k
use Rattle.hs_modules.specs.declared.declarations.Field.{Field}
use Rattle.hs_modules.specs.declared.declarations.ConstrSide.{ConstrSide}
use Rattle.hs_modules.specs.declared.declarations.ConstrSide.TheVariants as v_side
use Rattle.hs_modules.specs.declared.declarations.ConstrTree.{ConstrTree}
use Rattle.hs_modules.specs.declared.declarations.ConstrTree.TheVariants as v_constr
use Rattle.hs_expression_forms.specs.Trees.{Took, Failed, Follows, row, within}
use Rattle.hs_expression_forms.proofs.TreesLemmas.{row_took, row_first, row_second}
use Rattle.hs_expression_forms.proofs.ListedLemmas.{Lists, list_chain}
use Rattle.hs_block_forms.specs.Blocks.{is_bar}
use Rattle.hs_declaration_forms.specs.Crossing.{crosses}
use Rattle.hs_declaration_forms.specs.Datatypes.{cons, conops, conop_form, sides, side_goes, applied, prefixes, infixes}
use Rattle.hs_declaration_forms.specs.Datatypes.{constrs, constr_goes, starts_field, starts_conop, fields, PrefixParts}
use Rattle.hs_declaration_forms.specs.Datatypes.{InfixParts}
use Rattle.hs_declaration_forms.proofs.FlatLemmas.{flat_took, flat_failed}
use Rattle.hs_declaration_forms.proofs.ConLemmas.{conop_flat}
use Rattle.hs_declaration_forms.proofs.MergeLemmas.{Merges, Apart, Side, of_one, of_two, merged_one, merged_two}
use Rattle.hs_declaration_forms.proofs.MergeLemmas.{merged_fails, wider_took, wider_failed, stands_behind}
use Rattle.hs_declaration_forms.proofs.FieldLemmas.{fields_deep, side_deep, side_starts, least_atype}
use Rattle.hs_declaration_forms.proofs.FieldLemmas.{least_atype_formed, least_atype_deep}
use Rattle.hs_declaration_forms.proofs.CrossLemmas.{ends_uncrossed, prefix_uncrossed, infix_crossed}

-- an operator and the side behind it
conop_starts : (op : ConOpTree) (more : Ts) → begins starts_conop (conop_tokens op ++ more) ≡ true
conop_starts (k.Sym n) more = refl
conop_starts (k.Quoted n) more = refl

side_stops : (x : ConstrSide) (k : Terminal) → starts_conop k ≡ true → side_goes x k ≡ false
side_stops (v_side.Strict a) k h = refl
side_stops (v_side.Lazy b) (t.ConSym n) h = refl
side_stops (v_side.Lazy b) t.Backquote h = refl
side_stops (v_side.Lazy b) _ h = absurd (true≢false (sym h))

abbrev colon : List ℕ
colon = codes ":"

side_follows : Follows conops sides starts_field
side_follows = record {
  starts = side_starts;
  apart = λ x k h. refl;
  least = v_side.Strict least_atype;
  least_formed = least_atype_formed;
  least_deep = least_atype_deep;
}

operator_follows : Follows sides (row conops sides) starts_conop
operator_follows = record {
  starts = λ y. conop_starts y.0 (side_tokens y.1);
  apart = side_stops;
  least = (k.Sym colon, v_side.Strict least_atype);
  least_formed = least_atype_formed;
  least_deep = omega (arith, least_atype_deep);
}

module _ (limit : Option ℕ) (ts : Ts) where
  pub side_failed : (e : Fault) → Failed sides limit ts e → Failed infixes limit ts e
  side_failed e r = row_first sides (row conops sides) starts_conop operator_follows limit ts e r

  module _ (x : ConstrSide) (here : Ts) (m : ℕ) (acc : Took sides limit ts x here m) where
    behind_side : (e : Fault) → Failed (row conops sides) limit here e → Failed infixes limit ts e
    behind_side e r = row_second sides (row conops sides) starts_conop operator_follows limit ts x here m e acc r

    pub operator_failed : (e : Fault) → Fails conop_form here e → Failed infixes limit ts e
    operator_failed e r =
        behind_side e (row_first conops sides starts_field side_follows limit here e
        (flat_failed conop_form conops conop_flat limit here e r))

    module _ (op : ConOpTree) (next : Ts) (n : ℕ) (acc' : Accepts conop_form (λ x. 0) here op next n) where
      pub right_failed : (e : Fault) → Failed sides limit next e → Failed infixes limit ts e
      right_failed e r =
          behind_side e (row_second conops sides starts_field side_follows limit here op next n e
          (flat_took conop_form conops conop_flat limit here op next n acc') r)

      pub infix_took : (y : ConstrSide) (rest : Ts) (d : ℕ) → Took sides limit next y rest d →
          Took infixes limit ts (x, (op, y)) rest (max m d)
      infix_took y rest d q =
          let same : max m (max n d) ≡ max m d = omega (arith, acc'.measured_is) in
          subst (Took infixes limit ts (x, (op, y)) rest) same
          (row_took sides (row conops sides) starts_conop operator_follows limit ts x here m (op, y) rest (max n d) acc
          (row_took conops sides starts_field side_follows limit here op next n y rest d
          (flat_took conop_form conops conop_flat limit here op next n acc') q))

-- a name and its fields, up to what goes on no constructor
applied_goes : (p : PrefixParts) (k : Terminal) → constr_goes k ≡ false → applied.extends p k ≡ false
applied_goes (h, []) k e = ap (λ b. b || false) (or_left (starts_field k) _ e)
applied_goes (h, x ∷ xs) k e = ap (λ b. b || false) (or_left (starts_field k) _ e)

module _ (limit : Option ℕ) (ts : Ts) where
  pub prefix_took : (p : PrefixParts) (rest : Ts) (m : ℕ) → Took applied limit ts p rest m →
      Took prefixes limit ts p rest m
  prefix_took p rest m acc =
      wider_took applied prefixes (λ x. refl) (λ x. refl) (λ x. refl) applied_goes limit ts p rest m acc

  pub prefix_failed : (e : Fault) → Failed applied limit ts e → Failed prefixes limit ts e
  prefix_failed e r =
      wider_failed applied prefixes (λ x. refl) (λ x. refl) (λ x. refl) applied_goes limit ts e r

  pub prefix_goes : (p : PrefixParts) (rest : Ts) (m : ℕ) → Took applied limit ts p rest m →
      begins constr_goes rest ≡ true → Rejects (within prefixes limit) ts (length rest)
  prefix_goes p rest m acc on =
      stands_behind prefixes constr_goes (λ x k. refl) limit ts p rest m (prefix_took p rest m acc) on

-- both as constructors
abbrev pub make_infix : InfixParts → ConstrTree
make_infix p = v_constr.Infix p.0 p.1.0 p.1.1

abbrev pub make_prefix : PrefixParts → ConstrTree
make_prefix p = v_constr.Prefix p.0 p.1

regroup : (a b c : Bool) → a && (b && c) ≡ true → b && (a && c) ≡ true
regroup a b c h =
    let bc = and_right a (b && c) h in
    and_from b (a && c) (and_left b c bc) (and_from a c (and_left a (b && c) h) (and_right b c bc))

side_ends : (x : ConstrSide) (k : Terminal) → constr_goes k ≡ false → side_goes x k ≡ false
side_ends (v_side.Lazy b) k e = or_left _ _ (or_left (starts_field k) _ e)
side_ends (v_side.Strict a) k e = refl

pub constr_merges : Merges infixes prefixes constrs make_infix make_prefix
constr_merges = record {
  tokens_one = λ p. refl;
  tokens_two = λ p. refl;
  formed_one = λ p g. regroup (is_side p.0) (is_conop p.1.0) (is_side p.1.1) g;
  formed_two = λ p g. g;
  deep_one = λ p. omega (arith, side_deep p.0, side_deep p.1.1);
  deep_two = λ p. omega (arith, fields_deep p.1);
  extends_one = λ p k e. side_ends p.1.1 k e;
  extends_two = λ p k e. e;
  cases = cases;
}
  where
    cases : (x : ConstrTree) → constrs.formed x ≡ true → Side infixes prefixes make_infix make_prefix x
    cases (v_constr.Infix l op r) g = of_one (l, (op, r)) refl (regroup (is_conop op) (is_side l) (is_side r) g)
    cases (v_constr.Prefix con fs) g = of_two (con, fs) refl g

infix_apart : (q : InfixParts) (rest : Ts) → Apart infixes prefixes q rest
infix_apart q rest s p after same good quiet e =
    true≢false (sym (infix_crossed q.0 q.1.1 q.1.0 s) ∙ ap (λ l. crosses l zero) e
    ∙ prefix_uncrossed p.0 p.1 after (ends_uncrossed after quiet))

prefix_apart : (p : PrefixParts) (rest : Ts) → begins constr_goes rest ≡ false → Apart prefixes infixes p rest
prefix_apart p rest off s q after same good quiet e =
    true≢false (sym (infix_crossed q.0 q.1.1 q.1.0 after) ∙ ap (λ l. crosses l zero) (sym e)
    ∙ prefix_uncrossed p.0 p.1 s (ends_uncrossed s (begins_same constr_goes rest s same ∙ off)))

module _ (limit : Option ℕ) (ts : Ts) where
  pub constr_infix : (p : InfixParts) (rest : Ts) (m : ℕ) → Took infixes limit ts p rest m →
      Took constrs limit ts (make_infix p) rest m
  constr_infix p rest m acc =
      merged_one infixes prefixes constrs make_infix make_prefix constr_merges limit ts p rest m acc
      (infix_apart p rest)

  pub constr_prefix : (p : PrefixParts) (rest : Ts) (m : ℕ) → Took prefixes limit ts p rest m →
      begins constr_goes rest ≡ false → Took constrs limit ts (make_prefix p) rest m
  constr_prefix p rest m acc off =
      merged_two infixes prefixes constrs make_infix make_prefix constr_merges limit ts p rest m acc
      (prefix_apart p rest off)

  pub constr_fails : (l n : ℕ) → Rejects (within infixes limit) ts l → Rejects (within prefixes limit) ts n →
      Rejects (within constrs limit) ts (min l n)
  constr_fails l n r q =
      merged_fails infixes prefixes constrs make_infix make_prefix constr_merges limit ts l n r q

-- constructors between bars
bar_stops : (k : Terminal) → is_bar k ≡ true → constr_goes k ≡ false
bar_stops t.Bar h = refl
bar_stops _ h = absurd (true≢false (sym h))

pub constrs_are : Lists constrs (t.Bar ∷ []) is_bar
constrs_are = record { starts = λ x. refl; apart = λ x k e. bar_stops k e }

abbrev pub constr_chain : Option ℕ → Chain Terminal (ConstrTree × List ConstrTree) ConstrTree ConstrTree
constr_chain limit = list_chain constrs (t.Bar ∷ []) is_bar constrs_are None limit

-- the bar that stands here
pub bar_led : (ts : Ts) → begins is_bar ts ≡ true → ts ≡ t.Bar ∷ drop 1 ts
bar_led [] h = absurd (true≢false (sym h))
bar_led (t.Bar ∷ ts) h = refl
bar_led (_ ∷ ts) h = absurd (true≢false (sym h))
