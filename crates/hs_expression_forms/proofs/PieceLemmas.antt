-- Pieces of a chain, as a chain of their own.
use Rattle.std.proofs.Common.{◌≡◌, ℕ, ◌+◌, Bool, true, false, List, [], ◌∷◌, ◌++◌, length, refl, sym}
use Rattle.std.proofs.Common.{ap, ◌∙◌, subst, true≢false, arith}
use Rattle.std.specs.Prelude.{map, not, ◌&&◌, Option, Some, None}
use Rattle.std.proofs.lemmas.Bool.{and_from, not-true, not_from_false}
use Rattle.hs_forms.specs.Reading.{begins}
use Rattle.hs_forms.specs.Limits.{Within, lowered, all_of}
use Rattle.hs_forms.specs.Productions.{Chain}
use Rattle.hs_forms.proofs.FormLemmas.{begins_append}
use Rattle.hs_forms.proofs.LimitLemmas.{and_left, and_right, all_here, all_more, or_left, or_right}
use Rattle.hs_tokens.specs.declared.terminal.Terminal.{Terminal}
use Rattle.hs_tokens.specs.declared.terminal.Terminal.TheVariants as t
use Rattle.hs_trees.specs.declared.patterns.QConOpTree.TheVariants as o
use Rattle.hs_modules.specs.Words.{qop_tokens}
use Rattle.hs_modules.specs.Formed.{facts_of_operand}
use Rattle.hs_modules.specs.declared.names.QOpTree.{QOpTree}
use Rattle.hs_modules.specs.declared.names.QOpTree.TheVariants as q
use Rattle.hs_expression_forms.specs.Trees.{within}
use Rattle.hs_expression_forms.specs.Expressions.{starts_operand, starts_qop, goes_on}
use Rattle.hs_expression_forms.specs.Links.{Maybe, maybe_formed, maybe_open, maybe_deep, maybe_goes_on, maybes, Piece}
use Rattle.hs_expression_forms.specs.Links.{piece_tokens, piece_formed, piece_deep, piece_open, shut_front, last_maybe}
use Rattle.hs_expression_forms.specs.Links.{Placed, pieces_form}
use Rattle.hs_expression_forms.proofs.StarterLemmas.{qop_apart}

pub qop_starts : (op : QOpTree) → begins starts_qop (qop_tokens op) ≡ true
qop_starts (q.Sym n) = refl
qop_starts (q.Quoted n) = refl
qop_starts (q.QualifiedSym n) = refl
qop_starts (q.QualifiedQuoted n) = refl
qop_starts (q.Con (o.Sym n)) = refl
qop_starts (q.Con o.Colon) = refl
qop_starts (q.Con (o.Quoted n)) = refl

pub qop_operand : (k : Terminal) → starts_qop k ≡ true → starts_operand k ≡ false
qop_operand (t.VarSym n) h = refl
qop_operand (t.QVarSym n) h = refl
qop_operand (t.ConSym n) h = refl
qop_operand t.Colon h = refl
qop_operand t.Backquote h = refl
qop_operand _ h = absurd (true≢false (sym h))

pub piece_starts : (p : Piece) → begins starts_qop (piece_tokens p) ≡ true
piece_starts p = begins_append starts_qop (qop_tokens p.0) _ (qop_starts p.0)

-- no operator goes on what is not open
pub shut_apart : (m : Maybe) (k : Terminal) → maybe_open m ≡ false → starts_qop k ≡ true → maybe_goes_on m k ≡ false
shut_apart None k e h = qop_operand k h
shut_apart (Some x) k e h =
    ap (λ b. goes_on b b (facts_of_operand x).ends_in_type k) e ∙ qop_apart false (facts_of_operand x).ends_in_type k h

pub front_at : (b : Bool) (ps : List Piece) (p : Piece) (p' : Piece) (more : List Piece) →
    shut_front b (map piece_open (ps ++ p ∷ p' ∷ more)) ≡ true → piece_open p ≡ false
front_at b [] p p' more e = not-true (piece_open p) (and_left (not (piece_open p)) _ (and_right (not b) _ e))
front_at b (z ∷ ps) p p' more e = front_at (piece_open z) ps p p' more (and_right (not b) _ e)

pub front_first : (b : Bool) (p : Piece) (more : List Piece) → shut_front b (map piece_open (p ∷ more)) ≡ true →
    b ≡ false
front_first b p more e = not-true b (and_left (not b) _ e)

pub front_more : (h : Maybe) (ps : List Piece) (p : Piece) → shut_front (maybe_open h) (map piece_open ps) ≡ true →
    maybe_open (last_maybe h ps) ≡ false → shut_front (maybe_open h) (map piece_open (ps ++ p ∷ [])) ≡ true
front_more h [] p e l = and_from (not (maybe_open h)) true (not_from_false (maybe_open h) l) refl
front_more h (z ∷ ps) p e l =
    and_from (not (maybe_open h)) _ (and_left (not (maybe_open h)) _ e)
    (front_more z.1 ps p (and_right (not (maybe_open h)) _ e) l)

pub front_last : (h : Maybe) (ps : List Piece) (p : Piece) (more : List Piece) →
    shut_front (maybe_open h) (map piece_open (ps ++ p ∷ more)) ≡ true → maybe_open (last_maybe h ps) ≡ false
front_last h [] p more e = front_first (maybe_open h) p more e
front_last h (z ∷ ps) p more e = front_last z.1 ps p more (and_right (not (maybe_open h)) _ e)

pub last_more : (h : Maybe) (ps : List Piece) (p : Piece) → last_maybe h (ps ++ p ∷ []) ≡ p.1
last_more h [] p = refl
last_more h (z ∷ ps) p = last_more z.1 ps p

module _ (limit : Option ℕ) where
  pub placed_at : (n m : ℕ) (ps : List Piece) (p : Piece) (more : List Piece) → m ≡ n + length ps →
      Placed limit n (ps ++ p ∷ more) → Within (lowered limit (m + 1)) (piece_deep p)
  placed_at n m [] p more e h =
      let same : n ≡ m = omega (arith, e) in subst (λ k. Within (lowered limit (k + 1)) (piece_deep p)) same h.0
  placed_at n m (z ∷ ps) p more e h = placed_at (n + 1) m ps p more (omega (arith, e)) h.1

  pub placed_more : (n m : ℕ) (ps : List Piece) (p : Piece) → m ≡ n + length ps → Placed limit n ps →
      Within (lowered limit (m + 1)) (piece_deep p) → Placed limit n (ps ++ p ∷ [])
  placed_more n m [] p e h w =
      let same : m ≡ n = omega (arith, e) in
      (subst (λ k. Within (lowered limit (k + 1)) (piece_deep p)) same w, tt)
  placed_more n m (z ∷ ps) p e h w = (h.0, placed_more (n + 1) m ps p (omega (arith, e)) h.1 w)

  abbrev pub piece_item : ℕ → Piece → Type 0
  piece_item n p = (piece_formed p ≡ true) × Within (lowered limit (n + 1)) (piece_deep p)

  pub pieces_more : (h : Maybe) (ps : List Piece) (p : Piece) → (pieces_form limit).Good (h, ps) →
      maybe_open (last_maybe h ps) ≡ false → piece_item (length ps) p → (pieces_form limit).Good (h, ps ++ p ∷ [])
  pieces_more h ps p good room item =
      let both = and_left (maybe_formed h && all_of (map piece_formed ps)) _ good.0 in (
        and_from _ _ (and_from _ _ (and_left (maybe_formed h) _ both)
            (all_more piece_formed ps p (and_right (maybe_formed h) _ both) item.0))
            (front_more h ps p (and_right (maybe_formed h && all_of (map piece_formed ps)) _ good.0) room),
        good.1,
        placed_more 0 (length ps) ps p (omega arith) good.2 item.1,
      )

  abbrev pub pieces_chain : Chain Terminal (Maybe × List Piece) Maybe Piece
  pieces_chain = record {
    form = pieces_form limit;
    head = within maybes limit;
    items = piece_tokens;
    item = piece_item;
    inner = λ p. maybe_goes_on p.1;
    starter = starts_qop;
    make = λ h ps. (h, ps);
    head_depth = maybe_deep;
    item_depth = piece_deep;
    Room = λ h ps. maybe_open (last_maybe h ps) ≡ false;
    laws = record {
      spelled = λ h ps. refl;
      taken = λ x. (x.0, x.1, refl);
      good_head = λ h ps good. (
        and_left (maybe_formed h) _ (and_left (maybe_formed h && all_of (map piece_formed ps))
            _ good.0),
        good.1,
      );
      good_item = λ h ps p more good. (
        all_here piece_formed ps p more (and_right (maybe_formed h) _
            (and_left (maybe_formed h && all_of (map piece_formed (ps ++ p ∷ more))) _ good.0)),
        placed_at 0 (length ps) ps p more (omega arith) good.2,
      );
      starts = piece_starts;
      ends = λ h ps k e. or_left (starts_qop k) _ e;
      ends_head = λ h k e. or_right (starts_qop k) _ e;
      ends_item = λ h ps p k e.
          ap (λ m. maybe_goes_on m k) (sym (last_more h ps p)) ∙ or_right (starts_qop k) _ e;
      apart_head = λ h p more k good e. shut_apart h k (front_first (maybe_open h) p more
          (and_right (maybe_formed h && all_of (map piece_formed (p ∷ more))) _ good.0)) e;
      apart_item = λ h ps p p' more k good e. shut_apart p.1 k (front_at (maybe_open h) ps p p' more
          (and_right (maybe_formed h && all_of (map piece_formed (ps ++ p ∷ p' ∷ more))) _ good.0)) e;
    };
    first = λ h good. (and_from _ _ (and_from (maybe_formed h) true good.0 refl) refl, good.1, tt);
    more = pieces_more;
    full = λ h ps p more good. front_last h ps p more
        (and_right (maybe_formed h && all_of (map piece_formed (ps ++ p ∷ more))) _ good.0);
  }
