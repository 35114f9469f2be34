-- Trees that are put together of others are found if their parts are.
use Rattle.std.proofs.Common.{◌≡◌, ℕ, ◌+◌, ◌≤◌, ◌<◌, Bool, true, false, List, [], ◌∷◌, ◌++◌, length, refl, sym, ap}
use Rattle.std.proofs.Common.{◌∙◌, subst, arith, length-append}
use Rattle.std.specs.Prelude.{max, Option, None}
use Rattle.hs_forms.specs.Reading.{begins, Reads}
use Rattle.hs_forms.proofs.FormLemmas.{begins_within, begins_apart}
use Rattle.hs_forms.proofs.LimitLemmas.{and_left, and_right}
use Rattle.hs_expression_forms.specs.Trees.{Trees, within, Took, behind_token, ended, row, Follows, Makes, Embeds}
use Rattle.hs_expression_forms.specs.Expressions.{few, listed}
use Rattle.hs_expression_forms.proofs.TreesLemmas.{behind_took, ended_took, row_took, made_took, embeds_took}
use Rattle.hs_expression_forms.proofs.ListedLemmas.{Lists, list_chain}
use Rattle.hs_block_forms.specs.Combined.{narrowed, Places, PlaceCase, is_none, is_some}
use Rattle.hs_block_forms.proofs.CombinedLemmas.{not_off, place_empty, place_took}
use Rattle.hs_one_tree.specs.Found.{Found}
use Rattle.hs_one_tree.proofs.WholeLemmas.{Each, each_map, told, chain_found, ItemFound}

-- a tree that was read from some tokens
pub found : {K T : Type 0} (a : Trees K T) (ts : List K) (x : T) (rest : List K) (m : ℕ) → Took a None ts x rest m →
    Took a None (a.tokens x ++ rest) x rest (a.deep x)
found a ts x rest m acc = told (within a None) a.deep ts x rest m acc

-- a tree that is read, and is less deep than it has tokens
pub read_found : {K T : Type 0} (a : Trees K T) (x : T) (rest : List K) → Reads (within a None) x rest →
    a.deep x < length (a.tokens x) → Took a None (a.tokens x ++ rest) x rest (a.deep x)
read_found a x rest r less =
    let long = length-append (a.tokens x) rest in
    record { spelled = refl; reads = r; measured_is = refl; room = omega arith }

-- what is found has more tokens than it is deep
pub found_room : {K T : Type 0} (a : Trees K T) (x : T) (rest : List K) →
    Took a None (a.tokens x ++ rest) x rest (a.deep x) → a.deep x < length (a.tokens x)
found_room a x rest acc =
    let long = length-append (a.tokens x) rest in
    let room = acc.room in omega arith

pub same_found : {K T : Type 0} (a : Trees K T) (x y : T) → x ≡ y → Found a y → Found a x
same_found a x y is f = subst (Found a) (sym is) f

module _ {K T : Type 0} (a : Trees K T) where
  pub behind_found : (k : K) (x : T) → Found a x → Found (behind_token k a) x
  behind_found k x f good rest quiet =
      behind_took a None k (k ∷ (a.tokens x ++ rest)) (a.tokens x ++ rest) x rest (a.deep x) refl (f good rest quiet)

  pub ended_found : (k : K) → ((x : T) → a.extends x k ≡ false) → (x : T) → Found a x → Found (ended a k) x
  ended_found k ends x f good rest quiet =
      found (ended a k) (a.tokens x ++ k ∷ rest) x rest (a.deep x)
      (ended_took a None k ends (a.tokens x ++ k ∷ rest) x (k ∷ rest) rest (a.deep x) (f good (k ∷ rest) (ends x)) refl)

  -- before what may stand behind it, no tree goes on
  pub follow_quiet : (follow : K → Bool) → ((x : T) (k : K) → follow k ≡ true → a.extends x k ≡ false) → (x : T)
      (rest : List K) → begins ((narrowed a follow).extends x) rest ≡ false → begins (a.extends x) rest ≡ false
  follow_quiet follow quiet x rest q =
      begins_within ((narrowed a follow).extends x) (a.extends x) rest (λ k e. quiet x k (not_off (follow k) e)) q

  module _ (sep : List K) (starter : K → Bool) (l : Lists a sep starter) (most : Option ℕ)
      (item : (x : T) → Found a x → ItemFound (list_chain a sep starter l most None) x) where
    parts_found : (h : T) (xs : List T) → Found a h → Each (Found a) xs → Found (listed a sep starter most) (h, xs)
    parts_found h xs f each good rest quiet =
        let parts = and_right (few most (length xs)) _ good in
        chain_found (list_chain a sep starter l most None) (listed a sep starter most).deep h xs rest (good, tt) quiet
        (λ here q. f (and_left (a.formed h) _ parts) here q)
        (each_map (Found a) (ItemFound (list_chain a sep starter l most None)) item xs each) (omega arith)

  -- trees one behind another
  pub list_found : (starter : K → Bool) → Lists a [] starter → (most : Option ℕ) (h : T) (xs : List T) → Found a h →
      Each (Found a) xs → Found (listed a [] starter most) (h, xs)
  list_found starter l most =
      parts_found [] starter l most (λ x f n good here q. f good.0 here q)

  -- trees with a token between them
  pub between_found : (k : K) (starter : K → Bool) → Lists a (k ∷ []) starter → (most : Option ℕ) (h : T)
      (xs : List T) → Found a h → Each (Found a) xs → Found (listed a (k ∷ []) starter most) (h, xs)
  between_found k starter l most =
      parts_found (k ∷ []) starter l most (λ x f n good here q. behind_found k x f good.0 here q)

-- two trees in a row
pub row_found : {K A B : Type 0} (a : Trees K A) (b : Trees K B) (starter : K → Bool) → Follows a b starter → (x : A)
    (y : B) → Found a x → Found b y → Found (row a b) (x, y)
row_found a b starter f x y p q good rest quiet =
    let here = b.tokens y ++ rest in
    found (row a b) (a.tokens x ++ here) (x, y) rest (max (a.deep x) (b.deep y))
    (row_took a b starter f None (a.tokens x ++ here) x here (a.deep x) y rest (b.deep y)
    (p (and_left (a.formed x) _ good) here (begins_apart starter (a.extends x) (b.tokens y) rest (f.apart x)
    (f.starts y))) (q (and_right (a.formed x) _ good) rest quiet))

-- a production that is no deeper than its parts
pub plain_found : {K P T : Type 0} (whole : Trees K T) (part : Trees K P) (make : P → T) (test : List K → Bool) →
    Makes whole part make 0 test → (p : P) → Found part p → Found whole (make p)
plain_found whole part make test w p f good rest quiet =
    let ts = part.tokens p ++ rest in
    let acc = f (sym (w.formed p) ∙ good) rest (begins_within (whole.extends (make p)) (part.extends p) rest
    (w.extends p) quiet) in
    let room = acc.room in
    found whole ts (make p) rest (part.deep p + 0)
    (made_took whole part make 0 test w None tt ts p rest (part.deep p) acc (omega arith))

-- a production behind a token, at most one deeper than its parts
pub token_found : {K P T : Type 0} (whole : Trees K T) (k : K) (part : Trees K P) (make : P → T) (used : ℕ)
    (test : List K → Bool) → Makes whole (behind_token k part) make used test → used ≤ 1 → (p : P) → Found part p →
    Found whole (make p)
token_found whole k part make used test w le p f good rest quiet =
    let ts = part.tokens p ++ rest in
    let acc = f (sym (w.formed p) ∙ good) rest (begins_within (whole.extends (make p)) (part.extends p) rest
    (w.extends p) quiet) in
    let room = acc.room in
    found whole (k ∷ ts) (make p) rest (part.deep p + used)
    (made_took whole (behind_token k part) make used test w None tt (k ∷ ts) p rest (part.deep p)
    (behind_took part None k (k ∷ ts) ts p rest (part.deep p) refl acc) (omega arith))

-- trees of one kind among those of another
pub embedded_found : {K A B : Type 0} (small : Trees K A) (big : Trees K B) (into : A → B) → Embeds small big into →
    (x : A) → ((rest : List K) → begins (small.extends x) rest ≡ false → begins (big.extends (into x)) rest ≡ false) →
    Found big (into x) → Found small x
embedded_found small big into m x still f good rest quiet =
    found small (big.tokens (into x) ++ rest) x rest (big.deep (into x))
    (embeds_took small big into m None (big.tokens (into x) ++ rest) x rest (big.deep (into x))
    (f (m.formed x ∙ good) rest (still rest quiet)))

-- a place of a block, behind a token
pub place_found : {K T S : Type 0} (a : Trees K T) (s : Trees K S) (none : S) (some : T → S) (starter ends : K → Bool) →
    Places a s none some starter ends → (k : K) → (y : S) → ((x : T) → y ≡ some x → Found a x) →
    Found (behind_token k s) y
place_found {K} {T} {S} a s none some starter ends p k y f good rest quiet = by (p.cases y)
  where
    off : begins starter rest ≡ false
    off = begins_within (s.extends y) starter rest (λ j e. p.apart j (not_off (ends j) (sym (p.extends y j) ∙ e))) quiet

    by : PlaceCase none some y → Took (behind_token k s) None (k ∷ (s.tokens y ++ rest)) y rest (s.deep y)
    by (is_none is) =
        subst (λ z. Took (behind_token k s) None (k ∷ (s.tokens z ++ rest)) z rest (s.deep z)) (sym is)
        (found (behind_token k s) (k ∷ rest) none rest 0
        (place_empty a s none some starter ends p k None (k ∷ rest) rest refl off))
    by (is_some x is) =
        subst (λ z. Took (behind_token k s) None (k ∷ (s.tokens z ++ rest)) z rest (s.deep z)) (sym is)
        (found (behind_token k s) (k ∷ (a.tokens x ++ rest)) (some x) rest (a.deep x)
        (place_took a s none some starter ends p k None (k ∷ (a.tokens x ++ rest)) (a.tokens x ++ rest) x rest
        (a.deep x) refl (f x is (sym (p.formed x) ∙ ap s.formed (sym is) ∙ good) rest
        (begins_within (s.extends y) (a.extends x) rest
        (λ j e. p.quiet x j (not_off (ends j) (sym (p.extends y j) ∙ e))) quiet))))
