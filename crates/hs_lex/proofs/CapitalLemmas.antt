-- Names that begin with a capital letter, and qualified names.
use Rattle.std.proofs.Common.{◌≡◌, ℕ, suc, ◌+◌, ◌≤◌, Bool, true, false, List, [], ◌∷◌, length, take, drop, refl, sym}
use Rattle.std.proofs.Common.{ap, ◌∙◌, subst, arith, None, cond, add-one}
use Rattle.std.specs.Prelude.{not, ◌&&◌, ◌==◌}
use Rattle.std.specs.List.{prefix_len}
use Rattle.std.proofs.lemmas.Bool.Decides.{nat_tests}
use Rattle.hs_tokens.specs.declared.token.TokenKind.TheVariants as t
use Rattle.hs_lex.specs.declared.class.Class.TheVariants as c
use Rattle.hs_lex.specs.declared.class.Start.{Start}
use Rattle.hs_lex.specs.declared.class.Start.TheVariants as s
use Rattle.hs_lex.specs.declared.kind.Kind.{Kind}
use Rattle.hs_lex.specs.declared.kind.Kind.TheVariants as k
use Rattle.hs_lex.specs.Classes.{from_to, is_in, all, begins, start_of}
use Rattle.hs_lex.specs.Words.{operator, is_plain_word, is_plain_symbol}
use Rattle.hs_lex.specs.Numbers.{only}
use Rattle.hs_lex.specs.Lexicon.{capital}
use Rattle.hs_lex.specs.Longest.{Spelling, Longest, Never}
use Rattle.hs_lex.specs.Parts.{last_by, IsMore}
use Rattle.hs_lex.proofs.RunLemmas.{all_prefix, all_past, whole_run, run_ends, ahead_longest, here_longest, never_ahead}
use Rattle.hs_lex.proofs.RunLemmas.{over_longest}

-- a whole run of a class, with a test of it all
abbrev pub whole : (ℕ → Bool) → (List ℕ → Bool) → (List ℕ → Kind) → ℕ → Spelling Kind
whole f plain h b ys rest = only ((all f ys && not (begins f rest)) && plain (b ∷ ys)) (h (b ∷ ys))

whole_longest : (f : ℕ → Bool) (plain : List ℕ → Bool) (h : List ℕ → Kind) (b : ℕ) (bs : List ℕ) (n : ℕ)
    → n ≡ prefix_len f bs → n ≤ length bs →
    plain (b ∷ take n bs) ≡ true → Longest (whole f plain h b) bs (h (b ∷ take n bs)) n
whole_longest f plain h b bs n is le ok = record {
  within = le;
  spelled = ap (λ v. only ((v && not (begins f (drop n bs))) && plain (b ∷ take n bs)) (h (b ∷ take n bs)))
      (ap (λ m. all f (take m bs)) is ∙ all_prefix f bs)
      ∙ ap (λ v. only (not v && plain (b ∷ take n bs)) (h (b ∷ take n bs))) (ap (λ m. begins f (drop m bs)) is
      ∙ run_ends f bs)
      ∙ ap (λ v. only v (h (b ∷ take n bs))) ok;
  longest = λ m le' lt. ap (λ v. only ((v && not (begins f (drop m bs))) && plain (b ∷ take m bs)) (h (b ∷ take m bs)))
      (all_past f bs m le' (omega arith));
}

whole_never : (f : ℕ → Bool) (plain : List ℕ → Bool) (h : List ℕ → Kind) (b : ℕ) (bs : List ℕ) (n : ℕ)
    → n ≡ prefix_len f bs →
    plain (b ∷ take n bs) ≡ false → Never (whole f plain h b) bs
whole_never f plain h b bs n is bad = λ m le. go m le (all f (take m bs)) (begins f (drop m bs)) refl refl
  where
    go : (m : ℕ) → m ≤ length bs → (u v : Bool) → all f (take m bs) ≡ u → begins f (drop m bs) ≡ v →
        only ((all f (take m bs) && not (begins f (drop m bs))) && plain (b ∷ take m bs)) (h (b ∷ take m bs)) ≡ None
    go m le false v p q = ap (λ u. only ((u && not (begins f (drop m bs))) && plain (b ∷ take m bs))
        (h (b ∷ take m bs))) p
    go m le true true p q =
        ap (λ u. only ((u && not (begins f (drop m bs))) && plain (b ∷ take m bs)) (h (b ∷ take m bs))) p
        ∙ ap (λ u. only (not u && plain (b ∷ take m bs)) (h (b ∷ take m bs))) q
    go m le true false p q =
        let same : m ≡ n = whole_run f bs m le p q ∙ sym is in
        ap (λ u. only ((u && not (begins f (drop m bs))) && plain (b ∷ take m bs)) (h (b ∷ take m bs))) p
        ∙ ap (λ u. only (not u && plain (b ∷ take m bs)) (h (b ∷ take m bs))) q
        ∙ ap (λ u. only u (h (b ∷ take m bs))) (ap (λ i. plain (b ∷ take i bs)) same ∙ bad)

pub front_is : (n : ℕ) (text : List ℕ) (b : ℕ) (bs : List ℕ) → text ≡ b ∷ bs → take (n + 1) text ≡ b ∷ take n bs
front_is n text b bs at = ap (take (n + 1)) at ∙ ap (λ m. take m (b ∷ bs)) (add-one n)

pub word_last : (b : ℕ) (bs text word : List ℕ) (n : ℕ) → text ≡ b ∷ bs → s.Small ≡ start_of b
    → n ≡ prefix_len (is_in c.Name) bs → n ≤ length bs →
    word ≡ take (n + 1) text → true ≡ is_plain_word word → Longest (last_by (start_of b) b) bs (k.Token t.Var) n
word_last b bs text word n at e is le w ok =
    subst (λ s. Longest (last_by s b) bs (k.Token t.Var) n) e
    (whole_longest (is_in c.Name) is_plain_word (λ w. k.Token t.Var) b bs n is le
    (sym (ok ∙ ap is_plain_word (w ∙ front_is n text b bs at))))

pub word_never : (b : ℕ) (bs text word : List ℕ) (n : ℕ) → text ≡ b ∷ bs → s.Small ≡ start_of b
    → n ≡ prefix_len (is_in c.Name) bs →
    word ≡ take (n + 1) text → false ≡ is_plain_word word → Never (last_by (start_of b) b) bs
word_never b bs text word n at e is w bad =
    subst (λ s. Never (last_by s b) bs) e
    (whole_never (is_in c.Name) is_plain_word (λ w. k.Token t.Var) b bs n is
    (sym (bad ∙ ap is_plain_word (w ∙ front_is n text b bs at))))

pub symbol_last : (b : ℕ) (bs text word : List ℕ) (n : ℕ) (kind : Kind) → text ≡ b ∷ bs → s.Symbol ≡ start_of b
    → n ≡ prefix_len (is_in c.Symbol) bs → n ≤ length bs →
    word ≡ take (n + 1) text → true ≡ is_plain_symbol word → kind ≡ operator word
    → Longest (last_by (start_of b) b) bs kind n
symbol_last b bs text word n kind at e is le w ok is_kind =
    subst (λ s. Longest (last_by s b) bs kind n) e
    (subst (λ x. Longest (last_by s.Symbol b) bs x n) (sym (is_kind ∙ ap operator (w ∙ front_is n text b bs at)))
    (whole_longest (is_in c.Symbol) is_plain_symbol operator b bs n is le
    (sym (ok ∙ ap is_plain_symbol (w ∙ front_is n text b bs at)))))

pub symbol_never : (b : ℕ) (bs text word : List ℕ) (n : ℕ) → text ≡ b ∷ bs → s.Symbol ≡ start_of b
    → n ≡ prefix_len (is_in c.Symbol) bs →
    word ≡ take (n + 1) text → false ≡ is_plain_symbol word → Never (last_by (start_of b) b) bs
symbol_never b bs text word n at e is w bad =
    subst (λ s. Never (last_by s b) bs) e
    (whole_never (is_in c.Symbol) is_plain_symbol operator b bs n is
    (sym (bad ∙ ap is_plain_symbol (w ∙ front_is n text b bs at))))

-- what a part is
part_name : (b : ℕ) (ys r : List ℕ) → is_in c.Name b ≡ true → capital false (b ∷ ys) r ≡ capital false ys r
part_name b ys r e = ap (λ v. cond v (capital false ys r) (cond (b == 46) (capital true ys r) None)) e

part_large : (b : ℕ) (ys r : List ℕ) → from_to 65 90 b ≡ true → capital true (b ∷ ys) r ≡ capital false ys r
part_large b ys r e = ap (λ v. cond v (capital false ys r) (last_by (start_of b) b ys r)) e

part_small : (b : ℕ) (ys r : List ℕ) → from_to 65 90 b ≡ false → capital true (b ∷ ys) r ≡ last_by (start_of b) b ys r
part_small b ys r e = ap (λ v. cond v (capital false ys r) (last_by (start_of b) b ys r)) e

pub ends_other : (bs : List ℕ) (b : ℕ) (tail : List ℕ) → bs ≡ b ∷ tail → begins (is_in c.Name) bs ≡ false → (b ≡ 46 → ⊥)
    → Longest (capital false) bs (k.Token t.Con) 0
ends_other bs b tail at plain ne =
    subst (λ l. Longest (capital false) l (k.Token t.Con) 0) (sym at)
    (here_longest (capital false) (λ ys r. None) b tail (k.Token t.Con)
    (λ ys r. ap (λ v. cond v (capital false ys r) (cond (b == 46) (capital true ys r) None))
    (sym (ap (begins (is_in c.Name)) at) ∙ plain)
    ∙ ap (λ v. cond v (capital true ys r) None) (let no : (b == 46) ≡ false = grind (arith, nat_tests) in no))
    refl (λ m le. refl))

dotted : (bs tail : List ℕ) (b : ℕ) (kind : Kind) (n : ℕ) → bs ≡ b ∷ tail → b ≡ 46 → Longest (capital true) tail kind n
    → Longest (capital false) bs kind (suc n)
dotted bs tail b kind n at is l =
    subst (λ l. Longest (capital false) l kind (suc n)) (sym (at ∙ ap (λ v. v ∷ tail) is))
    (ahead_longest (capital false) (capital true) 46 tail kind n (λ ys r. refl) l)

pub ends_never : (bs tail rest : List ℕ) (b d : ℕ) → bs ≡ b ∷ tail → b ≡ 46 → tail ≡ d ∷ rest → from_to 65 90 d ≡ false
    → Never (last_by (start_of d) d) rest →
    Longest (capital false) bs (k.Token t.Con) 0
ends_never bs tail rest b d at is and small none =
    subst (λ l. Longest (capital false) l (k.Token t.Con) 0) (sym (at ∙ ap (λ v. v ∷ tail) is))
    (here_longest (capital false) (capital true) 46 tail (k.Token t.Con) (λ ys r. refl) refl
    (subst (Never (capital true)) (sym and) (never_ahead (capital true) (last_by (start_of d) d) d rest
    (λ ys r. part_small d ys r small) refl none)))

pub ends_last : (bs tail rest : List ℕ) (b d : ℕ) (kind : Kind) (n : ℕ) → bs ≡ b ∷ tail → b ≡ 46 → tail ≡ d ∷ rest
    → from_to 65 90 d ≡ false →
    Longest (last_by (start_of d) d) rest kind n → Longest (capital false) bs kind (n + 2)
ends_last bs tail rest b d kind n at is and small l =
    let two : suc (suc n) ≡ n + 2 = omega arith in
    subst (λ m. Longest (capital false) bs kind m) two
    (dotted bs tail b kind (suc n) at is
    (subst (λ l. Longest (capital true) l kind (suc n)) (sym and)
    (ahead_longest (capital true) (last_by (start_of d) d) d rest kind n (λ ys r. part_small d ys r small) l)))

pub ends_more : (bs tail rest : List ℕ) (b d n : ℕ) → bs ≡ b ∷ tail → b ≡ 46 → tail ≡ d ∷ rest → from_to 65 90 d ≡ true
    → n ≡ prefix_len (is_in c.Name) rest → n ≤ length rest →
    IsMore bs (n + 2)
ends_more bs tail rest b d n at is and large run le =
    let two : n + 2 ≡ suc (suc n) = omega arith in
    let behind : drop (n + 2) bs ≡ drop n rest = ap (λ m. drop m bs) two
    ∙ ap (drop (suc (suc n))) (at ∙ ap (λ l. b ∷ l) and) in
    record {
      within = omega (arith, ap length at, ap length and, le);
      some = omega arith;
      whole = ap (begins (is_in c.Name)) (behind ∙ ap (λ m. drop m rest) run) ∙ run_ends (is_in c.Name) rest;
      joins = λ kind m l.
          let inner : Longest (capital false) rest kind (n + m) =
          subst (λ i. Longest (capital false) rest kind (i + m)) (sym run)
          (over_longest (is_in c.Name) (capital false) rest kind m (λ b ys r e. part_name b ys r e)
          (subst (λ i. Longest (capital false) (drop i rest) kind m) run
          (subst (λ l. Longest (capital false) l kind m) behind l))) in
          let more : suc (suc (n + m)) ≡ n + 2 + m = omega arith in
          subst (λ i. Longest (capital false) bs kind i) more
          (dotted bs tail b kind (suc (n + m)) at is
          (subst (λ l. Longest (capital true) l kind (suc (n + m))) (sym and)
          (ahead_longest (capital true) (capital false) d rest kind (n + m) (λ ys r. part_large d ys r large) inner)));
    }

-- the parts so far
abbrev pub Ahead : List ℕ → List ℕ → ℕ → Type 0
Ahead bs left len = (kind : Kind) (m : ℕ) → Longest (capital false) left kind m
    → Longest (capital false) bs kind (len + m)

pub ahead_first : (bs left : List ℕ) (n : ℕ) → n ≡ prefix_len (is_in c.Name) bs → left ≡ drop n bs → Ahead bs left n
ahead_first bs left n is at = λ kind m l.
    subst (λ i. Longest (capital false) bs kind (i + m)) (sym is)
    (over_longest (is_in c.Name) (capital false) bs kind m (λ b ys r e. part_name b ys r e)
    (subst (λ l. Longest (capital false) l kind m) (at ∙ ap (λ i. drop i bs) is) l))

pub ahead_more : (bs left left' : List ℕ) (len n : ℕ) → Ahead bs left len → IsMore left n → left' ≡ drop n left
    → Ahead bs left' (len + n)
ahead_more bs left left' len n ahead more at = λ kind m l.
    let e : len + (n + m) ≡ len + n + m = omega arith in
    subst (λ i. Longest (capital false) bs kind i) e
    (ahead kind (n + m) (more.joins kind m (subst (λ l. Longest (capital false) l kind m) at l)))

pub first_whole : (bs left : List ℕ) (n : ℕ) → n ≡ prefix_len (is_in c.Name) bs → left ≡ drop n bs
    → begins (is_in c.Name) left ≡ false
first_whole bs left n is at = ap (begins (is_in c.Name)) (at ∙ ap (λ m. drop m bs) is) ∙ run_ends (is_in c.Name) bs

pub ahead_end : (bs left : List ℕ) (n : ℕ) → Ahead bs left n → Longest (capital false) left (k.Token t.Con) 0
    → Longest (capital false) bs (k.Token t.Con) n
ahead_end bs left n ahead l = let e : n + 0 ≡ n = omega arith in
    subst (λ m. Longest (capital false) bs (k.Token t.Con) m) e (ahead (k.Token t.Con) 0 l)
