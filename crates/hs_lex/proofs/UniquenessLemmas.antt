-- No two lists of pieces cover one text, and no text has two answers.
use Rattle.std.proofs.Common.{◌≡◌, ℕ, ◌<◌, ◌⊎◌, inl, inr, Bool, true, false, List, [], ◌∷◌, length, take, drop, refl}
use Rattle.std.proofs.Common.{sym, ap, ◌∙◌, subst, arith, true≢false, Option, Some, None, Result, Ok, Err}
use Rattle.std.specs.Prelude.{nat_lt}
use Rattle.std.proofs.lemmas.Bool.Decides.{nat_tests}
use Rattle.std.proofs.lemmas.Bool.{and_parts}
use Rattle.hs_tokens.specs.declared.token.Token.{Token}
use Rattle.hs_lex.specs.declared.kind.Kind.{Kind}
use Rattle.hs_lex.specs.declared.kind.Kind.TheVariants as k
use Rattle.hs_lex.specs.declared.reader.LexError.{LexError}
use Rattle.hs_lex.specs.declared.reader.LexError.TheVariants as e
use Rattle.hs_lex.specs.Lexicon.{kind_of}
use Rattle.hs_lex.specs.Longest.{Spelling, Longest}
use Rattle.hs_lex.specs.Cover.{Piece, IsPiece, Cuts, is_sound, are_sound, tokens_of, Covered, Stops, Lexes}

none_some : {A : Type 0} (x : A) (o : Option A) → o ≡ None → o ≡ Some x → ⊥
none_some x o p q = let both : None ≡ Some x = sym p ∙ q in cc

not_longer : (g : Spelling Kind) (text : List ℕ) (x y : Kind) (n m : ℕ) → Longest g text x n → Longest g text y m
    → n < m → ⊥
not_longer g text x y n m one two lt = none_some y (g (take m text) (drop m text))
    (one.longest m two.within lt) two.spelled

same_len : (g : Spelling Kind) (text : List ℕ) (x y : Kind) (n m : ℕ) → Longest g text x n → Longest g text y m → n ≡ m
same_len g text x y n m one two = go (nat_lt n m) (nat_lt m n) refl refl
  where
    go : (u v : Bool) → nat_lt n m ≡ u → nat_lt m n ≡ v → n ≡ m
    go true v p q = absurd (not_longer g text x y n m one two (grind (arith, nat_tests)))
    go false true p q = absurd (not_longer g text y x m n two one (grind (arith, nat_tests)))
    go false false p q = grind (arith, nat_tests)

pub same_piece : (p q : Piece) (text : List ℕ) → IsPiece p text → IsPiece q text → p ≡ q
same_piece p q text one two =
    let len : p.len ≡ q.len = same_len kind_of text p.kind q.kind p.len q.len one.longest two.longest in
    let both : Some p.kind ≡ Some q.kind = sym one.longest.spelled ∙ ap (λ n. kind_of (take n text) (drop n text)) len
    ∙ two.longest.spelled in
    let kind : p.kind ≡ q.kind = cc in
    λ i. record { kind = kind i; len = len i }

nothing_stands : (p : Piece) → IsPiece p [] → ⊥
nothing_stands p s = let le = s.longest.within in let lt = s.some in absurd (omega arith)

-- no sound piece stands there
abbrev pub Final : List ℕ → Type 0
Final rest = (rest ≡ []) ⊎ ((p : Piece) × IsPiece p rest × (is_sound p.kind ≡ false))

no_more : (q : Piece) (rest : List ℕ) → Final rest → IsPiece q rest → is_sound q.kind ≡ true → ⊥
no_more q rest (inl none) s ok = nothing_stands q (subst (IsPiece q) none s)
no_more q rest (inr bad) s ok = true≢false (sym ok ∙ ap (λ p. is_sound p.kind) (same_piece q bad.0 rest s bad.1)
    ∙ bad.2)

-- two cuts by sound pieces that cannot go on are one
pub meet : (ps qs : List Piece) (text rest rest' : List ℕ) → Cuts ps text rest → Cuts qs text rest'
    → are_sound ps ≡ true → are_sound qs ≡ true →
    Final rest → Final rest' → (ps ≡ qs) × (rest ≡ rest')
meet [] [] text rest rest' h g a b f f' = (refl, sym h ∙ g)
meet [] (q ∷ qs) text rest rest' h g a b f f' =
    absurd (no_more q rest f (subst (IsPiece q) h g.0) (and_parts (is_sound q.kind) (are_sound qs) b).0)
meet (p ∷ ps) [] text rest rest' h g a b f f' =
    absurd (no_more p rest' f' (subst (IsPiece p) g h.0) (and_parts (is_sound p.kind) (are_sound ps) a).0)
meet (p ∷ ps) (q ∷ qs) text rest rest' h g a b f f' =
    let same = same_piece p q text h.0 g.0 in
    let inner = meet ps qs (drop q.len text) rest rest' (subst (λ x. Cuts ps (drop x.len text) rest) same h.1) g.1
    (and_parts (is_sound p.kind) (are_sound ps) a).1 (and_parts (is_sound q.kind) (are_sound qs) b).1 f f' in
    (ap (λ x. x ∷ ps) same ∙ ap (λ l. q ∷ l) inner.0, inner.1)

pub one_cover : (text : List ℕ) (ps qs : List Piece) → Cuts ps text [] → Cuts qs text [] → ps ≡ qs
one_cover text [] [] h g = refl
one_cover text [] (q ∷ qs) h g = absurd (nothing_stands q (subst (IsPiece q) h g.0))
one_cover text (p ∷ ps) [] h g = absurd (nothing_stands p (subst (IsPiece p) g h.0))
one_cover text (p ∷ ps) (q ∷ qs) h g =
    let same = same_piece p q text h.0 g.0 in
    ap (λ x. x ∷ ps) same ∙ ap (λ l. q ∷ l) (one_cover (drop q.len text) ps qs
    (subst (λ x. Cuts ps (drop x.len text) []) same h.1) g.1)

final_of : (kind : Kind) (text : List ℕ) (at : ℕ) → is_sound kind ≡ false → (s : Stops kind text at) → Final s.rest
final_of kind text at bad s = inr (record { kind = kind; len = s.len }, s.stands, bad)

covered_stops : (kind : Kind) (text : List ℕ) (tokens : List Token) (at : ℕ) → is_sound kind ≡ false
    → Covered text tokens → Stops kind text at → ⊥
covered_stops kind text tokens at bad c s =
    let m = meet c.pieces s.pieces text [] s.rest c.cuts s.cuts c.sound s.sound (inl refl)
    (final_of kind text at bad s) in
    nothing_stands (record { kind = kind; len = s.len })
    (subst (IsPiece (record { kind = kind; len = s.len })) (sym m.1) s.stands)

stops_same : (one two : Kind) (text : List ℕ) (at other : ℕ) → is_sound one ≡ false → is_sound two ≡ false
    → Stops one text at → Stops two text other → (one ≡ two) × (at ≡ other)
stops_same one two text at other bad bad' s r =
    let m = meet s.pieces r.pieces text s.rest r.rest s.cuts r.cuts s.sound r.sound (final_of one text at bad s)
    (final_of two text other bad' r) in
    let p : Piece = record { kind = one; len = s.len } in
    let q : Piece = record { kind = two; len = r.len } in (
      ap (λ x. x.kind) (same_piece p q r.rest (subst (IsPiece p) m.1 s.stands) r.stands),
      omega (arith, s.place, r.place, ap length m.1),
    )

broken_left : k.Broken ≡ k.LeftOut → ⊥
broken_left e = cc

pub one_answer : (text : List ℕ) (one two : Result (List Token) LexError) → Lexes text one → Lexes text two →
    (one ≡ Err e.NoMemory → ⊥) → (two ≡ Err e.NoMemory → ⊥) → one ≡ two
one_answer text (Ok a) (Ok b) h g x y =
    let m = meet h.pieces g.pieces text [] [] h.cuts g.cuts h.sound g.sound (inl refl) (inl refl) in
    ap Ok (h.told ∙ ap (λ ps. tokens_of [] true ps text) m.0 ∙ sym g.told)
one_answer text (Ok a) (Err (e.Lexical n)) h g x y = absurd (covered_stops k.Broken text a n refl h g)
one_answer text (Ok a) (Err (e.LeftOut n)) h g x y = absurd (covered_stops k.LeftOut text a n refl h g)
one_answer text (Ok a) (Err e.NoMemory) h g x y = absurd (y refl)
one_answer text (Err e.NoMemory) two h g x y = absurd (x refl)
one_answer text (Err (e.Lexical n)) (Ok b) h g x y = absurd (covered_stops k.Broken text b n refl g h)
one_answer text (Err (e.LeftOut n)) (Ok b) h g x y = absurd (covered_stops k.LeftOut text b n refl g h)
one_answer text (Err (e.Lexical n)) (Err e.NoMemory) h g x y = absurd (y refl)
one_answer text (Err (e.LeftOut n)) (Err e.NoMemory) h g x y = absurd (y refl)
one_answer text (Err (e.Lexical n)) (Err (e.Lexical m)) h g x y =
    ap (λ v. Err (e.Lexical v)) (stops_same k.Broken k.Broken text n m refl refl h g).1
one_answer text (Err (e.LeftOut n)) (Err (e.LeftOut m)) h g x y =
    ap (λ v. Err (e.LeftOut v)) (stops_same k.LeftOut k.LeftOut text n m refl refl h g).1
one_answer text (Err (e.Lexical n)) (Err (e.LeftOut m)) h g x y =
    absurd (broken_left (stops_same k.Broken k.LeftOut text n m refl refl h g).0)
one_answer text (Err (e.LeftOut n)) (Err (e.Lexical m)) h g x y =
    absurd (broken_left (sym (stops_same k.LeftOut k.Broken text n m refl refl h g).0))
