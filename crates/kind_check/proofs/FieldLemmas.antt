-- Fields of one constructor after another.
use Rattle.std.proofs.Common.{ℕ, List, [], ◌∷◌, ◌++◌}
use Rattle.hs_core.specs.Types.{KindTerm, TypeTerm}
use Rattle.hs_core.specs.Kinds.{NameKinds, HaveStar}
use Rattle.type_unify.specs.Types.{Bound}
use Rattle.kind_check.specs.Forms.{Guess}
use Rattle.kind_check.specs.Walks.{Imposes, NoGuess, stars, Local}
use Rattle.kind_check.proofs.DeclareLemmas.{IsStable, and_then, not_then, HaveStar-map, HaveStar-front}

-- types of kind `*` in front of others
pub HaveStar-append : (N : NameKinds) (f : ℕ → KindTerm) (ts us : List TypeTerm) → HaveStar N f ts → HaveStar N f us
    → HaveStar N f (ts ++ us)
HaveStar-append N f [] us h k = k
HaveStar-append N f (t ∷ ts) us h k = (h.0, HaveStar-append N f ts us h.1 k)

pub stars-stable : (names : Guess → NameKinds) (vars : Guess → ℕ → KindTerm) (n : ℕ) (ts : List TypeTerm)
    → Local names vars n → IsStable n (stars names vars ts)
stars-stable names vars n ts l g h a f =
    HaveStar-map (names g) (names h) (vars g) (vars h) ts (l.named g h a) (l.ranged g h a) f

-- the fields so far, and those of the next constructor
pub next_fields : (names : Guess → NameKinds) (vars : Guess → ℕ → KindTerm) (ts us : List TypeTerm)
    (old mid new : List Bound) (n m last : ℕ) → Local names vars n
    → Imposes (stars names vars ts) old mid n m → Imposes (stars names vars us) mid new m last
    → Imposes (stars names vars (ts ++ us)) old new n last
next_fields names vars ts us old mid new n m last l p q =
    and_then (stars names vars ts) (stars names vars us) (stars names vars (ts ++ us)) old mid new n m last
    (stars-stable names vars n us l)
    (λ g h. HaveStar-front (names g) (vars g) ts us h)
    (λ g one two. HaveStar-append (names g) (vars g) ts us one two) p q

-- the next constructor's have no kinds, and so all have none
pub fields_refused : (names : Guess → NameKinds) (vars : Guess → ℕ → KindTerm) (ts us vs : List TypeTerm)
    (old mid : List Bound) (n m : ℕ) → Local names vars n
    → Imposes (stars names vars ts) old mid n m → NoGuess (stars names vars us) mid
    → NoGuess (stars names vars (ts ++ (us ++ vs))) old
fields_refused names vars ts us vs old mid n m l p never =
    not_then (stars names vars ts) (stars names vars us) (stars names vars (ts ++ (us ++ vs))) old mid n m
    (stars-stable names vars n us l)
    (λ g h. let f = HaveStar-front (names g) (vars g) ts (us ++ vs) h in
    (f.0, (HaveStar-front (names g) (vars g) us vs f.1).0)) p never
