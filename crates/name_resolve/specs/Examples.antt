-- Small groups of declarations, and what their rules say.
use Rattle.std.specs.Prelude.{◌≡◌, ℕ, [], ◌∷◌, codes, Some, None}
use Rattle.std.specs.Str.{bytes_eq}
use Rattle.bp_base.specs.declared.ty.Space.TheVariants.{Types, Values}
use Rattle.name_resolve.specs.Asked.{Item, first_twice, first_loose}

abbrev pub f_clause : ℕ → Item
f_clause n = Item.clause (codes "f") n

-- clauses that stand together; with another number of arguments; apart; two type signatures; a type and a constructor
-- of one name; a fixity declaration of a name that the group does not bind
abbrev pub GroupsAreRuled : Type 0
GroupsAreRuled = (first_twice [] (f_clause 2 ∷ f_clause 2 ∷ []) ≡ None)
    × (first_twice [] (f_clause 2 ∷ f_clause 1 ∷ []) ≡ Some (codes "f"))
    × (first_twice [] (f_clause 2 ∷ Item.signature (codes "g") ∷ f_clause 2 ∷ []) ≡ Some (codes "f"))
    × (first_twice [] (Item.signature (codes "g") ∷ f_clause 1 ∷ Item.signature (codes "g") ∷ []) ≡ Some (codes "g"))
    × (first_twice [] (Item.thing Types (codes "T") ∷ Item.thing Values (codes "T") ∷ []) ≡ None)
    × (first_loose (λ n. bytes_eq n (codes "f")) (Item.fixity (codes "f") ∷ Item.fixity (codes "g") ∷ []) ≡ Some
    (codes "g"))
