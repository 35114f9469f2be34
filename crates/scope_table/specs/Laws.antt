-- What a table says of a name is what the name means.
use Rattle.std.specs.Prelude.{◌≡◌, List, None, Result, Ok, Err}
use Rattle.bp_base.specs.declared.ty.Space.{Space}
use Rattle.hs_scopes.specs.declared.scope.ScopeItem.{ScopeItem}
use Rattle.hs_scopes.specs.declared.scope.MeaningFault.{MeaningFault}
use Rattle.hs_scopes.specs.Words.{Word}
use Rattle.hs_scopes.specs.Meanings.{candidates, first_of_all, fixity_of_item, IsMeant, IsRefusedName}
use Rattle.scope_table.specs.declared.candidate.Candidate.{Candidate}
use Rattle.scope_table.specs.Candidates.{candidates_of, chosen}

-- what is said of the items that a name may mean: the one thing that they mean, with its fixity, or why there is none
abbrev pub SaysMeant : List ScopeItem → Result Candidate MeaningFault → Type 0
SaysMeant is (Ok c) = IsMeant is c.name × (c.fixity ≡ fixity_of_item (first_of_all is))
SaysMeant is (Err f) = IsRefusedName is f

abbrev pub TablesMean : Type 0
TablesMean = (items : List ScopeItem) (space : Space) (w : Word)
    → SaysMeant (candidates items space w) (chosen space w.qualifier None (candidates_of items w.occ))
