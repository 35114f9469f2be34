-- What holds of the definitions.
use Rattle.std.specs.Prelude.{◌≡◌, ◌↔◌, List, Some}
use Rattle.bp_base.specs.Texts.{Text}
use Rattle.bp_base.specs.Lists.{Among}
use Rattle.bp_base.specs.declared.ty.Space.{Space}
use Rattle.bp_base.specs.declared.ty.OrigName.{OrigName}
use Rattle.bp_checks.specs.Check.{IsExact}
use Rattle.hs_scopes.specs.declared.scope.ScopeItem.{ScopeItem}
use Rattle.hs_scopes.specs.Words.{Word, word_of}
use Rattle.hs_scopes.specs.Meanings.{meaning, meaning_of, name_meant}
use Rattle.hs_scopes.specs.Chains.{Operator, Piece, Tree, IsReading, reading, IsLeftSection, IsRightSection}
use Rattle.hs_scopes.specs.Chains.{left_section, right_section}

-- what the report finds is the reading, and it finds each
abbrev pub ChainsAreRead : Type 0
ChainsAreRead = (ps : List Piece) (t : Tree) → (reading ps ≡ Some t) ↔ IsReading ps t

abbrev pub SectionsAreRead : Type 0
SectionsAreRead = ((ps : List Piece) (o : Operator) (t : Tree)
    → (left_section ps o.fixity ≡ Some t) ↔ IsLeftSection ps o t)
    × ((o : Operator) (ps : List Piece) (t : Tree) → (right_section o.fixity ps ≡ Some t) ↔ IsRightSection o ps t)

abbrev pub OneReading : Type 0
OneReading = (ps : List Piece) (t u : Tree) → IsReading ps t → IsReading ps u → u ≡ t

-- what a name means is in scope
abbrev pub MeaningsAreInScope : Type 0
MeaningsAreInScope = (items : List ScopeItem) (space : Space) (w : Word) (n : OrigName)
    → meaning items space w ≡ Some n → (i : ScopeItem) × Among i items × (meaning_of i ≡ n)

-- where a name means one thing, it is the meaning that resolving takes
abbrev pub MeantIsMeaning : Type 0
MeantIsMeaning = (items : List ScopeItem) (space : Space) (name : Text) (n : OrigName)
    → (name_meant items space name).passes n → meaning items space (word_of name) ≡ Some n

-- a name has one meaning, or one reason why it has none
abbrev pub NamesAreExact : Type 0
NamesAreExact = (items : List ScopeItem) (space : Space) (name : Text) → IsExact (name_meant items space name)
