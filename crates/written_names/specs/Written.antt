-- A written name, as it is taken apart.
use Rattle.hs_scopes.specs.Words.{Word}
use Rattle.written_names.specs.declared.word.WrittenName.{WrittenName}

abbrev pub word_at : WrittenName → Word
word_at w = record { qualifier = w.qualifier; occ = w.occ }
