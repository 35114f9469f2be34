-- The numbers and words of defects and limits.
use Rattle.std.specs.Prelude.{ℕ, List, codes}
use Rattle.bp_base.specs.declared.code.Code.{Code}
use Rattle.bp_base.specs.declared.code.Code.TheVariants.{ProjectSyntax, ComponentSyntax, NoComponent, TwiceComponent}
use Rattle.bp_base.specs.declared.code.Code.TheVariants.{DependencyCycle, NoSource, LeftOut, Lexical, Layout, Syntax}
use Rattle.bp_base.specs.declared.code.Code.TheVariants.{NoProvision, NoRequirement, NameTaken, LinkClash, LinkCycle}
use Rattle.bp_base.specs.declared.code.Code.TheVariants.{Unfilled, NoModule, AmbiguousModule, ModuleCycle, NotInScope}
use Rattle.bp_base.specs.declared.code.Code.TheVariants.{AmbiguousName, Twice, ExportClash, NoSignatureOf, Fixity, Kind}
use Rattle.bp_base.specs.declared.code.Code.TheVariants.{SynonymUse, IllTyped, MergeClash, Mismatch, NoMain, NoEntry}
use Rattle.bp_base.specs.declared.code.Code.TheVariants.{OldEntry}
use Rattle.bp_base.specs.declared.code.Which.{Which}
use Rattle.bp_base.specs.declared.code.Which.TheVariants.{FileBytes, SourceBytes, Components, OwnModules, Nesting}
use Rattle.bp_base.specs.declared.code.Which.TheVariants.{Units, FlatModules, TypeDepth, EntryBytes, Serials}

-- the number of a kind of defect
abbrev pub code_number : Code → ℕ
code_number ProjectSyntax = 1
code_number ComponentSyntax = 2
code_number NoComponent = 3
code_number TwiceComponent = 4
code_number DependencyCycle = 5
code_number NoSource = 6
code_number LeftOut = 7
code_number Lexical = 8
code_number Layout = 9
code_number Syntax = 10
code_number NoProvision = 11
code_number NoRequirement = 12
code_number NameTaken = 13
code_number LinkClash = 14
code_number LinkCycle = 15
code_number Unfilled = 16
code_number NoModule = 17
code_number AmbiguousModule = 18
code_number ModuleCycle = 19
code_number NotInScope = 20
code_number AmbiguousName = 21
code_number Twice = 22
code_number ExportClash = 23
code_number NoSignatureOf = 24
code_number Fixity = 25
code_number Kind = 26
code_number SynonymUse = 27
code_number IllTyped = 28
code_number MergeClash = 29
code_number Mismatch = 30
code_number NoMain = 31
code_number NoEntry = 32
code_number OldEntry = 33

-- the word for a kind of defect
abbrev pub code_name : Code → List ℕ
code_name ProjectSyntax = codes "ProjectSyntax"
code_name ComponentSyntax = codes "ComponentSyntax"
code_name NoComponent = codes "NoComponent"
code_name TwiceComponent = codes "TwiceComponent"
code_name DependencyCycle = codes "DependencyCycle"
code_name NoSource = codes "NoSource"
code_name LeftOut = codes "LeftOut"
code_name Lexical = codes "Lexical"
code_name Layout = codes "Layout"
code_name Syntax = codes "Syntax"
code_name NoProvision = codes "NoProvision"
code_name NoRequirement = codes "NoRequirement"
code_name NameTaken = codes "NameTaken"
code_name LinkClash = codes "LinkClash"
code_name LinkCycle = codes "LinkCycle"
code_name Unfilled = codes "Unfilled"
code_name NoModule = codes "NoModule"
code_name AmbiguousModule = codes "AmbiguousModule"
code_name ModuleCycle = codes "ModuleCycle"
code_name NotInScope = codes "NotInScope"
code_name AmbiguousName = codes "AmbiguousName"
code_name Twice = codes "Twice"
code_name ExportClash = codes "ExportClash"
code_name NoSignatureOf = codes "NoSignatureOf"
code_name Fixity = codes "Fixity"
code_name Kind = codes "Kind"
code_name SynonymUse = codes "SynonymUse"
code_name IllTyped = codes "IllTyped"
code_name MergeClash = codes "MergeClash"
code_name Mismatch = codes "Mismatch"
code_name NoMain = codes "NoMain"
code_name NoEntry = codes "NoEntry"
code_name OldEntry = codes "OldEntry"

-- the word for a limit
abbrev pub limit_name : Which → List ℕ
limit_name FileBytes = codes "file-bytes"
limit_name SourceBytes = codes "source-bytes"
limit_name Components = codes "components"
limit_name OwnModules = codes "own-modules"
limit_name Nesting = codes "nesting"
limit_name Units = codes "units"
limit_name FlatModules = codes "flat-modules"
limit_name TypeDepth = codes "type-depth"
limit_name EntryBytes = codes "entry-bytes"
limit_name Serials = codes "serials"
