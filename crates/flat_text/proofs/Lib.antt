pub mod NameLemmas
pub mod LiteralLemmas
pub mod TextLemmas
pub mod TypeLemmas
pub mod PatternLemmas
pub mod DeclarationLemmas
pub mod ExpressionLemmas
pub mod ModuleLemmas
