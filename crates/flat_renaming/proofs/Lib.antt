pub mod RenamedNameLemmas
pub mod RenamedTextLemmas
pub mod RenamedLocalLemmas
pub mod KeptLemmas
