pub mod RenamedLemmas
