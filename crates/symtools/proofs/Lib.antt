mod PutsLemmas
pub mod SortLemmas
mod OrderLemmas
mod TextLemmas
