pub mod EventLemmas
pub mod ReadingLemmas
pub mod ShownLemmas
pub mod PieceLemmas
