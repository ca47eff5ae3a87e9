pub mod KeyLemmas
pub mod LeadLemmas
pub mod LinkLemmas
pub mod PaddedLemmas
pub mod RecordLemmas
pub mod TakingLemmas
