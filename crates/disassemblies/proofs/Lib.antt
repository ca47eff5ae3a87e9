pub mod LineLemmas
pub mod ListedLemmas
pub mod StartLemmas
pub mod SweptLemmas
pub mod OrderedLemmas
pub mod NearLemmas
