-- Instances of the laws, the laws without a premise, and wrong results that pass all clauses of the relation of linking but one.
pub mod BuildExamples
pub mod ClauseLemmas
pub mod Clauses
pub mod CleanExamples
pub mod ConversionExamples
pub mod DerivedLinks
pub mod LawExamples
pub mod LdRuns
pub mod MachineExamples
pub mod MarkExamples
pub mod NearLaws
pub mod NeededClauses
pub mod NeededPremises
pub mod ReachedExamples
pub mod Samples
pub mod SessionLawExamples
pub mod TextExamples
