-- The texts of names and replications: read and written.
pub mod FactorTexts
pub mod FactorsLemmas
pub mod NameTexts
pub mod ReadWords
pub mod ReplicationLemmas
pub mod ReplicationTexts
pub mod RoundTrip
