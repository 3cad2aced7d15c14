-- Movements in flight: what they take out and put in, how they begin, go on and end.
pub mod BeginLemmas
pub mod DoneLemmas
pub mod DoneRings
pub mod ExchangeLemmas
pub mod FitsLemmas
pub mod MovementLemmas
pub mod MovesKept
pub mod MovesOn
pub mod OnceLemmas
pub mod PhaseLemmas
pub mod SoleLemmas
