-- Of the code: how values are kept and changed. No clause of `run` reaches these definitions.
pub mod Basis
pub mod DeltaParts
pub mod MovementRings
pub mod NearCuts
pub mod RowChanges
