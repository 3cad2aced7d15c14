-- How changes of images move the placement maps.
pub mod ChangeMoves
pub mod ChangeSteps
pub mod ChangedMaps
pub mod DeltasAcross
pub mod MovementMaps
