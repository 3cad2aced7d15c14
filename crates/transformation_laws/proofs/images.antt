-- The rules of valid images.
pub mod MovementLaws
pub mod OverlapRows
pub mod SoundLaws
pub mod TokenLaws
pub mod ValidLaws
