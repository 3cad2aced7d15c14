-- The cuts that commands lead to.
pub mod CutMembers
pub mod CutsFollowed
