pub mod DatacenterRing
pub mod DatacenterShapes
pub mod GroupedRing
pub mod Walk
pub mod code
