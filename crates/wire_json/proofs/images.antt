-- Lines of images: read and written.
pub mod ImageFloats
pub mod ImageSizes
pub mod ImagesReadBack
pub mod SnapshotNames
pub mod SnapshotRows
pub mod SoundCounts
