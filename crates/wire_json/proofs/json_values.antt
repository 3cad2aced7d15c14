-- JSON values, their members and items.
pub mod KeysLemmas
pub mod KindsLemmas
pub mod LineLemmas
pub mod LineParts
pub mod ListItems
pub mod MembersLemmas
pub mod PairItems
pub mod ReadingLemmas
pub mod TextBytes
pub mod TokenItems
pub mod WholeData
