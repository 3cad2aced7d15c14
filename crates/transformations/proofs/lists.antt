-- Lists of items, with some left out or put in.
pub mod ContainsLemmas
pub mod FilterLemmas
pub mod ListLemmas
pub mod TokenOrder
