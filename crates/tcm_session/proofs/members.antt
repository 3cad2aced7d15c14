-- The route between two sets of members: the lists of nodes in words, the walk, and what is printed.
pub mod ListedNodes
pub mod ReadLists
pub mod RouteTexts
pub mod WalkLemmas
