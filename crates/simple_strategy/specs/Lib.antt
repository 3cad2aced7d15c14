pub mod SimpleWalk
