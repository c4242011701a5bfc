-- Lists: what is written before, between and after their children.
pub mod ListCommas
pub mod ListLaws
pub mod ListsSoFar
