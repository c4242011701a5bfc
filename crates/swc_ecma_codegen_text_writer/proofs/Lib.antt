pub mod AsStrings
pub mod Begun
pub mod Characters
pub mod Pairs
mod Commuting
mod Ways
pub mod Semicolons
pub mod Sheets
pub mod Stays
pub mod FirstLines
pub mod Ahead
pub mod Fills
pub mod Marked
pub mod Added
pub mod Laid
pub mod Twins
pub mod Again
pub mod Noted
pub mod Noting
pub mod Counting
pub mod Cuts
pub mod Flows
pub mod Flushes
pub mod InLine
pub mod InPlace
pub mod Reaching
pub mod Released
mod Recording
mod Room
mod Steps
pub mod Text
mod Walks
