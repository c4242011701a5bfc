-- Lines of a greatest length: where breaks are allowed, where texts are cut, and what reads the same however they are filled.
pub mod BreakPrints
pub mod Breaks
pub mod CutReads
pub mod CutStanding
pub mod Cuts
pub mod Filled
pub mod FilledNames
pub mod FilledRecords
pub mod FilledTexts
pub mod HeldTexts
pub mod Jointless
pub mod Lengths
pub mod MaxLines
pub mod NamesCut
pub mod NamesReleased
pub mod Shapes
