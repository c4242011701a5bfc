-- The steps of an emission: what each does to a writer, what is refused, and what is recorded.
pub mod AsciiTexts
pub mod Between
pub mod Calls
pub mod Emitting
pub mod Fronts
pub mod Levels
pub mod Made
pub mod NoPositions
pub mod OneText
pub mod PartSteps
pub mod PendingSemi
pub mod Positions
pub mod Remade
pub mod Short
pub mod StepAscii
