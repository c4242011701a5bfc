-- What a text reads as: the tokens of each part, one part after the other.
pub mod Answered
pub mod Appended
pub mod Choices
pub mod Laid
pub mod NodesSoFar
pub mod Phrased
pub mod Printed
pub mod SoFar
pub mod Standing
pub mod StillPlain
pub mod Texts
pub mod TokenLays
pub mod TokensSoFar
