pub mod Encodable
pub mod Mappings
pub mod Pieces
