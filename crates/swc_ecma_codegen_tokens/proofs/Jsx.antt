-- Tokens of JSX: what is written of tags and of text between them, and what it reads as.
pub mod TagLays
pub mod TagPrints
pub mod TagStanding
pub mod TagStrings
