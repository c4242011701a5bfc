pub mod Causes
pub mod MendedTexts
pub mod Negation
pub mod Products
