-- Names, keys and private names: what is written of each, and what it reads as.
pub mod Alone
pub mod KeyPrints
pub mod KeySteps
pub mod KeyTexts
pub mod PrivatePrints
pub mod PrivateSteps
pub mod ShortNames
pub mod Spelled
pub mod Targets
