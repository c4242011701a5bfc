pub mod SourceTexts
