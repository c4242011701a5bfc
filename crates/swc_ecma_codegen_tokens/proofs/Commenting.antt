-- Comments and hashbangs: what is taken, what is written, and what it reads as.
pub mod CommentLays
pub mod CommentPrints
pub mod CommentStarts
pub mod CommentSteps
pub mod HashbangPrints
pub mod NoComments
pub mod NoneTaken
