pub mod NothingAdded
