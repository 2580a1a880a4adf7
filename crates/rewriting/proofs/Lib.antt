pub mod Replaying
pub mod Edits
pub mod Corners
pub mod Passing
pub mod Answering
