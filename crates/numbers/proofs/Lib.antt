pub mod Answered
pub mod Flipped
pub mod Rows
