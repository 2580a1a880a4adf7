pub mod Triangulations
pub mod Steps
pub mod Stored
pub mod Meaning
pub mod Records
pub mod Boards
pub mod Theorems
