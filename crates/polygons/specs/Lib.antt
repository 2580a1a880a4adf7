pub mod Judging
pub mod Meaning
pub mod WorkedWalks
pub mod Shape
pub mod Admission
