pub mod Carrying
pub mod Worked
