pub mod Refusals
pub mod Rows
pub mod Results
pub mod Carrying
pub mod Stepping
pub mod Theorems
