pub mod Ends
pub mod Rowwise
pub mod Flipping
pub mod Going
pub mod Whenever
pub mod Agreed
