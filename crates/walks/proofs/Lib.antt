pub mod Alike
pub mod Cuts
pub mod Places
pub mod Moves
