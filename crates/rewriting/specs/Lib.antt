pub mod Replays
pub mod Rewritten
pub mod Sites
