pub mod Records
pub mod Faults
