pub mod Admission
pub mod Following
pub mod Mapping
pub mod Pentagon
pub mod Rows
