pub mod Triangles
pub mod Lines
