pub mod Diagonals
pub mod Polygons
pub mod Theorem
