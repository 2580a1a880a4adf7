pub mod Polygons
pub mod Pairs
