pub mod Surfaces
pub mod Torus
pub mod WorkedWalks
pub mod Rings
