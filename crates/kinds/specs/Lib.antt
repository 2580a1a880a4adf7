pub mod Weights
pub mod Divisors
pub mod Fractions
pub mod Lowered
pub mod Common
pub mod Weighed
