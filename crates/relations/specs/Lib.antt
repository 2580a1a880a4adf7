pub mod Pentagons
pub mod Rewritings
pub mod Refusals
pub mod Judging
pub mod Values
pub mod Theorems
