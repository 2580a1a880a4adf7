pub mod Counting
pub mod Searching
pub mod Cases
pub mod Order
pub mod Admitted
pub mod Laws
