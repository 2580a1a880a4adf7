pub mod Field
pub mod Flips
pub mod Consequences
pub mod Models
pub mod ModelsLemmas
