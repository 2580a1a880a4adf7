pub mod Rearranged
pub mod Normal
pub mod Quotients
pub mod Ptolemy
