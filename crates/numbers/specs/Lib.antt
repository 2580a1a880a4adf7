pub mod Numbers
pub mod Layouts
pub mod Faults
pub mod Ptolemy
pub mod Reading
pub mod Texts
