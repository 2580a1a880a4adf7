-- Slices of bytes, from which a run of numbers is read: a slice from n on, as the code takes it, is the rest of the bytes.
pub use Rattle.std.proofs.lemmas.List.{take_rest as rest_is}
