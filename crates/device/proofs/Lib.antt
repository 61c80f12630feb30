-- Lemmas on cells, sums and extents, for this crate and for those above it.
pub mod Extents
pub mod Cells
pub mod Sums
pub mod Following
pub mod Slots
