-- What contracts cite, from a format's blocks to the runs that clear a surface.
pub mod Shapes
pub mod Cells
pub mod Copies
pub mod Numbered
pub mod Described
pub mod Tiles
pub mod Runs
pub mod Cleared
pub mod Walked
