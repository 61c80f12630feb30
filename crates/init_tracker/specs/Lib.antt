pub mod Books
pub mod Layers
