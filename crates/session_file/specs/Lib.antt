pub mod Words
pub mod Header
pub mod Decode
pub mod Lines
pub mod Work
pub mod Session
pub mod Sample
pub mod Standing
