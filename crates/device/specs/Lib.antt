-- What contracts cite, from one command to the devices that take it.
pub mod Commands
pub mod Meaning
pub mod Journal
pub mod Rows
pub mod ByteMemory
pub mod Extents
pub mod Continuing
