pub mod Pages
pub mod Uses
pub mod Recording
pub mod Submitting
pub mod Calls
pub mod Ledger
pub mod Laws
