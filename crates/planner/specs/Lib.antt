pub mod Listed
pub mod View
pub mod Made
