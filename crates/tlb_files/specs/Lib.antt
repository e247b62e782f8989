pub mod Contents
pub mod Counts
pub mod Loading
pub mod Loads
pub mod Pieces
pub mod View
