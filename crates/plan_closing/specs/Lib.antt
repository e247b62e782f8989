pub mod Counted
pub mod Gives
