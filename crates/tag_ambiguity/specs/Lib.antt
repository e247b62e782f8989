pub mod Inputs
pub mod Pairs
pub mod Judged
pub mod Separated
