pub mod Parts
pub mod Sums
pub mod Bytes
pub mod Known
pub mod Steps
pub mod Lengths
