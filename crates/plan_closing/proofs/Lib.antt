pub mod Counting
pub mod Building
