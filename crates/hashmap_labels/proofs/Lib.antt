pub mod Answered
pub mod BitScans
