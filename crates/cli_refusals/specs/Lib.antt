pub mod Code
pub mod Lines
pub mod Refusal
pub mod View
pub mod Shown
