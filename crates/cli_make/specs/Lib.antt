pub mod Lines
pub mod Make
pub mod View
