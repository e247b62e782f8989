pub mod Answer
pub mod Builder
pub mod Canonical
pub mod Follows
