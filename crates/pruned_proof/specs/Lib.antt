pub mod Proved
pub mod View
pub mod Walks
pub mod Wanted
