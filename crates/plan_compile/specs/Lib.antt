pub mod Views
pub mod Terms
pub mod Applied
pub mod Results
pub mod Compiled
