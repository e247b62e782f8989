pub mod Closing
pub mod Faults
pub mod Views
pub mod Laws
pub mod ClosingLaws
