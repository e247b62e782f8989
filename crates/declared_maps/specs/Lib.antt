pub mod Lines
pub mod LineCores
pub mod LineTexts
pub mod Records
pub mod MapRecords
pub mod Laws
pub mod Examples
pub mod Acceptance
