pub mod Adding
pub mod Begin
pub mod KeySteps
pub mod LabelsRead
pub mod Neighbors
pub mod Parts
pub mod Planted
pub mod Writes
