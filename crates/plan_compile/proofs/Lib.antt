pub mod UnnamedNames
pub mod Answered
pub mod Terms
pub mod Arguments
pub mod Records
pub mod Outputs
pub mod Plans
