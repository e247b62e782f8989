pub mod Machine
pub mod Judge
pub mod Step
pub mod Judged
pub mod Verdict
