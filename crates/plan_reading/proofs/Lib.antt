pub mod Binding
pub mod Checking
pub mod Fitting
pub mod Outputs
pub mod Rows
pub mod Walking
