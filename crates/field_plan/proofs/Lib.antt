pub mod Planning
pub mod Declared
pub mod Apart
pub mod Fitting
pub mod Choice
pub mod Naming
pub mod Named
