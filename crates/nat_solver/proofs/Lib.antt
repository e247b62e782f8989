pub mod Equations
pub mod Following
pub mod Patterns
pub mod Solving
pub mod Sums
pub mod Unknowns
pub mod Values
