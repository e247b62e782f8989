pub mod Heads
pub mod Scoping
pub mod Chains
pub mod Tables
