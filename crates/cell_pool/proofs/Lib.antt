pub mod Chains
pub mod Kept
pub mod Sought
pub mod Interned
pub mod Visits
