pub mod Choosing
pub mod ChoosingLaws
pub mod Names
pub mod Placed
pub mod Planned
