pub mod Views
pub mod Depths
pub mod Reach
pub mod Keys
