pub mod Keys
pub mod Message
pub mod Schema
