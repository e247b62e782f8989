pub mod Buildable
pub mod Examples
pub mod Growing
pub mod Laid
pub mod MapTests
pub mod PlainBuilder
pub mod Planting
pub mod Unfit
