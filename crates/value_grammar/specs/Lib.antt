pub mod Shapes
pub mod Grammar
pub mod Open
pub mod Within
pub mod Refused
pub mod Steps
pub mod Reading
pub mod ReadingLaws
