pub mod Labels
pub mod Laws
pub mod LengthLaws
pub mod Reading
pub mod ReadingLaws
pub mod SpellingLaws
pub mod Steps
pub mod Views
