pub mod Laws
pub mod Number
pub mod Pattern
pub mod Plain
pub mod SolutionLaws
pub mod ValueLaws
pub mod View
