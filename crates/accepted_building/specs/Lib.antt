pub mod NamedApart
pub mod NamesLaws
pub mod TagLaws
pub mod Laws
pub mod BuildableLaws
