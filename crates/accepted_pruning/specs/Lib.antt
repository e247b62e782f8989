pub mod ApartLaws
pub mod Laws
