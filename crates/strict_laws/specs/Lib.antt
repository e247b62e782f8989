pub mod NoLonger
pub mod Laws
pub mod Examples
