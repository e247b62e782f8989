pub mod Tags
pub mod Leads
pub mod FirstFields
pub mod Separation
pub mod Laws
pub mod PatternLaws
