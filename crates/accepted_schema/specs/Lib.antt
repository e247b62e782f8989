pub mod Accepted
pub mod Refusals
pub mod FirstCause
pub mod Laws
pub mod NoneLaws
pub mod GuardLaws
pub mod SeparatedLaws
