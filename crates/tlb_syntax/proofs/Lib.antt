pub mod Numbers
pub mod TagBits
pub mod Texts
pub mod Limited
pub mod OfText
