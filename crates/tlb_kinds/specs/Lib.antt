pub mod Spots
pub mod Refusals
pub mod Kept
pub mod Answers
pub mod Laws
pub mod RefusalLaws
