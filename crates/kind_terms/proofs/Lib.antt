pub mod ParamKinds
pub mod PlainNumbers
pub mod TypeIndexes
pub mod Capped
pub mod PartSums
