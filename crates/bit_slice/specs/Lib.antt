pub mod BitLengths
pub mod BitLists
pub mod Bits
pub mod Completion
pub mod HexLists
pub mod HexTexts
pub mod Names
pub mod SignedLists
