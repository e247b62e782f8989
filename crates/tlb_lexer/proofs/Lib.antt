pub mod Classes
pub mod ListPrefix
pub mod LongestTokens
pub mod OneTokenization
pub mod StretchOf
pub mod Tokenization
