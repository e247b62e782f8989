pub mod Bytes
pub mod Spelling
pub mod Tokenization
pub mod Answer
pub mod Stretch
