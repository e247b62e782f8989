pub mod ByteBits
pub mod Completing
pub mod HexDigits
pub mod HexReading
pub mod NameLists
pub mod SignedNumbers
