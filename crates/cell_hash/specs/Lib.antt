pub mod Representation
