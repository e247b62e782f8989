mod Masks
mod Bytes
mod Digits
mod Lines
