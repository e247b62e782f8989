mod Bytes
mod Layouts
mod One
mod Sealing
