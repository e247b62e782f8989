mod Drawing
mod Entries
mod Order
