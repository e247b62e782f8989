mod Places
mod Firsts
mod Sets
mod Listing
mod Entries
mod Following
