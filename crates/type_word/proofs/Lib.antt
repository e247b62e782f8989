mod Answering
mod Places
mod Scans
