mod Runs
mod Steps
mod Build
mod Statuses
mod Tidy
mod Read
mod Prove
