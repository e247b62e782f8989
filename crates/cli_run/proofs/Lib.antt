mod Answered
mod Outcome
mod Ran
