mod Refused
mod Answers
