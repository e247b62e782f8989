mod Words
mod Declarations
mod Exposed
mod Chains
mod Rounds
mod Separated
