pub mod UnnamedNames
pub mod Firsts
pub mod Counting
pub mod Loops
pub mod Passing
pub mod Keeping
