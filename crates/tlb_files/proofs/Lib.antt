mod Counting
mod Loaded
mod Moved
mod Piecewise
