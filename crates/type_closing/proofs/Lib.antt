mod Arguments
mod Numbers
mod Turns
