mod CellSteps
mod Orders
mod Lists
mod PathWalks
mod PathStands
mod PathUnique
