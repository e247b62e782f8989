mod Checked
mod SameBuilds
mod SameInputs
mod SameProofs
mod SameViews
mod SlotFiles
mod Slots
mod Words
