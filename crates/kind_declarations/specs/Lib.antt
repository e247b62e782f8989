pub mod Headings
pub mod Nodes
pub mod Faults
pub mod Parts
pub mod Views
pub mod HeadingViews
pub mod EndingViews
