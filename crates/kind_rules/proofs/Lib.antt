pub mod NamesInside
pub mod SumForms
pub mod Totals
