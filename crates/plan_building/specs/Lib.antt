pub mod View
pub mod StopsLaws
pub mod Begun
pub mod Numbers
pub mod FieldNames
pub mod Sides
