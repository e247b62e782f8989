pub mod BeginningLaws
