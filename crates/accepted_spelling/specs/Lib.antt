pub mod Laws
pub mod PlainLaws
pub mod RangeLaws
pub mod AcceptableLaws
