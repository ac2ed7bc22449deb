pub mod LimitLaws
pub mod RangeLaws
