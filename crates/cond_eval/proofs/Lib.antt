pub mod AggregateLaws
pub mod PartLaws
pub mod QuestionLaws
pub mod ChainLaws
