pub mod QuoteLaws
pub mod RowLaws
pub mod StageLaws
