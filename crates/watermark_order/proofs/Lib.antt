pub mod TimeLaws
pub mod HeldLaws
pub mod MarkLaws
pub mod OrderLaws
pub mod RecordLaws
pub mod TickLaws
