-- One thing told after another, and where telling stops. Cited by all other files.
pub mod TellLaws
-- The kept items of ticks, one tick after another. Cited by the steps of `ticks` and by the crates above.
pub mod TickLaws
-- The sizes that a gauge is shown. Cited by the steps of `ticks`, by `Pipeline` and by the crates above.
pub mod ShownLaws
-- What the engine can take stays so. Cited by the steps of `ticks` and by `Pipeline`.
pub mod RunningLaws
-- Items are short. Cited by the steps that take a tick.
pub mod ShortLaws
-- Events wait with rows that came before. Cited by `Pipeline::take`.
pub mod RowLaws
-- One mark, one record and the end. Cited by the steps of `ticks` and by `Pipeline`.
pub mod RecordLaws
