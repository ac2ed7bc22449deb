pub mod LabelLaws
pub mod PathLaws
pub mod WaitLaws
