-- The words come to one pair of options and name. Cited by `cep`.
pub mod WordLaws
-- The front of a pattern file that fits the room is read as the whole file is; bytes come to one text of a form. Cited by `pattern` and `program`.
pub mod PatternLaws
-- Pattern files that come to nothing. Cited by `program`.
pub mod StopLaws
-- Checked plans are compiled. Cited by `pipeline_for` and `table_of`.
pub mod TableLaws
-- The events of lines have the lines' rows. Cited by `EngineRun::line` and `count_line`.
pub mod RowLaws
-- A run before its first line, and one line more. Cited by `EngineRun`.
pub mod BegunLaws
-- The rows of what is told were written. Cited by `cause` and `owe`.
pub mod WrittenLaws
-- A summary is UTF-8. Cited by `summary_text`.
pub mod SummaryLaws
-- What a load run has counted. Cited by `load`.
pub mod LoadLaws
-- Who never fails is never blamed. Cited by `cep_in_memory`.
pub mod SureLaws
