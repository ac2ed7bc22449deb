-- what a set of runs is seen as; cited by the models of `RunSet` and `Group`
pub mod Content
-- what a run, runs and a buffer stand for (`Stands`); cited by all public calls
pub mod Runs
-- what a run becomes that takes an event; cited by `take_of` and what puts takes
pub mod Taking
-- which waiters take the next event, and which go on
pub mod Passing
-- the buffer in the midst of a step: puts and ends
pub mod Putting
-- what is left as it was of the events with pins; cited by all that changes the buffer
pub mod Pins
-- what a step asks and leaves; cited by `step`
pub mod Stepping
-- the runs of lists that took an event; cited by `begin_runs` and what it calls
pub mod Beginning
-- what a pass makes of runs and groups; cited by `passed` and what it calls
pub mod Noting
-- what `waiting` shows, and tips in order
pub mod Showing
