-- lists that wait, what a step makes of them, and which lists of the events they are; all contracts on runs cite it
pub mod Runs
