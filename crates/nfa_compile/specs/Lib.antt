pub mod State
pub mod Passing
pub mod Automaton
pub mod Explained
