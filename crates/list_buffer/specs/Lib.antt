-- who holds which list, and how many holds there are; cited by all of this crate and by the runs
pub mod Held
-- which lists a buffer holds; cited by all of this crate and by the contracts of the runs
pub mod Listed
-- fronts of held lists, and the positions that stand in held lists; cited by ChainLaws and by the laws of sharing
pub mod Reach
-- the nonempty fronts of held lists, and where they end, each once; cited by SizeLaws and by the laws of sharing
pub mod Fronts
