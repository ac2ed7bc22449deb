-- sizes and labels after the first ticks, and what unfolds when they are computed
pub mod Sizes
-- the plan of three events in direct succession, and its input
pub mod Triple
