pub mod Stages
pub mod Files
pub mod Patterns
pub mod Answering
pub mod ChainLemmas
pub mod Formed
pub mod WellFormedLaws
