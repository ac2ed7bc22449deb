pub mod OneAnswer
pub mod OnePlan
pub mod UsableLaws
