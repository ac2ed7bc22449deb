-- the stages and the last of taken events, and gaps event by event
pub mod ListLaws
-- the limits of taken events
pub mod LimitLaws
-- lists that grow entry by entry
pub mod GrownLaws
