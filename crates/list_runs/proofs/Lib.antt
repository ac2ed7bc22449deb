-- parts of lists, and one more element of each; cited by the loops over groups of runs
pub mod PartLaws
-- lists in another order have no element twice either; cited by RunLaws
pub mod PermutationLaws
-- runs when lists are no longer open, when only positions among the events are compared, and in another order; cited by what kills and moves runs
pub mod RunLaws
-- the runs before the first event
pub mod StartLaws
-- the runs after one more event: `StandsFor-stepped`
pub mod StepLaws
-- the full lists that end at an event are the matches of its tick
pub mod MatchLaws
-- the same of a sort of them: `matches_at-completed`
pub mod SortLaws
-- the lists of a due that runs wait with are `waiting_at`, and those that wait for the end are `closing_at`
pub mod LiveRunLaws
