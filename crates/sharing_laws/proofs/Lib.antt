-- members of lists, fronts, and each element once; cited by LivingLaws and FrontLaws
pub mod MemberLaws
-- how long labels are; cited by SharingLaws
pub mod VersionLaws
-- the lists of runs are the living lists; cited by FrontLaws and SharingLaws
pub mod LivingLaws
-- the stand is the fronts of the runs' lists, and the reach their positions; cited by SharingLaws
pub mod FrontLaws
-- what a set of runs and a buffer are after ticks; cited by the engine for each of its calls
pub mod SharingLaws
-- sizes tick after tick, and the greatest of them; cited by what shows the engine to a gauge and by what prints the greatest
pub mod SizesLaws
