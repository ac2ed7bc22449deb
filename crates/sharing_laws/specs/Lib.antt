-- how many runs, events, nodes and edges there are after ticks, by the living lists alone; cited by the engine and by the gauge
pub mod Sizes
-- how many digits a version may have
pub mod Versions
-- what runs and a buffer are after ticks: the record that the engine's calls give
pub mod Sharing
