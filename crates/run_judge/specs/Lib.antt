-- what is kept of a list, and what an event does to the list, where it is known whether the event is a candidate; the judgement's contracts cite it
pub mod Fate
-- an event that is offered to the lists which wait for a stage, and what its conditions tell of all of them
pub mod Offer
