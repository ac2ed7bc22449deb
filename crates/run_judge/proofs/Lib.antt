-- what is kept of a list tells the same as the list; cited by `judged_where`
pub mod KeptLaws
-- which conditions made ready are the plan's; cited by the answers of `offer`
pub mod OfferLaws
-- events of which no list is changed that they are no candidate of; cited by `lets_others_be`
pub mod UntouchedLaws
