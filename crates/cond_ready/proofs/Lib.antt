-- what asks nothing of a list, and what is refuted by an event; cited by the answers of `alone` and `never`
pub mod AloneLaws
-- what asks no more than is answered is answered; cited by `holds_with`
pub mod AskedLaws
