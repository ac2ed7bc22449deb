-- what is asked of taken events, entry by entry; the contracts cite it
pub mod Asked
-- the taken events of a list that grows
pub mod Grown
