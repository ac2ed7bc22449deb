-- the first element of a list that passes a test, where it is changed, removed or put before it; cited by the laws of edges and of
-- nodes, and by the calls on edges and members
pub mod ListLaws
-- slots of which one is changed; cited by all laws of nodes and events here, and by the laws of lists held in a buffer
pub mod SlotLaws
-- each event knows its nodes, through each change of a node or of an event; cited by SoundLaws, PutLaws and ReleaseLaws, and where an
-- event is added
pub mod IndexLaws
-- the rows of events, and what the calls leave of them; cited by FactLaws, ReleaseLaws, PutLaws and ConditionLaws, and where an event
-- is settled and a link is read
pub mod BufferLaws
-- edges of one node stay prefix-free through each change, and a version has one edge among them; cited by the laws of the graph and of
-- holds, and by the laws of lists held in a buffer
pub mod EdgeLaws
-- edges in the order of their labels, and where in it a version's edge stands; cited by the calls on edges
pub mod OrderLaws
-- a node's edge that was found, that is counted otherwise and that goes: what the laws of these changes ask for, in records; cited by
-- the laws of the graph and of holds, and where an edge has been read
pub mod ChangePremises
-- an edge that comes, and a put: what the laws of a put ask for, in records; cited by the laws of a put and by the put itself
pub mod PutPremises
-- how many edges stand on one, and that the graph stays counted where an edge is counted otherwise; cited by the laws of the graph
-- and of holds, and by the test whether there is a hold
pub mod GraphLaws
-- the same where an edge comes; cited by PutHoldLaws and PutLaws
pub mod GraphPutLaws
-- the same where an edge goes on which nothing stands; cited by ReleaseLaws and ExactLaws
pub mod GraphDropLaws
-- a buffer stays sound where an edge is counted higher or lower; cited by PutLaws, and where a hold comes, goes or a link is read
pub mod SoundLaws
-- each edge is on the chain of an edge that has a hold; cited by FactLaws and ExactLaws
pub mod ChainLaws
-- what is true of every buffer, from what its fields keep; cited by `facts`
pub mod FactLaws
-- a hold comes, and all else stays; cited by PutHoldLaws, HeldLaws and ExactLaws, where a hold is taken, and by the laws of lists
-- held in a buffer
pub mod HoldLaws
-- a put adds one edge with one hold, and leaves every other hold as it was; cited by PutLaws
pub mod PutHoldLaws
-- one step of a release: the buffer stays sound, its events stay that have a pin or a node, and the next edge has a hold; cited by
-- ExactLaws, by that step, and by the test whether there is a hold
pub mod ReleaseLaws
-- a release, step by step, up to its end; cited by the loop of the release
pub mod RunLaws
-- what a put leaves, from what the code has read; cited by the put
pub mod PutLaws
-- a release takes one hold, and exactly the edges stay that one with a hold needs; cited by the release
pub mod ExactLaws
-- the tests of what a put and a release ask for say so; cited by these tests
pub mod ConditionLaws
-- what has a hold after a put, a hold and a release; cited by these three calls
pub mod HeldLaws
