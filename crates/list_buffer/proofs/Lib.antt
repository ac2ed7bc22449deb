-- equality of lists of entries is decided, and how holds are counted; cited by HoldLaws, PutLaws and the runs
pub mod HeldLaws
-- where nodes stay what they are each edge stays that of its list, and a node and a label have one list; cited by HoldLaws
pub mod MoveLaws
-- what a hold, a put and a release make of a buffer that holds lists; cited by each call of the runs that changes the buffer
pub mod HoldLaws
-- the number of a list's state tells its last stage, and lists rise; cited by PutLaws
pub mod StateLaws
-- the conditions of the buffer's calls, met by what it holds; cited by the runs before each call
pub mod PutLaws
-- the fronts of held lists are the lists of the edges, and their positions those of the events; cited by the laws of sharing
pub mod ChainLaws
-- more events, a new event and a settled one change nothing of what is held; cited by the engine between two steps
pub mod LaterLaws
-- lists whose elements belong together one to one are of one length; cited by SizeLaws, by the laws of sharing, and by the runs,
-- since a list waits for few stages
pub mod CountLaws
-- the keys and the edges of slots, listed one by one; cited by SizeLaws
pub mod SlotCountLaws
-- one edge for a list and one list for an edge, how often each edge is counted, and how many edges, nodes and events there are; cited by the laws of sharing
pub mod SizeLaws
-- the path of the node and the label of a list is the list; cited where lists are extracted
pub mod TraceLaws
