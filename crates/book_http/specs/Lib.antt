-- Read in this order: what the head of a request is, what it says, and what it asks; then what an
-- answer is, which one a request has, and what becomes of it.
pub mod Head
pub mod Numbers
pub mod Framing
pub mod Methods
pub mod Hosts
pub mod Requests
pub mod Paths
pub mod Routes
pub mod Bodies
pub mod Asked
pub mod Reads
pub mod Statuses
pub mod AnswerHead
pub mod Replies
pub mod Answer
pub mod Requested
pub mod Served
pub mod Laws
