-- Read in this order: what a request asks, as the code tells it; the histories that lead to a session's state; what an answer leads
-- to; what a step does, what a turn, and what a whole connection; what each round leaves it; and the laws.
pub mod Plans
pub mod Trails
pub mod Leads
pub mod Outcomes
pub mod Heads
pub mod Steps
pub mod Turns
pub mod Connections
pub mod Rounds
pub mod Laws
