-- Read in this order: the base of an upload's text, what a feed and the end of a text give, and what the code keeps.
pub mod Bases
pub mod Receiving
pub mod SeatTexts
