-- What the bursts keep, that one line through the station comes to the stages of `ncs_next`, what one look over the slots finds, the calls of the code one after the other, and the end of a round at which nothing is said.
pub mod Keeps
pub mod Stages
pub mod Looks
pub mod Calls
pub mod Calm
