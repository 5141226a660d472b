-- Definitions that only follow the code: the contracts of parts use them, and the proofs show that they come to what stands beside this folder.
pub mod Seats
