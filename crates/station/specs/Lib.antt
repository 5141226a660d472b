pub mod Entries
pub mod Refusals
pub mod Shows
pub mod SignOff
pub mod Worst
