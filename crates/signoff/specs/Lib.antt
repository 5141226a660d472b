pub mod SignOff
