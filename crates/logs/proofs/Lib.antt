pub mod Parts
pub mod Sets
pub mod Lists
pub mod Watched
pub mod Walks
pub mod Exact
pub mod Cases
pub mod Verdicts
