pub mod Next
pub mod Code
