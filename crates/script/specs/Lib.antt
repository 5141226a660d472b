pub mod Actions
pub mod Numbers
pub mod Settings
