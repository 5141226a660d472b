pub mod Outbox
pub mod Marks
pub mod Bursts
pub mod Senders
