mod Tables
mod Seats
mod Histories
mod Accounts
mod Calling
mod Looking
mod Taking
mod Finishing
mod Dividing
mod Joining
mod Opening
mod Ending
mod Resting
pub mod Sending
