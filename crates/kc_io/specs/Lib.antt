pub mod Delivered
pub mod Delivery
pub mod Inputs
pub mod Log
pub mod PartsOfLog
