pub mod Recorded
pub mod Spots
pub mod Opened
pub mod Sights
pub mod Stripped
pub mod Told
