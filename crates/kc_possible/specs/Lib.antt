pub mod Bounds
pub mod Possible
pub mod PartsOfPossible
pub mod Sides
pub mod Ranges
