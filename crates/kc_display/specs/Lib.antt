pub mod Difference
pub mod Hints
pub mod Pages
pub mod Places
pub mod Steps
