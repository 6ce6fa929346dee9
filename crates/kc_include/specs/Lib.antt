pub mod Included
pub mod NameView
pub mod PartView
pub mod Limits
pub mod RestView
