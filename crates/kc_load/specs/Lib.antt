pub mod Asking
pub mod Folder
pub mod Loading
pub mod PartsOfFolder
pub mod PartsOfOutcome
pub mod Steps
