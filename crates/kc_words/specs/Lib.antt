pub mod CommandLine
pub mod PartsOfCommandLine
pub mod Refusals
pub mod Inputs
pub mod Clashes
