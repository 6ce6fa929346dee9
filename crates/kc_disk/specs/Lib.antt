pub mod Limits
pub mod PartsOfProgram
pub mod Program
pub mod EachSteps
