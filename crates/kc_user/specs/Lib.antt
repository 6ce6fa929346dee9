pub mod Laws
pub mod PartsOfConfigFile
pub mod Places
pub mod Sparse
pub mod UserView
pub mod ValueView
