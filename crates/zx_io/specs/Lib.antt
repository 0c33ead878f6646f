pub mod Adapters
pub mod Causes
pub mod Handing
pub mod Memory
