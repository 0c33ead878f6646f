pub mod Forms
pub mod Internal
pub mod Taken
pub mod TokenLists
pub mod Tokens
pub mod Worked
