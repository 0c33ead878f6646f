pub mod Sixteenths
pub mod Errors
pub mod Internal
pub mod Literals
pub mod Ratio
pub mod Trees
pub mod Values
pub mod Worked
