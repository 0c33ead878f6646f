pub mod Inverse
pub mod Polynomials
pub mod BasisStates
pub mod WorkedPolynomials
pub mod Insertions
pub mod Internal
