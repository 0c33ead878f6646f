mod HeldGates
mod Running
mod Written
mod Scaling
mod Results
mod Held
