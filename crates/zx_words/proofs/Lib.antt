mod AloneAgrees
mod ClapAgrees
mod Flags
mod GenAgrees
mod Levels
mod OptAgrees
mod WordLemmas
