pub mod SearchTests
pub mod SearchPairs
pub mod SearchKinds
mod SearchLaws
mod SearchWalks
pub mod MoveRuns
pub mod MoveCounts
pub mod MoveEnds
pub mod MoveSteps
pub mod MovesMade
pub mod Scaling
