mod AppliedSteps
mod DemandMoves
mod InPlace
mod RoomKept
mod RoomLemmas
mod SetChanges
mod StageLemmas
mod StepsNeeded
