pub mod TextAnswers
pub mod Internal
pub mod PieceReadings
