pub mod IsRound
pub mod Answered
pub mod RoundCases
