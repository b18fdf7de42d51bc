pub mod StepShapes
pub mod PlainLaws
pub mod DispatchRounds
pub mod RoundAnswers
pub mod RoundsShown
