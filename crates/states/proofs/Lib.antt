pub mod ShiftLaws
pub mod KeptLaws
pub mod BitLaws
pub mod RankLaws
pub mod AgreeLaws
pub mod PassLaws
pub mod TurnLaws
pub mod LaneLaws
