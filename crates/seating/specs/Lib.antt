pub mod SeatTables
pub mod SeatedRunning
pub mod SeatsRead
pub mod SeatedRound
