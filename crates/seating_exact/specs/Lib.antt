pub mod SeatTable
pub mod IsSeatedRound
pub mod SeatsTold
pub mod SeatCases
