pub mod Seats
pub mod SeatOrder
