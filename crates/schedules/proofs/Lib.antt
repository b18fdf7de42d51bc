pub mod AllSchedules
