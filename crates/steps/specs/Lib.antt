pub mod Threads
pub mod Choice
pub mod Records
pub mod Beside
pub mod Kept
pub mod Acted
