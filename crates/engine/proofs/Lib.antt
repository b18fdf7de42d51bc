pub mod SameContents
pub mod Unread
pub mod Columns
pub mod LongInputs
pub mod NothingPlanned
pub mod Promises
-- what the functions over a lent list of records compute
pub mod StartLaws
