pub mod CheckAt
