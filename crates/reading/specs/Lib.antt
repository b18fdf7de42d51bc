pub mod Reading
pub mod Long
