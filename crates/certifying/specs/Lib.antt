pub mod Known
pub mod Certificate
pub mod Kept
pub mod Parts
