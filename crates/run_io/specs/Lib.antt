pub mod Headers
pub mod Readers
