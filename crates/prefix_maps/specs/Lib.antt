pub mod Tries
pub mod Directions
pub mod Splits
