pub mod Merging
pub mod Dumping
pub mod Leaving
