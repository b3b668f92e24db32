pub mod Dumped
pub mod Resuming
pub mod Checkpoints
pub mod Fitting
pub mod Cutting
