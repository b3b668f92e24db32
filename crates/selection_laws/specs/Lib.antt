pub mod Wider
pub mod Dumps
pub mod LastLines
