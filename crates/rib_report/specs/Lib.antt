pub mod Plain
pub mod Merges
pub mod Rows
pub mod Reports
pub mod Lines
pub mod HistoryLines
pub mod Listings
pub mod LineBlocks
