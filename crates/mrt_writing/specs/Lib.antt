pub mod Kinds
pub mod RouteAttributes
pub mod Prefixes
pub mod RibRecords
pub mod Heads
pub mod Records
pub mod Updates
pub mod Dumps
