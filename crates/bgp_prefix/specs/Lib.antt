pub mod Prefixes
pub mod Keys
pub mod Maps
pub mod Ordered
pub mod Searches
pub mod Words
