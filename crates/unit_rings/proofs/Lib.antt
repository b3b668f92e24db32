pub mod Lists
pub mod ListedLaws
pub mod UnitLists
pub mod MovedLists
pub mod Batches
