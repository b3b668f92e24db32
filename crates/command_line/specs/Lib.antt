pub mod Addresses
pub mod Choices
pub mod Families
pub mod Words
pub mod Lists
pub mod FileLists
pub mod DumpRules
