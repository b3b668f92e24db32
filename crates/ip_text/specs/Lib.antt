pub mod Formats
pub mod Digits
pub mod Ipv6Texts
pub mod AddressTexts
pub mod ZeroRuns
pub mod HexTexts
pub mod DecimalTable
pub mod Spellings
