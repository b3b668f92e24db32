pub mod Headline
pub mod Premises
pub mod Replays
pub mod Reports
