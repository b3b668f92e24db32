pub mod Joinings
pub mod RouteLaws
pub mod PrefixLaws
pub mod RecordLaws
pub mod BodyLaws
pub mod UpdateLaws
pub mod DumpLaws
pub mod PartLaws
pub mod ReachLaws
mod Examples
