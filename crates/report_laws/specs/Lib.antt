pub mod Parts
pub mod UnitReports
