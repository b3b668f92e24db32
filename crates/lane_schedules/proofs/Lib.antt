pub mod ScheduleLaws
pub mod RoundCounts
pub mod ScheduleRuns
pub mod ClassLists
pub mod TakenTables
mod Examples
