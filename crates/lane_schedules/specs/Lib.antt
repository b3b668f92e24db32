pub mod Dealings
pub mod Schedules
pub mod OneLanes
pub mod ShownLanes
pub mod TakenTables
pub mod RoundSequences
