pub mod HeadlineLaws
pub mod LanesTaken
pub mod ReportLaws
pub mod RoundsTaken
pub mod RunLaws
pub mod HistoryLaws
