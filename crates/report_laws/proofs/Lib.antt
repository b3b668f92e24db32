pub mod PlainTexts
pub mod ShareLaws
pub mod UnitReportLaws
pub mod ChoiceLaws
pub mod DefinedLaws
pub mod SeenOrigins
