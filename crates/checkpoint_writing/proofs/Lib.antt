pub mod StepLaws
pub mod HeadLaws
pub mod MergeLaws
pub mod DumpLaws
pub mod PrefixesLaws
pub mod LeavingLaws
pub mod UnitsLaws
