pub mod Texts
pub mod Fields
pub mod Cells
pub mod Plain
pub mod KeptTexts
pub mod RouteLines
pub mod LineParts
pub mod JsonValues
