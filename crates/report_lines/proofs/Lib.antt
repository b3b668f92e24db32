pub mod TextLaws
pub mod JoinLaws
pub mod RowLines
pub mod KeptColumns
pub mod JsonLaws
pub mod ValueLaws
