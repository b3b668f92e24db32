pub mod HeadLaws
pub mod EndingLaws
pub mod PieceLaws
