pub mod MaskLaws
pub mod PieceLaws
pub mod CursorLaws
pub mod CommunityLaws
pub mod ChoiceLaws
