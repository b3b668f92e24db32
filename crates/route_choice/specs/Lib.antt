pub mod Positions
pub mod Masks
pub mod Pieces
pub mod Cursors
pub mod Communities
pub mod Choices
