pub mod FilesTaken
pub mod Tellings
