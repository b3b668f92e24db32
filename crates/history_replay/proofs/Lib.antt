pub mod FilesTaken
pub mod CountedRoutes
