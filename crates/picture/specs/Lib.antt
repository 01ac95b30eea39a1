pub mod Canvas
pub mod Trees
pub mod Texts
pub mod Scenes
