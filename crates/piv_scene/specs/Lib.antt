pub mod Scripts
pub mod Documents
pub mod SceneLimits
pub mod SceneValues
pub mod Views
pub mod Outcomes
pub mod GeneratedScene
