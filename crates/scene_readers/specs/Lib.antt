pub mod SceneNames
