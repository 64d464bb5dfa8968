mod Stops
mod RawLoop
mod LimitLoops
mod SizeLaws
mod LinesSound
mod SceneSound
mod GeneratedLaws
