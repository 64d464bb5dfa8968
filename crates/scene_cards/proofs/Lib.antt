pub mod ItemLaws
pub mod ObjectLaws
mod ObjectStops
mod LossStops
mod LimitLaws
pub mod Within
mod MadeSteps
pub mod ReadSound
pub mod PartsSound
mod StartSound
pub mod CardSound
pub mod NamesSound
