pub mod OpenLaws
pub mod ChallengeLaws
pub mod PieceLaws
pub mod PowerLaws
