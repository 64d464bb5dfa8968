pub mod DueLaws
pub mod EachLaws
pub mod PowerLaws
pub mod PlanLaws
