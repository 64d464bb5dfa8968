pub mod SlotLaws
pub mod WholeLaws
pub mod HeldLaws
pub mod Counting
pub mod ExchangeLaws
pub mod DueLaws
pub mod CardLaws
pub mod TurnLaws
