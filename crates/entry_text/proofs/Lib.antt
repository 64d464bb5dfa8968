pub mod DecimalSteps
pub mod HexSteps
pub mod EntryParts
pub mod PrintSteps
