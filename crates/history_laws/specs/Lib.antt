pub mod RecoveryLaws
pub mod PlannedLaws
pub mod MemoryLaws
pub mod DataLaws
