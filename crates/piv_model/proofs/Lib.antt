pub mod WrittenLaws
pub mod CipherBytes
pub mod FieldLinear
pub mod FieldTests
pub mod PlainLaws
pub mod Soundness
