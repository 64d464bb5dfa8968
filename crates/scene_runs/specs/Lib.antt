pub mod CardRuns
