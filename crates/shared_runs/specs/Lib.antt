pub mod Reads
pub mod SameRuns
pub mod FileLabels
