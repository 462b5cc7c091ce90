pub mod TypeErrors
pub mod Fits
pub mod UntypedKinds
pub mod UpToTypes
pub mod ReaderBefore
