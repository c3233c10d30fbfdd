pub mod Card
pub mod Striping
pub mod Verbs
pub mod Calls
pub mod Layout
pub mod Cases
pub mod Laws
