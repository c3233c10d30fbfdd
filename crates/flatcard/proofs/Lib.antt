pub mod CasesHold
mod LawsHold
mod Dealing
mod Laying
pub mod Counting
pub mod NewCard
