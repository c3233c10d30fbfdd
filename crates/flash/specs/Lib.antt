pub mod Memory
pub mod Tables
pub mod Calls
pub mod Numbers
pub mod Maps
