mod Counts
mod Numerals
mod Splits
