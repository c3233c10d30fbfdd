mod NoZones
mod Forming
mod Reporting
mod Ranges
