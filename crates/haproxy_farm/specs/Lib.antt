pub mod Farms
