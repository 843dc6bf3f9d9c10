mod Farms
mod Names
mod Sets
