pub mod Evacuations
