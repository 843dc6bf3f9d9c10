mod Columns
mod Escapes
mod Lines
mod Words
