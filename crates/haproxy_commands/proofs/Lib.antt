mod Symbols
mod Words
mod Commands
mod Named
mod Pushes
mod Carried
mod Plain
