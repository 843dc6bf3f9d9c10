mod Copies
mod Standing
mod Receiving
