mod AllReturned
mod Seeing
