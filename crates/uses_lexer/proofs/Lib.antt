mod Counted
mod Counting
mod Lines
mod Tokens
mod Words
