mod Rows
mod Floors
