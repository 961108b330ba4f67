mod Asked
mod Broken
mod Lowest
mod Way
mod Words
