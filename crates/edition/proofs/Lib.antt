mod Swapping
mod Filling
mod Selecting
