mod Exchanging
mod Back
