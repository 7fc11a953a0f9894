mod Fits
mod Joins
mod Numbers
