mod Numbers
mod Fields
mod Marks
