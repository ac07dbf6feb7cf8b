mod Written
mod Alike
