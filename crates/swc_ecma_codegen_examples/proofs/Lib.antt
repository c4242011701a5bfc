mod Negations
mod Options
