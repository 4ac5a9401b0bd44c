mod Steps
mod Totals
