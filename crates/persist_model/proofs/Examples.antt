-- The definitions on literal words.
mod Events
mod Covered
mod Formats
