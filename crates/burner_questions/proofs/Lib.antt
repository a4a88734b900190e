-- Laws of the definitions of `specs/`, and of columns.
pub mod Columns
