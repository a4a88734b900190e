-- Definitions that the contracts of `burner` cite.
pub mod Usage
