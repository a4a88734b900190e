pub mod Inner
pub mod Vector
