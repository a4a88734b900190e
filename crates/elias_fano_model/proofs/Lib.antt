pub mod Asking
pub mod Book
pub mod Claims
pub mod Memory
pub mod Others
pub mod Resuming
pub mod Running
pub mod Shown
