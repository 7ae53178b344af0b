pub mod Named
pub mod Settings
pub mod Transactions
