pub mod Insertions
pub mod Lending
pub mod Orders
pub mod Rows
pub mod TableLaws
pub mod Tables
pub mod KeyOrders
