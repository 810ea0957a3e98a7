pub mod Texts
pub mod Values
pub mod Reports
pub mod Waiting
pub mod Printed
pub mod Amounts
pub mod Providers
