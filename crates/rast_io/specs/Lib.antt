pub mod Causes
pub mod Bytes
pub mod Held
pub mod SinkInMemory
pub mod FilesInMemory
