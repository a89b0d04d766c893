pub mod Memtables
