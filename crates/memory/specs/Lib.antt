-- Guest memory as a list of bytes.
pub mod Bytes
