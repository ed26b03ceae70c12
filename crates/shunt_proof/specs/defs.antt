-- The definitions of this crate.
pub mod Nodes
pub mod Trees
pub mod Versions
pub mod Numbers
pub mod Proves
pub mod Accepted
pub mod Certificates
pub mod CertificateFormat
pub mod CertificateRows
pub mod Recorders
pub mod ListRecorders
pub mod TextRecorders
