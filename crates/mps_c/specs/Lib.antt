pub mod Handle
pub mod Lending
pub mod Results
