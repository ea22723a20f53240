pub mod Filling
pub mod Tops
