pub mod Ascend
pub mod Even
pub mod Parity
pub mod Places
pub mod Starts
