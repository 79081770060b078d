mod Entries
mod Gaps
mod Parts
mod Residues
