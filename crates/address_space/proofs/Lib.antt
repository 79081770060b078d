mod FreePages
mod Scan
