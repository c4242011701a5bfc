mod Digits
mod Encoding
mod Fields
mod Goes
mod Parts
