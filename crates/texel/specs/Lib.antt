pub mod Texel
