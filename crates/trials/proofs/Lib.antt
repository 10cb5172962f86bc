mod Drafting
mod OneByte
