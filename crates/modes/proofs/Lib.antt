mod Arrays
mod Behind
mod Places
