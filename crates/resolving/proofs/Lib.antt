mod Homes
mod Laid
