mod Parts
mod Trees
mod Judged
mod Summed
