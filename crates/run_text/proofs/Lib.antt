mod Pieces
mod Counting
