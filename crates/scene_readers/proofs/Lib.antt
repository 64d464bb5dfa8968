mod Found
mod NextCard
