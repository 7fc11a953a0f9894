mod Walks
mod Picks
mod Steps
mod Edges
