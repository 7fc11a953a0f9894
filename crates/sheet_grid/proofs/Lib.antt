mod BookLemmas
mod Indexes
mod Canonicals
mod LineLemmas
mod LineStyles
mod Moving
mod Rectangles
