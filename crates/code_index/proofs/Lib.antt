mod Indices
mod Words
mod Owned
mod Copying
mod Commits
