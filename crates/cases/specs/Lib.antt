-- Document 01's figures for the bench book, and the longest files.
pub mod BenchFigures
pub mod LongestFiles
