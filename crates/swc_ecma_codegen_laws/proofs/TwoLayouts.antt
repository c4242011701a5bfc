-- Two emissions side by side, by two layouts or over two source texts: in which tokens they differ.
pub mod AllWords
pub mod Arrows
pub mod Differing
pub mod Emissions
pub mod Leading
pub mod Lists
pub mod Literals
pub mod Names
pub mod Parentheses
pub mod Trees
pub mod Words
