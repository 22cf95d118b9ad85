-- How a text comes into a page, what markup is, and that none comes of it.
pub mod Escaping
