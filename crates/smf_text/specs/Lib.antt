-- Read in this order: which days there are and how they are written, what a packed date is, what a
-- name is, what code page 037 has and how its bytes are shown, how a text becomes such bytes.
pub mod Day
pub mod PackedDate
pub mod Names
pub mod CodePage
pub mod Encoding
