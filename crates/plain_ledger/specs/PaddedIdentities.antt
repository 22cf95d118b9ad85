-- How a plain ledger has an identity as the key of a set or a map.
use Rattle.std.specs.Prelude.{◌≡◌, ℕ, ◌-◌, List, ◌++◌, length, take, replicate}
use Rattle.book_model.specs.Words.{identity2_length}

-- bytes, and zeros up to the length of an identity by the second rule
abbrev pub padded_identity : List ℕ → List ℕ
padded_identity bytes = bytes ++ replicate (identity2_length - length bytes) 0

-- how an identity is kept: 32 bytes, first the identity and then zeros
pub record IsPaddedIdentity (bytes : List ℕ) (len : ℕ) : Type 0 where
  pub lasts : length (take len bytes) ≡ len
  pub zeros : padded_identity (take len bytes) ≡ bytes
