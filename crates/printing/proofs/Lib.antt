-- What the proofs of this crate share.
mod Filled
mod Digits
