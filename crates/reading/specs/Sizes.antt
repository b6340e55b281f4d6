-- The sizes that the rules fix. Each stands here, once in the code and once in the header for C, and nowhere else. Assumes nothing.
use Rattle.std.specs.Prelude.{ℕ}

-- the bytes of the longest input; a longer one is refused with code 1
abbrev pub longest_input : ℕ
longest_input = 16777216

-- the bytes of the longest opaque; a longer one is refused with code 5
abbrev pub longest_opaque : ℕ
longest_opaque = 104857600

-- the depth of the deepest record; a deeper one is refused with code 8
abbrev pub depth_limit : ℕ
depth_limit = 8

-- the words of a descriptor
abbrev pub descriptor_words : ℕ
descriptor_words = 7
