use Rattle.std.specs.Prelude.{ℕ, ◌+◌, Bool, cond, not, ◌||◌, List, take, drop, Option, ◌==◌, slice_get, slice_index}
use Rattle.std.specs.List.{prefix_len}

abbrev pub is_blank : ℕ → Bool
is_blank b = b == 32 || b == 9

-- whether a byte does not end the word before it
abbrev pub in_word : ℕ → Bool
in_word b = not (b == 32 || (b == 9 || b == 124))

-- the place from `at` on where a word begins, or the line's end
abbrev pub word_begin : List ℕ → ℕ → ℕ
word_begin l at = at + prefix_len is_blank (drop at l)

-- the place after the word that begins at a place; a bar is a word of its own
abbrev pub word_end : List ℕ → ℕ → ℕ
word_end l at = cond (slice_index l at == 124) (at + 1) (at + 1 + prefix_len in_word (drop (at + 1) l))

-- whether a byte is no mark
abbrev pub in_key : ℕ → Bool
in_key b = not (b == 61 || (b == 58 || b == 47))

-- a word before its first mark
abbrev pub key_of : List ℕ → List ℕ
key_of w = take (prefix_len in_key w) w

-- a word's first mark
abbrev pub mark_of : List ℕ → Option ℕ
mark_of w = slice_get w (prefix_len in_key w)

-- what follows the first mark
abbrev pub arg_of : List ℕ → List ℕ
arg_of w = drop (prefix_len in_key w + 1) w
