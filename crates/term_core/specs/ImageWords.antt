-- How the code finds an image: first the number of its words, going forward, and then its term, going back.
-- A law says that it finds one exactly where a term has its image.
use Rattle.std.specs.Prelude.{ℕ, zero, suc, ◌+◌, ◌/◌, ◌%◌, ◌==◌, nat_lt, nat_le, Bool, false, if◌then◌else◌, Option, Some, None, option_map, List, [], ◌∷◌}
use Rattle.term_core.specs.Image.{parts_of_word}

-- whether a word may stand in the image of a term of at most 64 words: an integer of 60 bits, an atom's number of 32, or a count of at most 64 terms
abbrev pub is_image_word : ℕ → Bool
is_image_word word =
    if word % 16 == 1 then nat_lt (word / 16) 1152921504606846976
    else if word % 16 == 2 then nat_lt (word / 16) 4294967296
    else if word % 16 == 3 then nat_le (word / 16) 64
    else if word % 16 == 4 then nat_le (word / 16) 64
    else false

-- how many words the images of so many terms have at the front of words; none where the words end before, or a word is in no image
abbrev pub found_len : ℕ → List ℕ → Option ℕ
found_len zero words = Some 0
found_len (suc n) [] = None
found_len (suc n) (word ∷ words) = if is_image_word word then option_map suc (found_len (n + parts_of_word word) words) else None
