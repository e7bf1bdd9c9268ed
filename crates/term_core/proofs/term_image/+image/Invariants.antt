-- The words so far, and the images of the terms that are left, are those of the whole row.
use Rattle.std.proofs.Common.{◌≡◌, ◌++◌, map, drop}
use Rattle.term_core.specs.Image.{row_image, RowHasTermIntegers}
use Rattle.term_core.specs.Plain.{plain}
use Rattle.term_core.specs.PlainTerm.{row_of}
use Rattle.term_core.proofs.term_image.+image.Given as goal

-- and each integer that is left is a term's
abbrev pub invariant-push_images-loop-term : goal.invariant-push_images-loop-term
invariant-push_images-loop-term l = record {
  whole : l.words ++ row_image (row_of (map plain (drop l.term-index l.term-items))) ≡ l.fn.words ++ row_image (row_of l.terms);
  fits : RowHasTermIntegers (row_of (map plain (drop l.term-index l.term-items)));
}
