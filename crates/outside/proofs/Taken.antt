-- Bytes that are taken from a source.
use Rattle.std.proofs.Common.{◌≡◌, ℕ, ◌+◌, ◌≤◌, List, ◌++◌, Option, length, take, drop, sym, ap, ◌∙◌, arith, length-append, take-append-drop}
use Rattle.std.proofs.lemmas.List.{drop-drop}
use Rattle.std.proofs.KnownBytes.{Consumes-trans}
use Rattle.std.specs.Io.KnownBytes.{Consumes}
use Rattle.outside.specs.Outside.{TakesUpTo}

-- some bytes, and then so many at most
pub TakesUpTo-more : (old mid new : Option (List ℕ)) (first : List ℕ) (most all : ℕ) → Consumes old mid first → TakesUpTo most mid new → length first + most ≤ all
    → TakesUpTo all old new
TakesUpTo-more old mid new first most all taken more bound = record {
  bytes = first ++ more.bytes;
  gone = Consumes-trans old mid new first more.bytes taken more.gone;
  bound = omega (arith, length-append first more.bytes, more.bound);
}

-- what was left at a place is what was copied, and what is left behind it
pub left_splits : (bytes seen into : List ℕ) (at count : ℕ) → seen ≡ bytes → take count into ≡ take count (drop at seen)
    → drop at bytes ≡ take count into ++ drop (at + count) bytes
left_splits bytes seen into at count same copied =
    sym (take-append-drop count (drop at bytes)) ∙ ap (λ l. take count (drop at l) ++ drop count (drop at bytes)) (sym same)
    ∙ ap (λ l. l ++ drop count (drop at bytes)) (sym copied) ∙ ap (λ l. take count into ++ l) (drop-drop count at bytes)
