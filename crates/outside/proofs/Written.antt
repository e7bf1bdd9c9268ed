-- A text that is written in pieces.
use Rattle.std.proofs.Common.{◌≡◌, ℕ, ◌-◌, ◌<◌, ◌≤◌, List, ◌++◌, Option, Result, Ok, Err, OnErr, length, take, drop, sym, ap, ◌∙◌, subst, arith, append_assoc, length-append, length-drop, take-append-drop}
use Rattle.std.proofs.KnownBytes.{Appends-trans, Appends-kept}
use Rattle.std.specs.Io.KnownBytes.{Appends, Keeps}
use Rattle.outside.specs.Outside.{GetsPrefix}
use Rattle.std.proofs.lemmas.List.{take_rest}
use lib.Seq.{take-append_seam}

-- the text is what was got and a rest
pub record Written (old new : Option (List ℕ)) (text rest : List ℕ) : Type 0 where
  pub done : List ℕ
  pub split : text ≡ done ++ rest
  pub grown : Appends old new done

-- a piece goes from the front of the rest
pub Written-more : (old mid new : Option (List ℕ)) (text rest : List ℕ) (count : ℕ) → Written old mid text rest → Appends mid new (take count rest)
    → Written old new text (drop count rest)
Written-more old mid new text rest count w piece = record {
  done = w.done ++ take count rest;
  split = w.split ∙ ap (λ l. w.done ++ l) (sym (take-append-drop count rest)) ∙ sym (append_assoc w.done (take count rest) (drop count rest));
  grown = Appends-trans old mid new w.done (take count rest) w.grown piece;
}

-- where a rest stays, a prefix was got
pub Written-prefix : (old mid new : Option (List ℕ)) (text rest : List ℕ) → 0 < length rest → Keeps mid new → Written old mid text rest → GetsPrefix old new text
Written-prefix old mid new text rest some kept w = record {
  count = length w.done;
  grown = subst (Appends old new) (sym (ap (take (length w.done)) w.split ∙ take-append_seam w.done rest)) (Appends-kept old mid new w.done w.grown kept);
  short = omega (arith, ap length w.split, length-append w.done rest);
}

-- after a piece there is less than the whole text
pub Written-less : (old mid : Option (List ℕ)) (text rest : List ℕ) (count : ℕ) → Written old mid text rest → 0 < count → count ≤ length rest
    → length (take (length rest - count) (drop count rest)) ≡ length text → ⊥
Written-less old mid text rest count w some within same =
    omega (arith, ap length w.split, length-append w.done rest, same, ap length (take_rest rest count), length-drop count rest)

-- a fact holds where there is an error, too
pub OnErr-of : {T E : Type 0} (result : Result T E) (P : Type 0) → P → OnErr result P
OnErr-of (Ok value) P holds = tt
OnErr-of (Err fault) P holds = holds
