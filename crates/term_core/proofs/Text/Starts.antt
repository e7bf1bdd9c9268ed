-- Texts that begin with others.
use Rattle.std.proofs.Common.{◌≡◌, ◌≤◌, ℕ, List, ◌++◌, length, take, sym, ap, ◌∙◌, arith}
use Rattle.std.specs.Io.{StartsWith}
use Rattle.std.proofs.Math.Seq.{take-append_seam, take-length}
use Rattle.std.proofs.lemmas.List.{length-take, take-take}

-- a text begins with itself
pub starts_own : (a t b : List ℕ) → b ≡ a ++ t → StartsWith b a
starts_own a t b e = rw e (take-append_seam a t)

-- what is as it was begins with what it was
pub starts_same : (a b : List ℕ) → b ≡ a → StartsWith b a
starts_same a b e = rw e (take-length a)

-- what begins with a text that begins with another
pub starts_more : (a b c : List ℕ) → StartsWith b a → StartsWith c b → StartsWith c a
starts_more a b c p q =
    let n : length a ≤ length b = omega (arith, ap length p, length-take (length a) b) in
    sym (take-take (length a) (length b) c n) ∙ ap (take (length a)) q ∙ p
