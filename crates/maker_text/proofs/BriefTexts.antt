-- Texts of a few bytes without a line feed.
use Rattle.std.proofs.Common.{◌≡◌, ℕ, suc, ◌+◌, ◌≤◌, ◌<◌, ◌==◌, ◌&&◌, nat_le, true, false, List, ◌∷◌, ◌++◌, length, length-append, arith, lit<, refl}
use Rattle.std.proofs.lemmas.Bool.{and_parts}
use Rattle.std.proofs.lemmas.Bool.Decides.{nat_tests}
use Rattle.std.proofs.lemmas.Fmt.{length-decimal-le}
use Rattle.std.specs.Fmt.{decimal}
use Rattle.term_core.proofs.Text.Cuts.{lacks, lacks-append, lacks-cons, number_lacks}
use Rattle.term_core.proofs.Text.Numbers.{decimal-writes}

-- a text of at most so many bytes, of which none is a line feed
pub record IsBrief (text : List ℕ) (most : ℕ) : Type 0 where
  pub short : length text ≤ most
  pub lacks_feed : lacks 10 text ≡ true

-- one behind the other
pub brief_both : (a b : List ℕ) (m n : ℕ) → IsBrief a m → IsBrief b n → IsBrief (a ++ b) (m + n)
brief_both a b m n p q = record { short = omega (arith, length-append a b, p.short, q.short); lacks_feed = lacks-append 10 a b p.lacks_feed q.lacks_feed }

-- behind a byte that is no line feed
pub brief_behind : (c : ℕ) (a : List ℕ) (m : ℕ) → (c == 10) ≡ false → IsBrief a m → IsBrief (c ∷ a) (suc m)
brief_behind c a m other p = record { short = omega (arith, p.short); lacks_feed = lacks-cons 10 c a other p.lacks_feed }

-- what is at most so long is at most longer
pub brief_wider : (a : List ℕ) (m n : ℕ) → m ≤ n → IsBrief a m → IsBrief a n
brief_wider a m n wider p = record { short = omega (arith, wider, p.short); lacks_feed = p.lacks_feed }

-- with a byte between them
pub brief_parted : (a b : List ℕ) (c m n : ℕ) → (c == 10) ≡ false → IsBrief a m → IsBrief b n → IsBrief (a ++ c ∷ b) (m + suc n)
brief_parted a b c m n other p q = brief_both a (c ∷ b) m (suc n) p (brief_behind c b n other q)

-- a word is brief: both are computed
pub brief_word : (text : List ℕ) → (nat_le (length text) 20 && lacks 10 text) ≡ true → IsBrief text 20
brief_word text h = let parts = and_parts (nat_le (length text) 20) (lacks 10 text) h in record { short = grind (arith, nat_tests, parts.0); lacks_feed = parts.1 }

-- behind a word
pub brief_line : (front a : List ℕ) (m : ℕ) → (nat_le (length front) 20 && lacks 10 front) ≡ true → 20 + m ≤ 100 → IsBrief a m → IsBrief (front ++ a) 100
brief_line front a m h fits p = brief_wider (front ++ a) (20 + m) 100 fits (brief_both front a 20 m (brief_word front h) p)

-- a number of at most six digits
pub brief_number : (n : ℕ) → n < 1000000 → IsBrief (decimal n) 6
brief_number n small = record { short = length-decimal-le 6 n (lit< tt) small (omega (arith, small)); lacks_feed = number_lacks 10 (decimal n) refl (decimal-writes n (omega (arith, small))).form }
