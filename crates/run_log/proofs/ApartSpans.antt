-- Neighbouring spans stay apart where a span joins behind them that is apart from the last.
use Rattle.std.proofs.Common.{◌≡◌, ◌≢◌, List, [], ◌∷◌, ◌++◌, Some, IfSome, refl}
use Rattle.run_log.specs.declared.logs.Span.{Span}
use Rattle.run_log.specs.WholeSpans.{AreApart, last_generation}

-- the last of spans that end so
pub last_is : (spans : List Span) (last : Span) → last_generation (spans ++ last ∷ []) ≡ Some last.generation
last_is [] last = refl
last_is (span ∷ []) last = refl
last_is (span ∷ next ∷ spans) last = last_is (next ∷ spans) last

pub apart_more : (spans : List Span) (last : Span) → AreApart spans → IfSome (last_generation spans) (λ g. g ≢ last.generation) → AreApart (spans ++ last ∷ [])
apart_more [] last h n = (tt, tt)
apart_more (span ∷ []) last h n = (n, (tt, tt))
apart_more (span ∷ next ∷ spans) last h n = (h.0, apart_more (next ∷ spans) last h.1 n)

-- spans that are apart, and the last one taken from them
pub record ApartBefore (spans : List Span) (last : Span) : Type 0 where
  pub others : AreApart spans
  pub fresh : IfSome (last_generation spans) (λ g. g ≢ last.generation)

cut_further : (span next : Span) (spans : List Span) (last : Span) → span.generation ≢ next.generation → ApartBefore (next ∷ spans) last → ApartBefore (span ∷ next ∷ spans) last
cut_further span next spans last n h = record { others = (n, h.others); fresh = h.fresh }

pub apart_cut : (spans : List Span) (last : Span) → AreApart (spans ++ last ∷ []) → ApartBefore spans last
apart_cut [] last h = record { others = tt; fresh = tt }
apart_cut (span ∷ []) last h = record { others = (tt, tt); fresh = h.0 }
apart_cut (span ∷ next ∷ spans) last h = cut_further span next spans last h.0 (apart_cut (next ∷ spans) last h.1)
