-- What the writer keeps over its steps: its notes, its looks, and what it waits for.
use Rattle.std.proofs.Common.{◌≡◌, ℕ, ◌≤◌, length, refl, sym, ap, subst, ◌∙◌, arith}
use Rattle.area_core.specs.declared.table.Published.{Published}
use Rattle.area_core.specs.Blocks.{Among}
use Rattle.shared_words.specs.declared.view.WriterView.{WriterView}
use Rattle.shared_words.specs.Kinds.{counter_kept}
use Rattle.shared_words.specs.Publishing.{with_next}
use Rattle.progress_words.specs.Needs.{HasLoadedCounter}
use Rattle.breakpoints.proofs.Others.{kept_longer}
use Rattle.staging.specs.Whose.{KeepsKnown, KeepsWaits}
use Rattle.staging.proofs.AreasIn.{among_left}

-- over two steps in a row
pub known_on : (a b c : WriterView) → KeepsKnown a b → KeepsKnown b c → KeepsKnown a c
known_on a b c f g = record { notes = g.notes ∙ f.notes; looks = g.looks ∙ f.looks; waits = λ pair had. g.waits pair (f.waits pair had); longer = (let first = f.longer in let second = g.longer in omega (arith, first, second)) }

-- where nothing more is waited for
pub waits_same : (a b : WriterView) → b.pairs ≡ a.pairs → KeepsWaits a b
waits_same a b is pair had = subst (λ pairs. Among pairs pair) (sym is) had

-- no pair is lost where they are as before
pub longer_same : (a b : WriterView) → b.pairs ≡ a.pairs → length a.pairs ≤ length b.pairs
longer_same a b is = (let same = ap length is in omega (arith, same))

-- where the view is as before
pub known_same : (a b : WriterView) → b ≡ a → KeepsKnown a b
known_same a b is = record { notes = ap (λ (w : WriterView). w.notes) is; looks = ap (λ (w : WriterView). w.looks) is; waits = waits_same a b (ap (λ (w : WriterView). w.pairs) is); longer = longer_same a b (ap (λ (w : WriterView). w.pairs) is) }

-- where the words alone are others
pub known_words : (a b : WriterView) → b ≡ record a { words = b.words } → KeepsKnown a b
known_words a b is = record { notes = ap (λ (w : WriterView). w.notes) is; looks = ap (λ (w : WriterView). w.looks) is; waits = waits_same a b (ap (λ (w : WriterView). w.pairs) is); longer = longer_same a b (ap (λ (w : WriterView). w.pairs) is) }

-- by a load of the counter
pub known_counted : (w : WriterView) (counter : ℕ) → KeepsKnown w (counter_kept counter w)
known_counted w counter = record { notes = refl; looks = refl; waits = λ pair had. among_left w.pairs _ pair had; longer = (let one = kept_longer counter w in omega (arith, one)) }

pub known_loaded : (a b : WriterView) → HasLoadedCounter a b → KeepsKnown a b
known_loaded a b loaded = subst (KeepsKnown a) (sym loaded.view) (known_counted a loaded.counter)

-- by the store of the root
pub known_next : (w : WriterView) (p : Published) → KeepsKnown w (with_next p w)
known_next w p = record { notes = refl; looks = refl; waits = λ pair had. had; longer = omega (arith) }
