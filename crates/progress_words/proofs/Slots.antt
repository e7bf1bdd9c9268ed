-- What the calls of a leader leave of the slots of its processes.
use Rattle.std.proofs.Common.{◌≡◌, ℕ, List, [], ◌∷◌, Option, refl, ap, ◌∙◌}
use Rattle.shared_words.specs.declared.view.MemberView.{MemberView}
use Rattle.shared_words.specs.declared.view.View.{View}
use Rattle.shared_words.specs.declared.view.View.TheVariants.{Member}
use Rattle.shared_words.specs.Seats.{member_of}
use Rattle.shared_words.specs.Kinds.{counter_found, counter_raised}
use Rattle.progress_words.specs.declared.advances.Lag.{Lag}
use Rattle.progress_words.specs.Advances.{words_found, delay_found, HasFound}

-- words that were found leave them
slots_found : (words : List ℕ) (m : MemberView) → (words_found words m).slots ≡ m.slots
slots_found [] m = refl
slots_found (word ∷ words) m = slots_found words m

-- a load of the counter too
slots_counted : (counter : ℕ) (old new : View) → old ≡ Member (member_of old) → new ≡ counter_found counter old → (member_of new).slots ≡ (member_of old).slots
slots_counted counter old new is found = ap (λ (v : View). (member_of v).slots) (found ∙ ap (counter_found counter) is)

-- so does a look at the members after it
pub slots_looked : (count counter : ℕ) (old loaded : View) (new : MemberView) (lag : Option Lag) → old ≡ Member (member_of old) → loaded ≡ counter_found counter old → HasFound count counter (member_of loaded) new lag → new.slots ≡ (member_of old).slots
slots_looked count counter old loaded new lag is load h = ap (λ (m : MemberView). m.slots) h.view ∙ slots_found h.words (member_of loaded) ∙ slots_counted counter old loaded is load

-- and a look at the delay
pub slots_delayed : (count : ℕ) (mid new : MemberView) → new ≡ delay_found count mid → new.slots ≡ mid.slots
slots_delayed count mid new found = ap (λ (m : MemberView). m.slots) found

-- and the raise of the counter behind it
pub slots_raised : (mid : MemberView) (new : View) → new ≡ Member (counter_raised mid) → (member_of new).slots ≡ mid.slots
slots_raised mid new view = ap (λ (v : View). (member_of v).slots) view
