-- The serials that a change gives.
use Rattle.std.proofs.Common.{◌≡◌, ◌+◌, ℕ, length, refl, sym, ap, ◌∙◌, arith}
use Rattle.std.proofs.lemmas.List.{length-map}
use Rattle.server_core.specs.declared.change.Change.{Change}
use Rattle.server_core.specs.declared.change.Change.TheVariants.{BringIn, HoldArea}
use Rattle.server_core.specs.ServerState.{ServerState}
use Rattle.server_core.proofs.Loads.{with_all_parts}
use Rattle.change_laws.specs.Changes.{incoming, instance, changed_state}

-- none is given to nothing
stays : (n : ℕ) → n ≡ n + 0
stays n = omega arith

-- each change gives so many serials as areas come in with it
pub serials_given : (s : ServerState) (change : Change) → (changed_state s change).next_serial ≡ s.next_serial + length (incoming change)
serials_given s (BringIn generation modules areas versions) = ap (λ t. t.next_serial) (with_all_parts s modules.items) ∙ ap (λ n. s.next_serial + n) (sym (length-map modules.items instance))
serials_given s (HoldArea generation key term stored areas keys retired) = refl
serials_given s change = stays s.next_serial
