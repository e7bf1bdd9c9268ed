-- What may come between the decision of a change and its making: an area that is released leaves every other change fit.
use Rattle.std.proofs.Common.{◌≡◌, ℕ, ◌≤◌, Bool, true, false, nat_eq, not, List, length, refl, arith}
use Rattle.std.proofs.lemmas.List.Filters.{length-filter_both}
use Rattle.term_core.specs.PlainTerm.{PlainTerm}
use Rattle.mod_core.specs.declared.code.Module.{Module}
use Rattle.server_core.specs.declared.change.Change.{Change}
use Rattle.server_core.specs.declared.change.Change.TheVariants.{Nothing, BringIn, MakeOld, DropOld, Condemn, HoldWord, HoldArea, Forget, SetTrace, ClearTrace, GiveBack}
use Rattle.server_core.specs.declared.slots.RetiredRoom.{RetiredRoom}
use Rattle.server_core.specs.ServerState.{ServerState}
use Rattle.server_core.specs.CommandTable.{with_released, without_number}
use Rattle.server_core.specs.Decided.{CanBeDoomed, CanBeOld, CanGo, CanHold, Fits, FitsIn, IsNoRelease, RetiredFits}

twice : (b : Bool) → b ≡ not (not b)
twice true = refl
twice false = refl

fewer : (n : ℕ) (xs : List ℕ) → length (without_number n xs) ≤ length xs
fewer n xs = omega (arith, length-filter_both (λ k. not (nat_eq k n)) (λ k. nat_eq k n) (λ k. twice (nat_eq k n)) xs)

retired_fits : (s : ServerState) (n : ℕ) (room : RetiredRoom) → RetiredFits s room → RetiredFits (with_released s n) room
retired_fits s n room fits = record {
  slots = record { empty = fits.slots.empty; room = omega (arith, fits.slots.room, fewer n s.retired) };
  places = fits.places;
}

fits_in : (s : ServerState) (n : ℕ) (modules : List Module) → FitsIn s modules → FitsIn (with_released s n) modules
fits_in s n modules fits = record { sound = fits.sound; purged = fits.purged; once = fits.once; rest = fits.rest; places = fits.places }

can_be_old : (s : ServerState) (n name : ℕ) → CanBeOld s name → CanBeOld (with_released s n) name
can_be_old s n name can = record { current = can.current; old = can.old; rest = can.rest }

can_go : (s : ServerState) (n name serial : ℕ) → CanGo s name serial → CanGo (with_released s n) name serial
can_go s n name serial can = record { old = can.old; doomed = can.doomed }

can_be_doomed : (s : ServerState) (n serial : ℕ) → CanBeDoomed s serial → CanBeDoomed (with_released s n) serial
can_be_doomed s n serial can = record { old = can.old; rest = can.rest }

can_hold : (s : ServerState) (n key : ℕ) (term : PlainTerm) → CanHold s key term → CanHold (with_released s n) key term
can_hold s n key term can = record { short = can.short; place = can.place }

-- a change that waits still fits once an area was released
pub still_fits : (s : ServerState) (n : ℕ) (change : Change) → IsNoRelease change → Fits s change → Fits (with_released s n) change
still_fits s n (Nothing reply) free fits = tt
still_fits s n (BringIn generation modules areas versions) free fits = (fits.0, fits_in s n modules.items fits.1, fits.2, fits.3)
still_fits s n (MakeOld generation name) free fits = (fits.0, can_be_old s n name.0 fits.1)
still_fits s n (DropOld generation name serial says retired) free fits = (fits.0, can_go s n name.0 serial fits.1, retired_fits s n retired fits.2)
still_fits s n (Condemn generation serial) free fits = (fits.0, can_be_doomed s n serial fits.1)
still_fits s n (HoldWord generation key term keys retired) free fits = (fits.0, can_hold s n key.0 _ fits.1, fits.2, fits.3, retired_fits s n retired fits.4)
still_fits s n (HoldArea generation key term stored areas keys retired) free fits = (fits.0, can_hold s n key.0 _ fits.1, fits.2, fits.3, fits.4, fits.5, retired_fits s n retired fits.6)
still_fits s n (Forget generation key retired) free fits = (fits.0, retired_fits s n retired fits.1)
still_fits s n (SetTrace generation at traced) free fits = fits
still_fits s n (ClearTrace generation at) free fits = fits
still_fits s n (GiveBack serial released) free fits = absurd free
