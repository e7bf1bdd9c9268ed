-- What is dropped next can be retired: it is not retired yet, and there is room for it.
use Rattle.std.proofs.Common.{◌≡◌, ℕ, ◌+◌, ◌<◌, Bool, true, false, ◌||◌, cond, nat_eq, List, [], ◌∷◌, Option, Some, None, IfSome, IsTrue, slice_get, refl, sym, ap, subst, arith}
use Rattle.std.proofs.lemmas.Bool.Decides.{nat_tests}
use Rattle.server_core.specs.declared.slots.RetiredRoom.{RetiredRoom}
use Rattle.server_core.specs.Decided.{RetiredFits}
use Rattle.server_core.specs.RetiredSlots.{CanRetire, HasRetiredRoom}
use Rattle.server_core.specs.ServerState.{ServerState, IsDropped, IsInstanceOf, IsSound, is_retired, is_serial_in, key_area, old_of, serial_behind}
use Rattle.server_core.proofs.Soundness.{area_is, at_some, instance_known}

not_retired : (s : ServerState) (serial : ℕ) → IsSound s → (IsDropped s serial → ⊥) → is_retired s serial ≡ false
not_retired s serial sound used = by (is_retired s serial) refl
  where
    by : (b : Bool) → is_retired s serial ≡ b → b ≡ false
    by true h = absurd (used (sound.retired serial h))
    by false h = refl

room_for : (count below serial : ℕ) (room : RetiredRoom) → HasRetiredRoom count below room → serial < below → HasRetiredRoom count (serial + 1) room
room_for count below serial room fits less = record {
  slots = fits.slots;
  places = record { empty = fits.places.empty; room = omega (arith, fits.places.room, less) };
}

-- the old code of a module
pub old_can_retire : (s : ServerState) (name serial : ℕ) (room : RetiredRoom) → IsSound s → old_of s name ≡ Some serial → RetiredFits s room → CanRetire s.retired serial room
old_can_retire s name serial room sound was fits =
    let at = at_some (IsInstanceOf s name) (old_of s name) serial was (sound.old name) in
    record {
      fresh = not_retired s serial sound (λ d. d.not_old name was);
      fits = room_for _ _ serial room fits (instance_known s sound name serial at);
    }

-- the area of what a key holds, if it has one
pub former_can_retire : (s : ServerState) (key : ℕ) (room : RetiredRoom) → IsSound s → RetiredFits s room → IfSome (key_area s key) (λ n. CanRetire s.retired n room)
former_can_retire s key room sound fits = by (key_area s key) refl
  where
    by : (o : Option ℕ) → key_area s key ≡ o → IfSome o (λ n. CanRetire s.retired n room)
    by None e = tt
    by (Some serial) e = record {
      fresh = not_retired s serial sound (λ d. d.not_held key e);
      fits = room_for _ _ serial room fits (area_is s key serial sound e).2.known;
    }

-- the same, by what the table of keys gave
pub given_can_retire : (s : ServerState) (key : ℕ) (given : Option ℕ) (room : RetiredRoom) → IsSound s → RetiredFits s room → given ≡ key_area s key → IfSome given (λ n. CanRetire s.retired n room)
given_can_retire s key given room sound fits is = subst (λ o. IfSome o (λ n. CanRetire s.retired n room)) (sym is) (former_can_retire s key room sound fits)

-- ---- which are retired

-- the first of serials is one of them
pub first_waits : (xs : List ℕ) (o : Option ℕ) → o ≡ slice_get xs 0 → IfSome o (λ n. IsTrue (is_serial_in xs n))
first_waits [] None e = tt
first_waits [] (Some n) e = absurd (cc)
first_waits (x ∷ xs) None e = tt
first_waits (x ∷ xs) (Some n) e =
    let same : x ≡ n = cc in
    let is : nat_eq x n ≡ true = grind (arith, nat_tests) in
    ap (λ b. b || is_serial_in xs n) is

-- where there is no first one there is none
pub none_waits : (xs : List ℕ) (o : Option ℕ) → o ≡ slice_get xs 0 → o ≡ None → xs ≡ []
none_waits [] o e none = refl
none_waits (x ∷ xs) o e none = absurd (cc)

-- what stands behind a serial is one of them
pub behind_waits : (xs : List ℕ) (serial : ℕ) (o : Option ℕ) → o ≡ serial_behind xs serial → IfSome o (λ n. IsTrue (is_serial_in xs n))
behind_waits [] serial None e = tt
behind_waits [] serial (Some n) e = absurd (cc)
behind_waits (x ∷ xs) serial o e = by (nat_eq x serial) (first_waits xs o) (behind_waits xs serial o) e
  where
    later : (o : Option ℕ) → IfSome o (λ n. IsTrue (is_serial_in xs n)) → IfSome o (λ n. IsTrue (is_serial_in (x ∷ xs) n))
    later None h = tt
    later (Some n) h = either (nat_eq x n) h
      where
        either : (b : Bool) → is_serial_in xs n ≡ true → (b || is_serial_in xs n) ≡ true
        either true h = refl
        either false h = h

    by : (b : Bool) → (o ≡ slice_get xs 0 → IfSome o (λ n. IsTrue (is_serial_in xs n))) → (o ≡ serial_behind xs serial → IfSome o (λ n. IsTrue (is_serial_in xs n))) → o ≡ cond b (slice_get xs 0) (serial_behind xs serial) → IfSome o (λ n. IsTrue (is_serial_in (x ∷ xs) n))
    by true first behind e = later o (first e)
    by false first behind e = later o (behind e)
