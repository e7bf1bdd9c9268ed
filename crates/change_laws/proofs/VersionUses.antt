-- Which code is current and which is old after each kind of change, by the state before.
use Rattle.std.proofs.Common.{◌≡◌, ◌⊎◌, inl, inr, ℕ, ◌+◌, ◌≤◌, Bool, true, false, cond, nat_eq, List, [], ◌∷◌, Option, Some, None, refl, sym, ap, ◌∙◌, subst, arith}
use Rattle.std.proofs.lemmas.Bool.Decides.{nat_tests}
use Rattle.mod_core.specs.declared.code.Module.{Module}
use Rattle.server_core.specs.declared.change.Change.{Change}
use Rattle.server_core.specs.declared.change.Change.TheVariants.{BringIn, MakeOld, DropOld}
use Rattle.server_core.specs.CommandTable.{with_all, with_deleted, with_loaded, with_purged, with_versions}
use Rattle.server_core.specs.Decided.{Fits}
use Rattle.server_core.specs.ServerState.{ServerState, Versions, current_among, current_of, old_among, old_of}
use Rattle.server_core.proofs.Soundness.{current_set, old_set, some_same}
use Rattle.change_laws.specs.Changes.{changed_state}
use Rattle.change_laws.proofs.LoadedCode.{AreApart, apart_head, apart_tail, no_serial, old_here, old_other}
use Rattle.change_laws.proofs.Reached.{current_purged}

-- ---- one module's versions are replaced

-- a name is that one, and has the first, or it is another, and has the second
abbrev pub IsChosen : ℕ → ℕ → Option ℕ → Option ℕ → ℕ → Type 0
IsChosen name at first second serial = ((name ≡ at) × (first ≡ Some serial)) ⊎ ((nat_eq name at ≡ false) × (second ≡ Some serial))

pub chosen_at : (name at : ℕ) (first second : Option ℕ) (serial : ℕ) → cond (nat_eq name at) first second ≡ Some serial → IsChosen name at first second serial
chosen_at name at first second serial e = by (nat_eq name at) refl e
  where
    by : (b : Bool) → nat_eq name at ≡ b → cond b first second ≡ Some serial → IsChosen name at first second serial
    by true is e = inl (grind (arith, nat_tests), e)
    by false is e = inr (is, e)

-- which serial is current then
pub current_chosen : (s : ServerState) (new : Versions) (name serial : ℕ) → current_among (with_versions s.versions new) name ≡ Some serial → IsChosen name new.name new.current (current_of s name) serial
current_chosen s new name serial e = chosen_at name new.name new.current (current_of s name) serial (sym (current_set s.versions new name) ∙ e)

-- and which is old
pub old_chosen : (s : ServerState) (new : Versions) (name serial : ℕ) → old_among (with_versions s.versions new) name ≡ Some serial → IsChosen name new.name new.old (old_of s name) serial
old_chosen s new name serial e = chosen_at name new.name new.old (old_of s name) serial (sym (old_set s.versions new name) ∙ e)

-- ---- current code

-- current code was so before, or has a serial from this one on
abbrev pub StoodOr : ℕ → Option ℕ → ℕ → Type 0
StoodOr first before serial = (before ≡ Some serial) ⊎ (first ≤ serial)

current_loaded : (s : ServerState) (m : Module) (name serial : ℕ) → current_of (with_loaded s m) name ≡ Some serial → StoodOr s.next_serial (current_of s name) serial
current_loaded s m name serial e = by (current_chosen s (record { name = m.name.0; current = Some s.next_serial; old = current_of s m.name.0 }) name serial e)
  where
    by : IsChosen name m.name.0 (Some s.next_serial) (current_of s name) serial → StoodOr s.next_serial (current_of s name) serial
    by (inl p) = let same = some_same s.next_serial serial p.1 in inr (omega (arith, same))
    by (inr p) = inl p.1

pub current_all : (s : ServerState) (ms : List Module) (name serial : ℕ) → current_of (with_all s ms) name ≡ Some serial → StoodOr s.next_serial (current_of s name) serial
current_all s [] name serial e = inl e
current_all s (m ∷ ms) name serial e = by (current_all (with_loaded s m) ms name serial e)
  where
    by : StoodOr (s.next_serial + 1) (current_of (with_loaded s m) name) serial → StoodOr s.next_serial (current_of s name) serial
    by (inl p) = current_loaded s m name serial p
    by (inr later) = inr (omega (arith, later))

current_deleted : (s : ServerState) (at name serial : ℕ) → current_of (with_deleted s at) name ≡ Some serial → current_of s name ≡ Some serial
current_deleted s at name serial e = by (current_chosen s (record { name = at; current = None; old = current_of s at }) name serial e)
  where
    by : IsChosen name at None (current_of s name) serial → current_of s name ≡ Some serial
    by (inl p) = no_serial serial p.1
    by (inr p) = p.1

pub current_stood : (s : ServerState) (change : Change) (name serial : ℕ) → current_of (changed_state s change) name ≡ Some serial → (current_of s name ≡ Some serial) ⊎ (s.next_serial ≤ serial)
current_stood s (BringIn generation modules areas versions) name serial e = current_all s modules.items name serial e
current_stood s (MakeOld generation at) name serial e = inl (current_deleted s at.0 name serial e)
current_stood s (DropOld generation at old says retired) name serial e = inl (sym (current_purged s at.0 old name) ∙ e)
current_stood s change name serial e = inl e

-- ---- old code

-- old code of a name was its current or old code
abbrev pub WasVersion : ServerState → ℕ → ℕ → Type 0
WasVersion s name serial = (current_of s name ≡ Some serial) ⊎ (old_of s name ≡ Some serial)

pub old_all : (s : ServerState) (ms : List Module) (name serial : ℕ) → AreApart ms → old_of (with_all s ms) name ≡ Some serial → WasVersion s name serial
old_all s [] name serial apart e = inr e
old_all s (m ∷ ms) name serial apart e = by (nat_eq name m.name.0) refl (old_all (with_loaded s m) ms name serial (apart_tail m ms apart))
  where
    new : Versions
    new = record { name = m.name.0; current = Some s.next_serial; old = current_of s m.name.0 }

    elsewhere : nat_eq name m.name.0 ≡ false → WasVersion (with_loaded s m) name serial → WasVersion s name serial
    elsewhere other (inl p) = inl (sym (ap (λ b. cond b (Some s.next_serial) (current_of s name)) other) ∙ sym (current_set s.versions new name) ∙ p)
    elsewhere other (inr p) = inr (sym (ap (λ b. cond b (current_of s m.name.0) (old_of s name)) other) ∙ sym (old_set s.versions new name) ∙ p)

    by : (b : Bool) → nat_eq name m.name.0 ≡ b → (old_of (with_all (with_loaded s m) ms) name ≡ Some serial → WasVersion (with_loaded s m) name serial) → WasVersion s name serial
    by true is more =
        let same : m.name.0 ≡ name = grind (arith, nat_tests) in
        let here : old_of (with_all s (m ∷ ms)) m.name.0 ≡ current_of s m.name.0 = old_other (with_loaded s m) ms m.name.0 (apart_head m ms apart) ∙ old_here s m in
        inl (sym (subst (λ n. old_of (with_all s (m ∷ ms)) n ≡ current_of s n) same here) ∙ e)
    by false is more = elsewhere is (more e)

pub old_deleted : (s : ServerState) (at name serial : ℕ) → old_of (with_deleted s at) name ≡ Some serial → WasVersion s name serial
old_deleted s at name serial e = by (old_chosen s (record { name = at; current = None; old = current_of s at }) name serial e)
  where
    by : IsChosen name at (current_of s at) (old_of s name) serial → WasVersion s name serial
    by (inl p) = inl (ap (current_of s) p.0 ∙ p.1)
    by (inr p) = inr p.1

pub old_purged : (s : ServerState) (at old name serial : ℕ) → old_of (with_purged s at old) name ≡ Some serial → old_of s name ≡ Some serial
old_purged s at old name serial e = by (old_chosen s (record { name = at; current = current_of s at; old = None }) name serial e)
  where
    by : IsChosen name at None (old_of s name) serial → old_of s name ≡ Some serial
    by (inl p) = no_serial serial p.1
    by (inr p) = p.1

pub old_stood : (s : ServerState) (change : Change) (name serial : ℕ) → Fits s change → old_of (changed_state s change) name ≡ Some serial → WasVersion s name serial
old_stood s (BringIn generation modules areas versions) name serial fits e = old_all s modules.items name serial fits.1.once e
old_stood s (MakeOld generation at) name serial fits e = old_deleted s at.0 name serial e
old_stood s (DropOld generation at old says retired) name serial fits e = inr (old_purged s at.0 old name serial e)
old_stood s change name serial fits e = inr e
