-- What the slot of a process tells of its end.
use Rattle.std.proofs.Common.{◌≡◌, ℕ, ◌+◌, ◌-◌, ◌*◌, ◌<◌, inl, inr, true, not, List, Option, Some, None, sym, ap, subst, ◌∙◌, arith}
use Rattle.std.specs.Prelude.{◌==◌, IfSome, slice_get, slice_set}
use Rattle.std.proofs.lemmas.Bool.{and_parts, eqb-true}
use Rattle.std.proofs.lemmas.Option.{none-some}
use Rattle.atomic_table.specs.Seated.{TableId}
use Rattle.prgr_core.proofs.Parts.{slice_get-slice_set}
use Rattle.term_core.specs.declared.hold.Kind.TheVariants.{Frame}
use Rattle.machine_core.specs.declared.process.End.{End}
use Rattle.machine_core.specs.declared.process.End.TheVariants.{Killed}
use Rattle.marks.specs.Names.{HasAnchor, tells_kill}
use Rattle.shared_words.specs.declared.opening.Opening.{Opening}
use Rattle.shared_words.specs.declared.seats.Member as tokens
use Rattle.shared_words.specs.declared.view.MemberView.{MemberView}
use Rattle.shared_words.specs.Processes.{AreCopied}
use Rattle.shared_words.specs.Seats.{IsMemberSeat}
use Rattle.anchors.specs.Drops.{AnchorsStored, HasKilled, IsDoomed}
use Rattle.anchors.specs.Holds.{HoldsAnchors, IsUnkilled, MayRun, anchors_of, view_of}
use Rattle.anchors.proofs.Holding.{anchors_stored}
use Rattle.anchors.proofs.Stored.{more_stored, none_stored, one_stored, run_still}
use Rattle.word_lap.specs.Laps.{HasDroppedAll, HasEndedIn, MayEndBy, MayKill, TellsOf, killer_of}
use Rattle.word_lap.specs.Schedulers.{IsToken}
use Rattle.word_lap.proofs.Tokens.{token_on}

-- ---- who killed the process

killer_is : (fin : End) (serial : ℕ) → killer_of fin ≡ Some serial → fin ≡ Killed serial
killer_is (Killed s) serial is = ap (λ (o : Option ℕ). Killed (number o)) is
  where
    number : Option ℕ → ℕ
    number None = 0
    number (Some n) = n
killer_is fin serial is = absurd (none-some serial is)

may_kill : (process serial : ℕ) (m : MemberView) (fin : End) → MayEndBy process m fin → Some serial ≡ killer_of fin → MayKill process serial m
may_kill process serial m fin may is = subst (λ (o : Option ℕ). IfSome o (λ s. MayKill process s m)) (sym is) may

pub kill_named : (process serial : ℕ) (m : MemberView) (fin : End) → MayEndBy process m fin → Some serial ≡ killer_of fin → HoldsAnchors Frame (anchors_of m process) serial
kill_named process serial m fin may is = (may_kill process serial m fin may is).named

pub kill_doomed : (process serial : ℕ) (m : MemberView) (fin : End) → MayEndBy process m fin → Some serial ≡ killer_of fin → IsDoomed serial m
kill_doomed process serial m fin may is = (may_kill process serial m fin may is).doomed

-- ---- the store

pub kill_token : (table : TableId) (old new : tokens.Member) (process serial : ℕ) → IsToken table old → IsMemberSeat table new.number new.seat → new.root ≡ old.root → AreCopied new.anchors.items (view_of new) → HasKilled process serial (view_of old) (view_of new) → IsToken table new
kill_token table old new process serial h seat root copied killed =
    token_on table old new h seat root copied (ap (λ (m : MemberView). m.member.generation) killed.view) (ap (λ (m : MemberView). m.seen) killed.view)

pub kill_stored : (process serial : ℕ) (old new : MemberView) → HasKilled process serial old new → AnchorsStored process old new
kill_stored process serial old new h = subst (AnchorsStored process old) (sym h.view) (one_stored process (h.place + 1) (serial * 4) old (omega arith))

pub none_stored_at : (process : ℕ) (m : MemberView) → AnchorsStored process m m
none_stored_at process m = none_stored process m

only_this : (serial s : ℕ) → tells_kill (serial * 4) s ≡ true → serial ≡ s
only_this serial s told = let same = eqb-true (serial * 4) (s * 4) (and_parts (serial * 4 == s * 4) (not (s == 0)) told).0 in omega (arith, same)

-- the slot tells of this instance alone
module _ (process serial : ℕ) (old new : MemberView) (unkilled : IsUnkilled (anchors_of old process)) (h : HasKilled process serial old new) where
  stored_word : (place word : ℕ) → slice_get (anchors_of new process) place ≡ Some word → slice_get (slice_set (anchors_of old process) h.place (serial * 4)) place ≡ Some word
  stored_word place word at =
      let back : h.place + 1 - 1 ≡ h.place = omega arith in
      sym (ap (λ (i : ℕ). slice_get (slice_set (anchors_of old process) i (serial * 4)) place) back)
      ∙ sym (ap (λ (xs : List ℕ). slice_get xs place) (ap (λ (m : MemberView). anchors_of m process) h.view ∙ anchors_stored old process (h.place + 1) (serial * 4) (omega arith))) ∙ at

  told_this : (s : ℕ) → HasAnchor tells_kill (anchors_of new process) s → serial ≡ s
  told_this s told =
      elim (slice_get-slice_set (anchors_of old process) h.place (serial * 4) told.place told.word (stored_word told.place told.word told.at)) as (λ _. serial ≡ s) [
        | inl here ↦ only_this serial s (ap (λ (w : ℕ). tells_kill w s) (sym here.1) ∙ told.passes)
        | inr other ↦ absurd (unkilled told.place told.word s other.1 told.passes)
      ]

pub kill_tells : (process serial : ℕ) (old new : MemberView) (fin : End) → IsUnkilled (anchors_of old process) → HasKilled process serial old new → (0 < serial → HasAnchor tells_kill (anchors_of new process) serial) → Some serial ≡ killer_of fin → TellsOf process fin new
kill_tells process serial old new fin unkilled h told is s some = (
  λ tells. killer_is fin s (sym is ∙ ap (λ (n : ℕ). Some n) (told_this process serial old new unkilled h s tells)),
  λ ended.
      let same : serial ≡ s = named (is ∙ ap killer_of ended) in
      subst (HasAnchor tells_kill (anchors_of new process)) same (told (subst (λ (n : ℕ). 0 < n) (sym same) some)),
)
  where
    number : Option ℕ → ℕ
    number None = 0
    number (Some n) = n

    named : {a b : ℕ} → Some a ≡ Some b → a ≡ b
    named e = ap number e

-- where no instance killed it, the slot tells of none
pub none_tells : (process : ℕ) (m : MemberView) (fin : End) → IsUnkilled (anchors_of m process) → None ≡ killer_of fin → TellsOf process fin m
none_tells process m fin unkilled is s some = (
  λ tells. absurd (unkilled tells.place tells.word s tells.at tells.passes),
  λ ended. absurd (none-some s (is ∙ ap killer_of ended)),
)

-- ---- the whole end

pub still_runs : (opening : Opening) (process : ℕ) (old new : MemberView) → AnchorsStored process old new → MayRun opening process old → MayRun opening process new
still_runs opening process old new stored run = run_still opening process process old new stored run

pub ended_so : (process : ℕ) (fin : End) (old mid new : MemberView) → AnchorsStored process old mid → TellsOf process fin mid → HasDroppedAll process mid new → HasEndedIn process fin old new
ended_so process fin old mid new stored told dropped = record {
  stored = more_stored process old mid new stored dropped.stored;
  empty = dropped.empty;
  killed = λ s some. (λ tells. (told s some).0 ((dropped.kills s).0 tells), λ ended. (dropped.kills s).1 ((told s some).1 ended));
}
