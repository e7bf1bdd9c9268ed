-- What the writer keeps of an area once it is released, or once a purge has dropped the instance: that no slot names it, and
-- which processes the instance killed. Of looks that are kept, which processes they were through, and what they told.
-- Source: Erlang/OTP, the manual pages of the module code (purge, soft_purge) and of persistent_term; the words are this
-- project's own.
use Rattle.std.specs.Prelude.{◌≡◌, ℕ, zero, suc, ◌<◌, ◌==◌, nat_lt, Bool, true, false, ◌&&◌, if◌then◌else◌, List, [], ◌∷◌}
use Rattle.std.specs.List.{list_any}
use Rattle.atomic_table.specs.Table.{Step}
use Rattle.area_core.specs.declared.map.TheConstants.{PROCESSES, ANCHORS}
use Rattle.area_core.specs.declared.table.Published.{Published}
use Rattle.area_core.specs.Blocks.{Among}
use Rattle.marks.specs.declared.kept.LookKind.{LookKind}
use Rattle.marks.specs.declared.kept.LookKind.TheVariants.{Frame, Both}
use Rattle.marks.specs.declared.kept.EndedWait.{EndedWait}
use Rattle.marks.specs.declared.kept.LookedAnchor.{LookedAnchor}
use Rattle.marks.specs.declared.kept.DroppedArea.{DroppedArea}
use Rattle.marks.specs.declared.kept.WriterKept.{WriterKept}
use Rattle.marks.specs.Steps.{with_drop_kept}
use Rattle.shared_words.specs.declared.view.WriterView.{WriterView}
use Rattle.shared_words.specs.declared.view.View.TheVariants.{Writer}
use Rattle.shared_words.specs.Views.{newest_number}
use Rattle.shared_words.specs.Seats.{writer_of}
use Rattle.shared_words.specs.Kinds.{Sat}
use Rattle.shared_words.specs.Publishing.{with_word, with_next}

-- ---- numbers

-- each number below this one passes the test
abbrev pub each_below : (ℕ → Bool) → ℕ → Bool
each_below test zero = true
each_below test (suc n) = test n && each_below test n

-- the numbers below this one that pass the test, the greatest first
abbrev pub those_below : (ℕ → Bool) → ℕ → List ℕ
those_below test zero = []
those_below test (suc n) = if test n then n ∷ those_below test n else those_below test n

-- ---- looks that are kept

-- both looks ask for the same
abbrev pub is_same_kind : LookKind → LookKind → Bool
is_same_kind Frame Frame = true
is_same_kind Frame Both = false
is_same_kind Both Frame = false
is_same_kind Both Both = true

-- both are one wait
abbrev pub is_same_wait : EndedWait → EndedWait → Bool
is_same_wait a b = (a.generation == b.generation) && ((a.serial == b.serial) && is_same_kind a.kind b.kind)

-- it was this anchor of the process, and after this wait
abbrev pub is_look_at : EndedWait → ℕ → ℕ → LookedAnchor → Bool
is_look_at wait process place l = is_same_wait l.wait wait && ((l.process == process) && (l.place == place))

-- it was an anchor of the process, after this wait, and told of a kill
abbrev pub is_kill_of : EndedWait → ℕ → LookedAnchor → Bool
is_kill_of wait process l = is_same_wait l.wait wait && ((l.process == process) && (nat_lt l.place ANCHORS && l.told))

-- after this wait each anchor of each slot was looked at
abbrev pub is_looked_through : WriterKept → EndedWait → Bool
is_looked_through k wait = each_below (λ process. each_below (λ place. list_any (is_look_at wait process place) k.anchors) ANCHORS) PROCESSES

-- the generation of the newest of these waits that passes the test
abbrev pub looked_since : (ℕ → Bool) → List EndedWait → ℕ
looked_since test [] = 0
looked_since test (wait ∷ waits) = if test wait.generation then wait.generation else looked_since test waits

-- the wait on which the last look stands that went through all slots, and found no anchor that names the area in the kind
abbrev pub clear_wait : WriterKept → LookKind → ℕ → EndedWait
clear_wait k kind serial = record {
  generation = looked_since (λ g. is_looked_through k (record { generation = g; serial = serial; kind = kind })) k.waits;
  serial = serial;
  kind = kind;
}

-- the processes of which some anchor told of a kill when it was looked at after this wait: those that the instance has killed,
-- since no anchor that tells of a kill is ever stored again
abbrev pub killed_in : WriterKept → EndedWait → List ℕ
killed_in k wait = those_below (λ process. list_any (is_kill_of wait process) k.anchors) PROCESSES

-- ---- drops

-- that the area is dropped: the wait behind the look that was clear of it, the newest generation, and whom its instance killed
abbrev pub drop_of : WriterView → LookKind → ℕ → DroppedArea
drop_of w kind serial = record { wait = clear_wait w.looks kind serial; generation = newest_number w.published; killed = killed_in w.looks (clear_wait w.looks kind serial) }

-- it keeps the drop
abbrev pub with_drop : DroppedArea → WriterView → WriterView
with_drop d w = record w { looks = with_drop_kept w.looks d }

-- the drop has as killed just whom each look tells of that is kept of the area, whatever wait it stands on: of a process that it has
-- all looks at some anchor told of a kill, and of one that it has not none did
pub record AgreesWithLooks (k : WriterKept) (d : DroppedArea) : Type 0 where
  pub told : (l : LookedAnchor) → Among k.anchors l → l.wait.serial ≡ d.wait.serial → l.process < PROCESSES → l.place < ANCHORS → l.told ≡ true → Among d.killed l.process
  pub killed : (process : ℕ) → Among d.killed process → (place : ℕ) × (place < ANCHORS)
      × ((l : LookedAnchor) → Among k.anchors l → l.wait.serial ≡ d.wait.serial → l.process ≡ process → l.place ≡ place → l.told ≡ true)

-- what the store leaves of the writer's view by which an area is released: the word is stored, and the drop in both kinds kept
abbrev pub release_stored : ℕ → Step (Unit {0}) → Sat → ℕ → Sat → Type 0
release_stored serial st me stored me' =
    me' ≡ (Writer (with_drop (drop_of (writer_of me.0) Both serial) (with_word st.word stored (writer_of me.0))), me.1)

-- what the store of the root tells and leaves by which a purge drops an instance: the generation is published, and the drop for
-- frames kept
pub record root_dropped (p : Published) (serial : ℕ) (st : Step (Unit {0})) (me : Sat) (stored : ℕ) (me' : Sat) : Type 0 where
  pub view : me' ≡ (Writer (with_drop (drop_of (writer_of me.0) Frame serial) (with_next p (writer_of me.0))), me.1)
  pub agree : AgreesWithLooks (writer_of me.0).looks (drop_of (writer_of me.0) Frame serial)
