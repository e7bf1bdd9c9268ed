-- The answer that a process lingers in an old instance, which the writer keeps once it loads an anchor again and finds that it names the instance.
-- Source: Erlang/OTP, the manual page of the module code (check_process_code, soft_purge); the words are this project's own.
use Rattle.std.specs.Prelude.{◌≡◌, ℕ, ◌-◌, ◌∷◌, if◌then◌else◌}
use Rattle.atomic_table.specs.Table.{Step}
use Rattle.area_core.specs.Generations.{names_frame}
use Rattle.area_core.specs.Blocks.{Among}
use Rattle.marks.specs.declared.kept.LookKind.TheVariants.{Frame}
use Rattle.marks.specs.declared.kept.LingeringFrame.{LingeringFrame}
use Rattle.marks.specs.Steps as kept
use Rattle.shared_words.specs.declared.view.NamedAnchor.{NamedAnchor}
use Rattle.shared_words.specs.declared.view.WriterView.{WriterView}
use Rattle.shared_words.specs.declared.view.View.TheVariants.{Writer}
use Rattle.shared_words.specs.Views.{newest_number}
use Rattle.shared_words.specs.Seats.{writer_of}
use Rattle.shared_words.specs.Kinds.{Sat}
use Rattle.shared_words.specs.Slots.{process_at, place_at, wait_for, anchor_found}

-- the answer that the process was in the instance after so many turns, on the wait of a look for frames of it
abbrev pub lingering_of : WriterView → ℕ → ℕ → ℕ → LingeringFrame
lingering_of w process serial turns = record { wait = wait_for w Frame serial; process = process; turns = turns }

-- such a look read that the process had done so many turns, and the generation of its wait is still the newest
pub record IsLooked (w : WriterView) (process serial turns : ℕ) : Type 0 where
  pub read : Among w.looks.turns (record { wait = wait_for w Frame serial; process = process; turns = turns })
  pub newest_is : (wait_for w Frame serial).generation ≡ newest_number w.published

-- the writer keeps the answer
abbrev pub with_lingering : LingeringFrame → WriterView → WriterView
with_lingering l w = record w { looks = kept.with_lingering w.looks l }

-- where the anchor that it found names the instance for a frame; else it keeps no answer
abbrev pub answer_found : ℕ → LingeringFrame → WriterView → WriterView
answer_found found l w = if names_frame found l.wait.serial then with_lingering l w else w

-- the anchor, its place counted from 1, as the load found it
abbrev pub anchor_again : ℕ → ℕ → LingeringFrame → WriterView → NamedAnchor
anchor_again place found l w = anchor_found l.wait l.process (place - 1) found w.looks.turns

-- the writer knows of the anchor as it was found
abbrev pub with_anchor_found : NamedAnchor → WriterView → WriterView
with_anchor_found a w = record w { named = a ∷ w.named }

-- the writer keeps the anchor as it was found, and the answer where it names the instance
abbrev pub lingering_found : ℕ → ℕ → LingeringFrame → WriterView → WriterView
lingering_found place found l w = with_anchor_found (anchor_again place found l w) (answer_found found l w)

-- so it is by the load of the anchor, and nothing else of the writer changes
abbrev pub lingering_loaded : ℕ → ℕ → Step (Unit {0}) → Sat → ℕ → Sat → Type 0
lingering_loaded serial turns st me found me' =
    me' ≡ (Writer (lingering_found (place_at st.word) found (lingering_of (writer_of me.0) (process_at st.word) serial turns) (writer_of me.0)), me.1)
