-- What frames name, noted frame by frame; and what is kept of a process's names, whatever the words of the areas are.
use Rattle.std.proofs.Common.{◌≡◌, ◌==◌, ◌||◌, ◌<◌, ◌+◌, ◌∙◌, ℕ, ap, sym, Bool, false, List, [], ◌∷◌, take, length, get_or, refl}
use Rattle.std.proofs.lemmas.List.Folds.{list_any-append}
use Rattle.std.specs.List.{flat_map, list_any}
use Rattle.std.proofs.Math.Bool.{or-false}
use Rattle.term_core.specs.declared.hold.Kind.TheVariants.{Frame as for_frames}
use Rattle.machine_core.specs.declared.process.Frame.{Frame}
use Rattle.machine_core.specs.declared.process.Process.{Process}
use Rattle.machine_core.specs.Holds.{Holds, is_among}
use Rattle.machine_core.specs.Process.{Words, code_names, names_of, process_of, value_areas}
use Rattle.machine_core.proofs.CodeNames.{among-flat_map, code_names-shown}
use Rattle.machine_core.proofs.DroppedHolds.{named_instance}
use Rattle.machine_core.proofs.SerialLists.{among-serials_of}
use Rattle.script_core.proofs.JoinedPlaces.{take_next}
use Rattle.span_check.specs.declared.named.Named.{Named}
use Rattle.span_check.specs.declared.standing.Standing.{Standing}
use Rattle.span_check.specs.Standings.{AreNames, HasItsNames}
use Rattle.span_check.specs.Watches.{one_runs, stands_in}
use Rattle.span_check.proofs.Lists.{read_at}

-- a test of some element of a list that grows by one
any_more : {X : Type 0} (test : X → Bool) (xs : List X) (i : ℕ) (x : X) → i < length xs → x ≡ get_or xs i x → list_any test (take (i + 1) xs) ≡ (list_any test (take i xs) || test x)
any_more test xs i x within is =
    ap (list_any test) (take_next xs i x (read_at xs i x within is)) ∙ list_any-append test (take i xs) (x ∷ []) ∙ ap (λ b. list_any test (take i xs) || b) (or-false (test x))

-- what frames name is named by some of them
instances_by : (fs : List Frame) (n : ℕ) → is_among (code_names fs).frames n ≡ one_runs fs n
instances_by fs n = sym (named_instance for_frames fs n refl)

literals_by : (fs : List Frame) (n : ℕ) → is_among (code_names fs).literals n ≡ list_any (λ f. is_among (value_areas f.registers) n) fs
literals_by fs n = among-serials_of (flat_map (λ (f : Frame). value_areas f.registers) fs) n ∙ among-flat_map (λ (f : Frame). value_areas f.registers) fs n

-- one frame more
pub names_more : (fs : List Frame) (i : ℕ) (f : Frame) (before after : Named) → i < length fs → f ≡ get_or fs i f → AreNames (take i fs) before
    → ((n : ℕ) → is_among after.frames n ≡ (is_among before.frames n || (f.code.area.serial == n))) → ((n : ℕ) → is_among after.literals n ≡ (is_among before.literals n || is_among (value_areas f.registers) n)) → AreNames (take (i + 1) fs) after
names_more fs i f before after within is names frames literals = record {
  instances = λ n.
      frames n
      ∙ ap (λ b. b || (f.code.area.serial == n)) (names.instances n ∙ instances_by (take i fs) n)
      ∙ sym (any_more (λ x. x.code.area.serial == n) fs i f within is)
      ∙ sym (instances_by (take (i + 1) fs) n);
  quoted = λ n.
      literals n
      ∙ ap (λ b. b || is_among (value_areas f.registers) n) (names.quoted n ∙ literals_by (take i fs) n)
      ∙ sym (any_more (λ x. is_among (value_areas x.registers) n) fs i f within is)
      ∙ sym (literals_by (take (i + 1) fs) n);
}

-- whether a process stands in an instance, by the code's frames
pub stands_by : (words : Words) (p : Process) (serial : ℕ) → one_runs p.frames serial ≡ stands_in (process_of words p) serial
stands_by words p serial = sym (instances_by p.frames serial) ∙ ap (λ (h : Holds). is_among h.frames serial) (code_names-shown words p.frames)

module _ (words : Words) (standing : Standing) (serial : ℕ) (result : Bool) (serials : List ℕ) (names : HasItsNames standing) where
  pub instances_kept : serials ≡ standing.named.frames → result ≡ is_among serials serial → result ≡ is_among (names_of (process_of words standing.process)).frames serial
  instances_kept kept is =
      is ∙ ap (λ ns. is_among ns serial) kept ∙ names.instances serial ∙ ap (λ (h : Holds). is_among h.frames serial) (code_names-shown words standing.process.frames)

  -- it stands not in the area, and so names it by a literal, if it does
  pub literals_kept : (stands : Bool) → serials ≡ standing.named.literals → result ≡ is_among serials serial → stands ≡ false → stands ≡ is_among (names_of (process_of words standing.process)).frames serial
      → result ≡ (is_among (names_of (process_of words standing.process)).frames serial || is_among (names_of (process_of words standing.process)).literals serial)
  literals_kept stands kept is apart at =
      is ∙ ap (λ ns. is_among ns serial) kept ∙ names.quoted serial ∙ ap (λ (h : Holds). is_among h.literals serial) (code_names-shown words standing.process.frames)
      ∙ ap (λ b. b || is_among (names_of (process_of words standing.process)).literals serial) (sym apart ∙ at)
