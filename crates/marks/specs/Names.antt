-- What anchors of a slot name and tell, and when a process is between its turns.
-- Source: Erlang/OTP, the manual pages of the module code (purge) and of persistent_term; anchors are this project's own.
use Rattle.std.specs.Prelude.{◌≡◌, ℕ, ◌*◌, ◌==◌, Bool, true, not, ◌&&◌, ◌||◌, List, [], ◌∷◌, Some, slice_get, ◌↔◌}
use Rattle.area_core.specs.Generations.{names_frame, names_literal}
use Rattle.marks.specs.declared.kept.LookKind.{LookKind}
use Rattle.marks.specs.declared.kept.LookKind.TheVariants.{Frame, Both}
use Rattle.marks.specs.declared.mark.Mark.{Mark}
use Rattle.marks.specs.declared.mark.ProcessView.{ProcessView}

-- an anchor names the area in the kind
abbrev pub names_in : LookKind → ℕ → ℕ → Bool
names_in Frame word serial = names_frame word serial
names_in Both word serial = names_frame word serial || names_literal word serial

-- an anchor tells that the instance killed the process
abbrev pub tells_kill : ℕ → ℕ → Bool
tells_kill word serial = (word == serial * 4) && not (serial == 0)

-- one of the anchors passes the test for this serial
pub record HasAnchor (test : ℕ → ℕ → Bool) (anchors : List ℕ) (serial : ℕ) : Type 0 where
  pub place : ℕ
  pub word : ℕ
  pub at : slice_get anchors place ≡ Some word
  pub passes : test word serial ≡ true

-- the anchors name the area in the kind
abbrev pub MarkNames : LookKind → List ℕ → ℕ → Type 0
MarkNames kind anchors serial = HasAnchor (names_in kind) anchors serial

-- what was named at the end of the last turn; nothing before the first
abbrev pub last_names : List Mark → List ℕ
last_names [] = []
last_names (m ∷ marks) = m.anchors

-- no turn of the process is under way: its slot names what its last mark names, in both kinds
pub record IsAtRest (p : ProcessView) : Type 0 where
  pub frames : (serial : ℕ) → HasAnchor names_frame p.slot.anchors serial ↔ HasAnchor names_frame (last_names p.marks) serial
  pub literals : (serial : ℕ) → HasAnchor names_literal p.slot.anchors serial ↔ HasAnchor names_literal (last_names p.marks) serial
