-- A member whose first process may name the instance of serial 1, and the note by which it came to know of it.
use Rattle.std.specs.Prelude.{◌≡◌, true, [], ◌∷◌}
use Rattle.atomic_table.specs.Seated.{TableId}
use Rattle.area_core.specs.Generations.{is_current}
use Rattle.area_core.specs.Step.{opening_published}
use Rattle.shared_words.specs.declared.opening.Opening.{Opening}
use Rattle.shared_words.specs.declared.seats.Member as members
use Rattle.shared_words.specs.declared.view.MemberView.{MemberView}
use Rattle.shared_words.specs.declared.view.NoteView.{NoteView}
use Rattle.shared_words.specs.Processes.{AreCopied}
use Rattle.shared_words.specs.Views.{published_at}
use Rattle.progress_words.specs.Tokens.{view_of, IsMemberOf}
use Rattle.anchors.specs.Holds.{anchors_of, MayRun, IsUnkilled}
use Rattle.grace_bench.specs.Used.{used_published}

-- the note is that of process 0, and tells of the generation with the instance
pub record TellsOfUse (n : NoteView) : Type 0 where
  pub note : n.note ≡ record { process = 0; published = 1 }
  pub seen : n.seen ≡ opening_published ∷ used_published ∷ []

-- process 0 may have turns under a generation in which the instance is current, and was not killed
pub record MayUse (opening : Opening) (m : MemberView) : Type 0 where
  pub run : MayRun opening 0 m
  pub current : is_current (published_at m.seen m.member.generation) 1 ≡ true
  pub unkilled : IsUnkilled (anchors_of m 0)

-- so the token's member knows, which is of this table
pub record IsUser (table : TableId) (opening : Opening) (token : members.Member) : Type 0 where
  pub of : IsMemberOf table token
  pub copied : AreCopied token.anchors.items (view_of token)
  pub may : MayUse opening (view_of token)
