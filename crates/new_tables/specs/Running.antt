-- What the tests on threads begin with and end with: a writer that published the empty generation alone, and members that
-- report and may take the lead.
use Rattle.std.specs.Prelude.{◌≡◌, ℕ, []}
use Rattle.atomic_table.specs.Seated.{TableId}
use Rattle.area_core.specs.declared.table.Published.{Published}
use Rattle.area_core.specs.Map.{word_at}
use Rattle.area_core.specs.Blocks.{Among}
use Rattle.area_core.specs.Step.{opening_published}
use Rattle.shared_words.specs.declared.seats.Member as tokens
use Rattle.shared_words.specs.declared.view.WriterView.{WriterView}
use Rattle.shared_words.specs.Kinds.{MayLead}
use Rattle.progress_words.specs.Tokens.{view_of, IsMemberOf}

-- nothing but the empty generation was published, each word of a block is 0, and no area is kept
pub record IsEmpty (w : WriterView) : Type 0 where
  pub published : (p : Published) → Among w.published p → p ≡ opening_published
  pub words : (place : ℕ) → word_at w.words place ≡ 0
  pub kept : w.kept ≡ []

-- the member is one of this table, is awake and follows, and no process of its has a slot
pub record IsReady (table : TableId) (token : tokens.Member) : Type 0 where
  pub of : IsMemberOf table token
  pub may : MayLead (view_of token)
  pub slots : (view_of token).slots ≡ []

-- the same member, which is ready again
pub record HasReported (table : TableId) (old new : tokens.Member) : Type 0 where
  pub ready : IsReady table new
  pub number : new.number ≡ old.number
