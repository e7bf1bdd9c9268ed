-- A member of a table, which leads and has no process.
use Rattle.std.specs.Prelude.{◌≡◌, []}
use Rattle.atomic_table.specs.Seated.{TableId}
use Rattle.shared_words.specs.declared.seats.Member as tokens
use Rattle.progress_words.specs.Tokens.{view_of, IsMemberOf}
use Rattle.progress_words.specs.Leads.{IsLeader}

-- the member leads, and none of its processes has a slot
pub record IsLeading (table : TableId) (token : tokens.Member) : Type 0 where
  pub of : IsMemberOf table token
  pub leads : IsLeader (view_of token)
  pub slots : (view_of token).slots ≡ []
