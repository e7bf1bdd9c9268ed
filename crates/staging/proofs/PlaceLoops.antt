-- What comes in is placed one by one, and given back one by one.
use Rattle.std.proofs.Common.{◌≡◌, ℕ, ◌+◌, List, length}
use Rattle.atomic_table.specs.Seated.{TableId}
use Rattle.term_core.specs.declared.area.AreaRef.{AreaRef}
use Rattle.term_core.specs.declared.atom.Mfa.{Mfa}
use Rattle.shared_words.specs.declared.opening.Opening.{Opening}
use Rattle.progress_words.specs.Tokens.{written_by}
use Rattle.server_core.specs.declared.change.Change.{Change}
use Rattle.server_core.specs.ServerState.{ServerState}
use Rattle.staging.specs.declared.tables.Tables.{Tables}
use Rattle.staging.specs.Stages.{HavePlaced}
use Rattle.staging.specs.Whose.{AreTablesOf, KeepsKnown}

-- so many areas were placed since
pub record PlacesOn (table : TableId) (opening : Opening) (names : List Mfa) (s : ServerState) (change : Change) (at : ℕ) (first now : Tables) (taken : List AreaRef) : Type 0 where
  pub tables : AreTablesOf table opening now
  pub placed : HavePlaced names s change now taken
  pub next : at ≡ length taken
  pub exports : now.exports ≡ first.exports
  pub index : now.index ≡ first.index
  pub terms : now.terms ≡ first.terms
  pub published : (written_by now.writer).published ≡ (written_by first.writer).published
  pub known : KeepsKnown (written_by first.writer) (written_by now.writer)

-- so many areas were given back since
pub record GivesBack (table : TableId) (opening : Opening) (names : List Mfa) (s : ServerState) (change : Change) (back : ℕ) (first now : Tables) (taken left : List AreaRef) : Type 0 where
  pub tables : AreTablesOf table opening now
  pub placed : HavePlaced names s change now left
  pub count : length left + back ≡ length taken
  pub exports : now.exports ≡ first.exports
  pub index : now.index ≡ first.index
  pub terms : now.terms ≡ first.terms
  pub view : written_by now.writer ≡ written_by first.writer
