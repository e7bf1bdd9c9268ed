-- What the writer keeps of looks and drops changes nothing of what the words stand for, nor of whose tables they are.
use Rattle.std.proofs.Common.{ℕ, List, Option, Some, None}
use Rattle.term_core.specs.declared.atom.Mfa.{Mfa}
use Rattle.area_core.specs.declared.table.Published.{Published}
use Rattle.marks.specs.declared.kept.WriterKept.{WriterKept}
use Rattle.shared_words.specs.declared.view.WriterView.{WriterView}
use Rattle.server_core.specs.ServerState.{ServerState}
use Rattle.code_index.specs.declared.index.Staging.TheVariants as indices
use Rattle.code_index.specs.declared.index.Staging.{Staging}
use Rattle.code_index.specs.Staging as places
use Rattle.code_index.specs.Staging.{IsIndexOf}
use Rattle.literal_areas.specs.declared.areas.Areas.{Areas}
use Rattle.literal_areas.specs.Owned.{AreOf}
use Rattle.term_table.specs.Tables.{GoesWith, IsTableOf, Terms}
use Rattle.staging.specs.Standing.{StandFor}

module _ (w : WriterView) (looks : WriterKept) where
  abbrev now : WriterView
  now = record w { looks = looks }

  goes_looked : (x : Staging) → places.GoesWith x w → places.GoesWith x now
  goes_looked indices.Nothing goes = goes
  goes_looked (indices.Staged block) goes = goes
  goes_looked (indices.Committing block need) goes = goes

  pub index_looked : (x : Staging) → IsIndexOf x w → IsIndexOf x now
  index_looked x own = record { all = own.all; areas = own.areas; fits = own.fits; active = own.active; free = own.free; staged = goes_looked x own.staged }

  pub stages_looked : (x : Staging) (p : Published) → places.Stages x p w → places.Stages x p now
  stages_looked indices.Nothing p stages = stages
  stages_looked (indices.Staged block) p stages = stages
  stages_looked (indices.Committing block need) p stages = stages

  staged_looked : (staged : Option ℕ) → GoesWith staged w → GoesWith staged now
  staged_looked None goes = goes
  staged_looked (Some table) goes = goes

  pub table_looked : (t : Terms) → IsTableOf t w → IsTableOf t now
  table_looked t own = record {
    all = own.all;
    long = own.long;
    areas = own.areas;
    fits = own.fits;
    table = own.table;
    active = own.active;
    counted = own.counted;
    past = λ table g p fits differ at is. let past = own.past table g p fits differ at is in record { generation = past.generation; taken = past.taken; before = past.before };
    staged = staged_looked t.staged own.staged;
  }

  pub pools_looked : (pools : Areas) → AreOf pools w → AreOf pools now
  pools_looked pools own = record { sound = own.sound; all = own.all; kept = own.kept; reached = own.reached; taken = own.taken; past = own.past; since = own.since }

  pub stands_looked : (names : List Mfa) (s : ServerState) (pools : Areas) → StandFor names s pools w → StandFor names s pools now
  stands_looked names s pools stands = record {
    newest_is = stands.newest_is;
    numbered = stands.numbered;
    keys_once = stands.keys_once;
    knows = stands.knows;
    narrow = stands.narrow;
    bp = stands.bp;
    listed = stands.listed;
    stay = stands.stay;
    blocks = stands.blocks;
    placed = stands.placed;
    images = stands.images;
    words = record { retire = stands.words.retire; since = stands.words.since; free = stands.words.free; doom = stands.words.doom };
    dropped = stands.dropped;
  }
