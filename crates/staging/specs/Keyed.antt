-- A key is staged: what it holds once a change is made.
-- Source: Erlang/OTP, the manual page of persistent_term; the words are this project's own.
use Rattle.std.specs.Prelude.{◌≡◌, ℕ, ◌+◌, ◌*◌, ◌^◌, ◌<◌, slice_get, List, [], ◌∷◌, Option, Some, None}
use Rattle.term_core.specs.declared.area.AreaRef.{AreaRef}
use Rattle.term_core.specs.declared.atom.Mfa.{Mfa}
use Rattle.term_core.specs.Image.{IsImmediate, immediate_word}
use Rattle.area_core.specs.declared.map.TheConstants.{BLOCKS}
use Rattle.area_core.specs.declared.table.Published.{Published}
use Rattle.progress_words.specs.Tokens.{written_by}
use Rattle.server_core.specs.Generations.{generation_of}
use Rattle.server_core.specs.declared.change.Change.{Change}
use Rattle.server_core.specs.declared.change.Change.TheVariants.{HoldWord, HoldArea, Forget}
use Rattle.server_core.specs.Decided.{change_made}
use Rattle.server_core.specs.ServerState.{ServerState}
use Rattle.term_table.specs.declared.change.Change as changes
use Rattle.term_table.specs.declared.change.Change.TheVariants.{Put, Erase}
use Rattle.term_table.specs.Tables.{Stages}
use Rattle.staging.specs.declared.tables.Tables.{Tables}

-- the word of a term table that leads to an area
abbrev pub area_word : AreaRef → ℕ
area_word area = (area.serial * 512 + area.block) * 16 + 5

-- what is staged for a change, if it is about a key; what comes in has these areas
abbrev pub key_change : Change → List AreaRef → Option changes.Change
key_change (HoldWord generation key term keys retired) taken = Some (Put key (immediate_word term))
key_change (HoldArea generation key term stored areas keys retired) [] = None
key_change (HoldArea generation key term stored areas keys retired) (area ∷ taken) = Some (Put key (area_word area))
key_change (Forget generation key retired) taken = Some (Erase key)
key_change change taken = None

-- a change of a key has a word to stage: an integer's or an atom's, or that of an area whose serial and block have room in it
abbrev pub HasKeyWord : Change → List AreaRef → Type 0
HasKeyWord (HoldWord generation key term keys retired) taken = IsImmediate term
HasKeyWord (HoldArea generation key term stored areas keys retired) taken = (area : AreaRef) → slice_get taken 0 ≡ Some area → (area.serial < 2 ^ 40) × (area.block < BLOCKS)
HasKeyWord change taken = Unit {0}

-- what is staged is what the keys hold in the state that the change leaves
abbrev pub AreKeyed : List Mfa → ServerState → Change → List AreaRef → Tables → Type 0
AreKeyed names s change areas t = (p : Published) → p.state ≡ generation_of names (change_made s change).state → p.areas ≡ areas → Stages t.terms p (written_by t.writer)
