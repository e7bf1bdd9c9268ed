-- Each event keeps a state sound.
use Rattle.std.proofs.Common.{◌≡◌, Some, ◌&&◌, length, nat_lt, nat_le}
use Rattle.prgr_core.specs.declared.event.PrgrEvent.TheVariants as prgr
use Rattle.area_core.specs.declared.map.TheConstants.{PROCESSES, ANCHORS}
use Rattle.area_core.specs.declared.event.AreaEvent.{AreaEvent}
use Rattle.area_core.specs.declared.event.AreaEvent.TheVariants.{LoadCounter, LoadRoot, Confirm, LoadConfirmed, StoreCounter, TakeLead, DropLead, LoadWord, StoreWord, StoreRoot, StoreWaiting, StoreEntering, SplitNote, JoinNote, StoreSlot, LoadSlot, StoreEntry, AddDelay, SubDelay, LoadDelay}
use Rattle.area_core.specs.declared.table.Table.{Table}
use Rattle.area_core.specs.Readers.{may_read}
use Rattle.area_core.specs.Step.{after, IsSound}
use Rattle.area_core.proofs.SoundLoads.{progress_keeps, load_counter_keeps, load_root_keeps, confirm_keeps, load_delay_keeps, unchanged_keeps}
use Rattle.area_core.proofs.StoreLaws.{word_store_keeps, entry_store_keeps, slot_store_keeps}
use Rattle.area_core.proofs.RootStores.{root_store_keeps}

pub keeps_sound : (s t : Table) (event : AreaEvent) → IsSound s → after s event ≡ Some t → IsSound t
keeps_sound s t (LoadCounter seat) sound e = load_counter_keeps s sound seat t e
keeps_sound s t (LoadRoot seat) sound e = load_root_keeps s sound seat t e
keeps_sound s t (Confirm k value) sound e = confirm_keeps s sound k value t e
keeps_sound s t (LoadConfirmed k j) sound e = progress_keeps s sound (prgr.Scan k j) t (λ same. absurd (cc)) e
keeps_sound s t (StoreCounter k) sound e = progress_keeps s sound (prgr.Advance k) t (λ same. absurd (cc)) e
keeps_sound s t (TakeLead k) sound e = progress_keeps s sound (prgr.Lead k) t (λ same. absurd (cc)) e
keeps_sound s t (DropLead k) sound e = progress_keeps s sound (prgr.GiveUp k) t (λ same. absurd (cc)) e
keeps_sound s t (LoadWord seat word) sound e = unchanged_keeps s sound (may_read s seat word) t e
keeps_sound s t (StoreWord word value) sound e = word_store_keeps s t word value sound e
keeps_sound s t (StoreRoot code bp term next areas) sound e = root_store_keeps s t code bp term next areas sound e
keeps_sound s t (StoreWaiting k) sound e = progress_keeps s sound (prgr.Wait k) t (λ same. absurd (cc)) e
keeps_sound s t (StoreEntering k) sound e = progress_keeps s sound (prgr.Enter k) t (λ same. absurd (cc)) e
keeps_sound s t (SplitNote process) sound e = unchanged_keeps s sound (nat_lt process PROCESSES) t e
keeps_sound s t (JoinNote k) sound e = unchanged_keeps s sound (nat_lt k (length s.progress.members)) t e
keeps_sound s t (StoreSlot k process place value) sound e = slot_store_keeps s t k process place value sound e
keeps_sound s t (LoadSlot process place) sound e = unchanged_keeps s sound (nat_lt process PROCESSES && nat_le place ANCHORS) t e
keeps_sound s t (StoreEntry at on) sound e = entry_store_keeps s t at on sound e
keeps_sound s t (AddDelay w which) sound e = progress_keeps s sound (prgr.WatchAdd w which) t (λ same. absurd (cc)) e
keeps_sound s t (SubDelay w which) sound e = progress_keeps s sound (prgr.WatchSub w which) t (λ same. absurd (cc)) e
keeps_sound s t (LoadDelay k which) sound e = load_delay_keeps s sound k which t e
