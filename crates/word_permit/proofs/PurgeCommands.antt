-- Soft purges and purges as commands: which they are, by what they end, and what such an end tells.
use Rattle.std.proofs.Common.{◌≡◌, ℕ, Bool, true, false, List, [], ◌∷◌, Option, Some, None, IfSome, IsSomeAnd, option_map, if◌then◌else◌, refl, sym, ap, subst, ◌∙◌}
use Rattle.std.proofs.lemmas.Bool.{false≢true}
use Rattle.std.proofs.lemmas.Option.{none-some, same_Some}
use Rattle.term_core.specs.declared.atom.AtomId.{AtomId}
use Rattle.term_core.specs.declared.atom.Mfa.{Mfa}
use Rattle.marks.specs.declared.kept.LookKind.TheVariants.{Frame}
use Rattle.marks.specs.declared.kept.WriterKept.{WriterKept}
use Rattle.shared_words.specs.declared.view.WriterView.{WriterView}
use Rattle.shared_words.specs.Drops.{drop_of}
use Rattle.shared_words.specs.Views.{newest_number}
use Rattle.anchors.specs.declared.answers.Scan.TheVariants as scans
use Rattle.server_core.specs.declared.command.Cmd.{Cmd}
use Rattle.server_core.specs.declared.command.Cmd.TheVariants as cmds
use Rattle.server_core.specs.declared.command.Linger.{Linger}
use Rattle.server_core.specs.declared.command.Reply.TheVariants as replies
use Rattle.server_core.specs.CommandTable.{Outcome, purge_of, soft_purge_of, unchanged, while_none_doomed}
use Rattle.server_core.specs.ServerState.{ServerState, old_of}
use Rattle.mod_core.specs.declared.code.Module.{Module}
use Rattle.script_core.specs.declared.script.ScriptCmd.{ScriptCmd}
use Rattle.script_core.specs.declared.script.ScriptCmd.TheVariants.{Load, Delete, Put, Erase, Trace, Spawn, CheckOld, Purge, SoftPurge}
use Rattle.run_log.proofs.SpanRuns.{some_and, some_at}
use Rattle.run_law.specs.Answers.{HasDrop, HasLingering, HasPurge}
use Rattle.staging.specs.declared.tables.Tables.{Tables}
use Rattle.write_permit.specs.declared.book.Book.{Book}
use Rattle.write_permit.specs.declared.commands.OldCode.{OldCode}
use Rattle.write_permit.specs.declared.holder.Holder.{Holder}
use Rattle.write_permit.specs.declared.holder.Holder.TheVariants.{Free, Held, Purging, Tracing}
use Rattle.write_permit.specs.Book.{EndsBy, HoldsJust, IsBook, PurgeWaits, TraceWaits, shown}
use Rattle.write_permit.specs.Permit.{PermitState, command_opening, holder_of, lingering, needs_permission, next_of, purged_code}
use Rattle.write_permit.proofs.EndBooks.{open_ends}
use Rattle.write_permit.proofs.Ends.{code_of_module}
use Rattle.word_permit.specs.declared.book.Waiting.{Waiting}
use Rattle.word_permit.specs.declared.book.WordBook.{WordBook}
use Rattle.word_permit.specs.declared.purging.Purged.{Purged}
use Rattle.word_permit.specs.declared.purging.Purged.TheVariants.{Softly, Wholly}
use Rattle.word_permit.specs.Answers.{IsDropAt}
use Rattle.word_permit.specs.Books.{SpawnsNone}
use Rattle.word_permit.specs.Looks.{HasLooked, before_look}
use Rattle.word_permit.specs.Purged.{EndsNext, HasBegun, IsToldBy, IsToldByDrop, LeavesServer, Purges, is_purge, purged_by, purging_command}
use Rattle.word_permit.specs.Waiting.{GoesOverWords, WordsStand}
use Rattle.word_permit.proofs.Told.{drop_told, purge_told}

-- ---- which commands

-- while a soft purge or a purge is the next command of the loader that has the permission, no other one waits
pub none_waits : (names : List Mfa) (p : PermitState) (t : Tables) (o : Option Waiting) (who : ℕ) → holder_of p.holder ≡ Some who → Purges p who → WordsStand names p t o → o ≡ None
none_waits names p t None who holds purges h = refl
none_waits names p t (Some w) who holds purges h =
    let same : h.who ≡ who = same_Some h.who who (sym (ap holder_of h.holder) ∙ holds) in
    let next : next_of p who ≡ Some h.decided.command = ap (next_of p) (sym same) ∙ h.decided.next in
    absurd (goes_no_purge h.decided.command h.decided.goes (subst (λ o. IsSomeAnd o (λ command. is_purge command ≡ true)) next purges))
  where
    goes_no_purge : (command : ScriptCmd) → GoesOverWords command → is_purge command ≡ true → ⊥
    goes_no_purge (Load refs) goes h = false≢true h
    goes_no_purge (Delete name) goes h = false≢true h
    goes_no_purge (Put key term) goes h = false≢true h
    goes_no_purge (Erase key) goes h = false≢true h
    goes_no_purge (Trace target on) goes h = false≢true h
    goes_no_purge command goes h = absurd goes

-- the loader that has the permission has a next command, which needs it
pub needs_next : (p : PermitState) (h : Holder) (who : ℕ) → HoldsJust p h → holder_of h ≡ Some who → IsSomeAnd (next_of p who) (λ command. needs_permission command ≡ true)
needs_next p Free who holds own = absurd (none-some who own)
needs_next p (Held n) who holds own = subst (λ k. IsSomeAnd (next_of p k) (λ command. needs_permission command ≡ true)) (same_Some n who own) holds.next
needs_next p (Tracing n generation) who holds own =
    some_at (next_of p who) (λ command. needs_permission command ≡ true) (Trace holds.target holds.on) (ap (next_of p) (sym (same_Some n who own)) ∙ holds.next) refl
needs_next p (Purging n name) who holds own = some_at (next_of p who) (λ command. needs_permission command ≡ true) (Purge name) (ap (next_of p) (sym (same_Some n who own)) ∙ holds.next) refl

-- while a trace goes on, no purge is the next command
pub tracing_apart : (p : PermitState) (n generation who : ℕ) (purged : Purged) → TraceWaits p n generation → n ≡ who → next_of p who ≡ Some (purging_command purged) → ⊥
tracing_apart p n generation who purged holds own next = apart purged (same_Some (Trace holds.target holds.on) (purging_command purged) (sym (ap (next_of p) (sym own) ∙ holds.next) ∙ next))
  where
    apart : (purged : Purged) → Trace holds.target holds.on ≡ purging_command purged → ⊥
    apart (Softly name) e = cc
    apart (Wholly name) e = cc

-- what it purges, as it is told
pub some_purged : (o : Option ScriptCmd) (command : ScriptCmd) (told : Option Purged) → o ≡ Some command → told ≡ purged_by command → IfSome told (λ purged. o ≡ Some (purging_command purged))
some_purged o command told is same = subst (λ x. IfSome x (λ purged. o ≡ Some (purging_command purged))) (sym same) (by command is)
  where
    by : (command : ScriptCmd) → o ≡ Some command → IfSome (purged_by command) (λ purged. o ≡ Some (purging_command purged))
    by (SoftPurge name) e = e
    by (Purge name) e = e
    by _ e = tt

pub none_purged : (o : Option ScriptCmd) (command : ScriptCmd) (told : Option Purged) → o ≡ Some command → IsSomeAnd o (λ x. needs_permission x ≡ true) → told ≡ purged_by command → told ≡ None → IsSomeAnd o GoesOverWords
none_purged o command told is needs same none =
    subst (λ x. IsSomeAnd x GoesOverWords) (sym is) (by command (subst (λ x. IsSomeAnd x (λ y. needs_permission y ≡ true)) is needs) (sym same ∙ none))
  where
    by : (command : ScriptCmd) → needs_permission command ≡ true → purged_by command ≡ None → GoesOverWords command
    by (SoftPurge name) needs e = absurd (none-some (Softly name) (sym e))
    by (Purge name) needs e = absurd (none-some (Wholly name) (sym e))
    by (Spawn target args) needs e = absurd (false≢true needs)
    by (CheckOld name) needs e = absurd (false≢true needs)
    by _ needs e = tt

-- it is a soft purge or a purge
pub purges_next : (o : Option ScriptCmd) (purged : Purged) → o ≡ Some (purging_command purged) → IsSomeAnd o (λ x. is_purge x ≡ true)
purges_next o purged is = subst (λ x. IsSomeAnd x (λ y. is_purge y ≡ true)) (sym is) (by purged)
  where
    by : (purged : Purged) → is_purge (purging_command purged) ≡ true
    by (Softly name) = refl
    by (Wholly name) = refl

pub next_purges : (p : PermitState) (who : ℕ) (command : ScriptCmd) → next_of p who ≡ Some command → is_purge command ≡ true → Purges p who
next_purges p who command next passes = some_at (next_of p who) (λ x. is_purge x ≡ true) command next passes

-- the old code that it purges
pub code_none : (s : ServerState) (name : AtomId) → purged_code s (Purge name) ≡ None → old_of s name.0 ≡ None
code_none s name h = by (old_of s name.0) h
  where
    by : (o : Option ℕ) → option_map {U = OldCode} (λ serial. record { «module» = name; serial = serial }) o ≡ None → o ≡ None
    by None e = refl
    by (Some serial) e = absurd (none-some _ (sym e))

pub module_found : (s : ServerState) (name : AtomId) (code : OldCode) → purged_code s (Purge name) ≡ Some code → name ≡ code.«module»
module_found s name code found = code_of_module s name code found

pub held_holds : (b : Book) (who : ℕ) → b.holder ≡ Held who → holder_of b.holder ≡ Some who
held_holds b who held = ap holder_of held

pub purging_holds : (b : Book) (who : ℕ) (name : AtomId) → b.holder ≡ Purging who name → holder_of b.holder ≡ Some who
purging_holds b who name held = ap holder_of held

-- one command is not both
pub goes_apart : (o : Option ScriptCmd) → IsSomeAnd o GoesOverWords → IsSomeAnd o (λ x. is_purge x ≡ true) → ⊥
goes_apart None goes purges = absurd goes
goes_apart (Some (Load refs)) goes purges = false≢true purges
goes_apart (Some (Delete name)) goes purges = false≢true purges
goes_apart (Some (Put key term)) goes purges = false≢true purges
goes_apart (Some (Erase key)) goes purges = false≢true purges
goes_apart (Some (Trace target on)) goes purges = false≢true purges
goes_apart (Some command) goes purges = absurd goes

-- a purge of old code in its second half is the loader's next command
pub second_next : (b : Book) (known : IsBook b) (who : ℕ) (code : OldCode) → b.holder ≡ Purging who code.«module» → next_of (shown b) who ≡ Some (Purge code.«module»)
second_next b known who code held = let k : PurgeWaits (shown b) who code.«module» = subst (HoldsJust (shown b)) held known.permit.holds in k.next

-- ---- whether it has begun

-- a soft purge is none that dooms
pub soft_begun : (b : WordBook) (who : ℕ) (name : AtomId) → next_of (shown b.plain) who ≡ Some (SoftPurge name) → HasBegun who b
soft_begun b who name next other is = absurd (apart (same_Some (SoftPurge name) (Purge other) (sym next ∙ is)))
  where
    apart : SoftPurge name ≡ Purge other → ⊥
    apart e = cc

-- a purge in its second half has doomed its code
pub second_begun : (b : WordBook) (who : ℕ) (name : AtomId) → b.plain.holder ≡ Purging who name → next_of (shown b.plain) who ≡ Some (Purge name) → HasBegun who b
second_begun b who name held next other is = held ∙ ap (Purging who) (same_Some name other (ap name_of (same_Some (Purge name) (Purge other) (sym next ∙ is))))
  where
    name_of : ScriptCmd → Option AtomId
    name_of (Purge purged) = Some purged
    name_of command = None

-- ---- the last command of the server

module _ (b : Book) (who : ℕ) (name : AtomId) (held : b.holder ≡ Held who) where
  -- a soft purge ends as no process lingers
  pub soft_ends : next_of (shown b) who ≡ Some (SoftPurge name) → EndsNext (shown b) who (cmds.SoftPurge name None)
  soft_ends next = open_ends b who (SoftPurge name) [] (cmds.SoftPurge name None) held next refl (ap (cmds.SoftPurge name) (sym (none_lingers (old_of b.server name.0))))
    where
      none_lingers : (o : Option ℕ) → lingering [] o ≡ None
      none_lingers None = refl
      none_lingers (Some serial) = refl

  -- or as one does
  pub linger_ends : (serial : ℕ) (l : Linger) → next_of (shown b) who ≡ Some (SoftPurge name) → old_of b.server name.0 ≡ Some serial → EndsNext (shown b) who (cmds.SoftPurge name (Some l))
  linger_ends serial l next old =
      open_ends b who (SoftPurge name) (l ∷ []) (cmds.SoftPurge name (Some l)) held next refl (ap (cmds.SoftPurge name) (sym (ap (lingering (l ∷ [])) old)))

  -- a purge of no code ends at once
  pub whole_ends : next_of (shown b) who ≡ Some (Purge name) → old_of b.server name.0 ≡ None → EndsNext (shown b) who (cmds.Purge name false)
  whole_ends next none = open_ends b who (Purge name) [] (cmds.Purge name false) held next (ap (option_map {U = OldCode} (λ serial. record { «module» = name; serial = serial })) none) refl

-- where nothing is doomed
leaves_free : (s : ServerState) (x : Outcome) (o : Outcome) → (b : Bool) → (if b then None else Some x) ≡ Some o → x ≡ o
leaves_free s x o true h = absurd (none-some o h)
leaves_free s x o false h = same_Some x o h

-- they leave the server
pub soft_leaves : (texts : List Module) (s : ServerState) (name : AtomId) → old_of s name.0 ≡ None → LeavesServer texts s (cmds.SoftPurge name None)
soft_leaves texts s name none o h =
    let is = leaves_free s (unchanged s replies.True) o _ (sym (ap (λ x. while_none_doomed s (soft_purge_of s name.0 None x)) none) ∙ h) in
    (ap (λ (x : Outcome). x.state) (sym is), ap (λ (x : Outcome). x.answer.published) (sym is))

pub linger_leaves : (texts : List Module) (s : ServerState) (name : AtomId) (serial : ℕ) (l : Linger) → old_of s name.0 ≡ Some serial → LeavesServer texts s (cmds.SoftPurge name (Some l))
linger_leaves texts s name serial l old o h =
    let is = leaves_free s (unchanged s (replies.FalseBy l)) o _ (sym (ap (λ x. while_none_doomed s (soft_purge_of s name.0 (Some l) x)) old) ∙ h) in
    (ap (λ (x : Outcome). x.state) (sym is), ap (λ (x : Outcome). x.answer.published) (sym is))

pub whole_leaves : (texts : List Module) (s : ServerState) (name : AtomId) → old_of s name.0 ≡ None → LeavesServer texts s (cmds.Purge name false)
whole_leaves texts s name none o h =
    let is = leaves_free s (unchanged s replies.False) o _ (sym (ap (purge_of s name.0 false) none) ∙ h) in
    (ap (λ (x : Outcome). x.state) (sym is), ap (λ (x : Outcome). x.answer.published) (sym is))

-- and tell nothing of processes, where there is no old code
pub soft_tells : (s : ServerState) (w : WriterView) (kept : WriterKept) (name : AtomId) → old_of s name.0 ≡ None → IsToldBy s w kept (cmds.SoftPurge name None)
soft_tells s w kept name none = subst (λ (o : Option ℕ). IfSome o (λ serial. HasDrop kept Frame serial (newest_number w.published))) (sym none) tt

pub whole_tells : (s : ServerState) (w : WriterView) (kept : WriterKept) (name : AtomId) → old_of s name.0 ≡ None → IsToldBy s w kept (cmds.Purge name false)
whole_tells s w kept name none = subst (λ (o : Option ℕ). IfSome o (λ serial. HasPurge kept serial (newest_number w.published) false)) (sym none) tt

-- a process that lingers is told of
pub linger_tells : (s : ServerState) (w : WriterView) (kept : WriterKept) (name : AtomId) (serial : ℕ) (l : Linger) → old_of s name.0 ≡ Some serial → HasLingering kept serial (newest_number w.published) l → IsToldBy s w kept (cmds.SoftPurge name (Some l))
linger_tells s w kept name serial l old has = subst (λ (o : Option ℕ). IfSome o (λ n. HasLingering kept n (newest_number w.published) l)) (sym old) has

-- the drop is this one
drop_is : (s : ServerState) (w : WriterView) (name : AtomId) (serial : ℕ) → old_of s name.0 ≡ Some serial → IsSomeAnd (old_of s name.0) (λ n. IsDropAt Frame n (newest_number w.published) (drop_of w Frame serial))
drop_is s w name serial old = subst (λ (o : Option ℕ). IsSomeAnd o (λ n. IsDropAt Frame n (newest_number w.published) (drop_of w Frame serial))) (sym old) (record { kind_is = refl; serial_is = refl; published_is = refl })

-- a drop is told of by a soft purge
pub soft_told : (s : ServerState) (w : WriterView) (name : AtomId) (serial : ℕ) → old_of s name.0 ≡ Some serial → IsToldByDrop s w serial (cmds.SoftPurge name None)
soft_told s w name serial old =
    (λ kept is agree. subst (λ (o : Option ℕ). IfSome o (λ n. HasDrop kept Frame n (newest_number w.published))) (sym old) (drop_told w kept serial is), drop_is s w name serial old)

-- and by a purge, with whom the code has killed
pub whole_told : (s : ServerState) (w : WriterView) (name : AtomId) (serial : ℕ) (killed : Bool) → old_of s name.0 ≡ Some serial → HasLooked serial w (scans.Clear killed) → IsToldByDrop s w serial (cmds.Purge name killed)
whole_told s w name serial killed old looked = (
  λ kept is agree.
      subst (λ (o : Option ℕ). IfSome o (λ n. HasPurge kept n (newest_number w.published) killed)) (sym old) (purge_told (before_look looked.0 w) w serial killed looked.1.cause.0 agree kept is),
  drop_is s w name serial old,
)

-- ---- what ends makes no process

opening_spawnless : (s : ServerState) (among : List Linger) (command : ScriptCmd) → needs_permission command ≡ true → SpawnsNone (command_opening s among command)
opening_spawnless s among (Spawn target args) needs = false≢true needs
opening_spawnless s among command needs = tt

pub ends_spawnless : (p : PermitState) (who : ℕ) (cmd : Cmd) → HoldsJust p p.holder → holder_of p.holder ≡ Some who → EndsNext p who cmd → SpawnsNone cmd
ends_spawnless p who cmd holds own ends = by p.holder d.0 (subst (λ (o : Option ScriptCmd). IsSomeAnd o (λ command. needs_permission command ≡ true)) d.1.0 (needs_next p p.holder who holds own)) d.1.1
  where
    d : (command : ScriptCmd) × ((next_of p who ≡ Some command) × EndsBy p p.holder command cmd)
    d = some_and (next_of p who) (λ command. EndsBy p p.holder command cmd) ends

    by : (holder : Holder) (command : ScriptCmd) → needs_permission command ≡ true → EndsBy p holder command cmd → SpawnsNone cmd
    by Free command needs ends_so = absurd ends_so
    by (Held n) command needs ends_so = subst SpawnsNone (sym ends_so.1.1) (opening_spawnless p.server ends_so.1.0 command needs)
    by (Purging n name) command needs ends_so = subst SpawnsNone (sym ends_so.1) tt
    by (Tracing n generation) command needs ends_so = absurd ends_so
