-- Commands of a report's entries, the entries of its journal, and their replies.
use Rattle.report_text.proofs.Common.{◌≡◌, ℕ, Bool, true, false, ◌||◌, ◌==◌, List, [], ◌∷◌, ◌++◌, decimal, codes}
use Rattle.report_text.proofs.Common.{refl, ◌∙◌, arith, ◌<◌, length, Some, None, sym, ap, subst, map}
use Rattle.report_text.proofs.Common.{Texts, AllByRecursion, join_with_byte, flat_map, list_all, and_parts, and_from, Option, IfSome}
use Rattle.std.proofs.lemmas.List.Folds.{list_all-append}
use Rattle.report_text.proofs.Types.{AtomId, Mfa, Cmd, Load, Delete, SoftPurge, Doom, Purge, CheckOld, Put, Erase, Trace, Spawn, Release, Instances}
use Rattle.report_text.proofs.Types.{Reply, Line, End, Who, Loader, Runtime, Keys, Areas, Entry}
use Rattle.report_text.proofs.Texts.{IsNames, is_name_byte, plain, term_of, PlainTerm, atom_text, is_term_byte, name_bytes-decimal, plain-term_of}
use Rattle.report_text.proofs.Texts.{term_of-plain, some, bind_some, lacks, lacks-append, lacks-cons, IsItem, join-flat, switch_word, switch_reading}
use Rattle.report_text.proofs.Texts.{switch_is, switch_again, is_atom_text, some_is, bind_at, lacks-all, joined_lacks, parts_between, each_reading}
use Rattle.term_core.proofs.TermBytes.{name_bytes-atom as name_bytes}
use Rattle.server_core.specs.declared.command.ModRef.{ModRef}
use Rattle.report_text.proofs.Logs.{IsTermOf, mfa_text, plain_text, call_text, who_text, reference_text, switch_text, cmd_text, reply_text, end_text}
use Rattle.report_text.proofs.Logs.{IsWide, IsNamed, IsFunctionOf, IsCallOf, IsReferenceOf, IsCommandOf, IsReplyOf, IsWhoOf, IsLineOf, IsEndOf}
use Rattle.report_text.proofs.Logs.{limit_text, published_text, IsLingerOf, Agrees, IsEntryOf}
use Rattle.report_text.proofs.Forms.{shown_line_text, atom_reading, atom_command, on_atom_reading}
use Rattle.report_text.proofs.Forms.{worded_command, command_reading, cut_last, sided}
use Rattle.report_text.proofs.TermLaws.{atom_is_text, narrow_wide, atom, number, version, atom_is, named_lacks, decimal_lacks, digit_apart, narrow}
use Rattle.report_text.proofs.TermLaws.{cut_last_here, cut_last_is, text_back, term, text_of_it, function, function_lacks, call, call_of}
use Rattle.mod_text.proofs.Readers.{Reader, fitting, pair, made, made_again, row, name_is, word_is}
use Rattle.mod_text.proofs.Readers.{longer_is, made_is, closed, begun, sided_is, sided_again, closed_by}
use Rattle.server_core.specs.declared.command.Linger.{Linger}
use Rattle.server_core.specs.declared.command.Limit.{Limit}
use Rattle.server_core.specs.declared.command.Reply.TheVariants as replies
use Rattle.report_text.specs.ReplyReading.{limit_reading, atoms_reading, worded_reply, reply_reading, published_reading, agreed}
use Rattle.report_text.specs.declared.entry.Answer.{Answer}
use Rattle.report_text.specs.declared.entry.Made.{Made}
use Rattle.report_text.specs.EntryReading.{who_reading, command_front, entry_of}
use Rattle.machine_core.specs.declared.process.Line.TheVariants as shown
use Rattle.machine_core.specs.declared.process.End.TheVariants as ends

-- what may stand in a line, but for an equals sign and the sign of a generation
abbrev pub is_command_byte : ℕ → Bool
is_command_byte b = is_term_byte b || (b == 32 || (b == 40 || (b == 41 || (b == 46 || (b == 47 || b == 58)))))

-- the text has only such bytes
pub record IsPlainText (text : List ℕ) : Type 0 where
  pub all : list_all is_command_byte text ≡ true

left_true : (a b : Bool) → a ≡ true → (a || b) ≡ true
left_true true b h = refl
left_true false b h = absurd cc

weaker : (p q : ℕ → Bool) → ((b : ℕ) → p b ≡ true → q b ≡ true) → (text : List ℕ) → list_all p text ≡ true → list_all q text ≡ true
weaker p q h [] all = refl
weaker p q h (b ∷ text) all = let parts = and_parts (p b) (list_all p text) all in and_from _ _ (h b parts.0) (weaker p q h text parts.1)

pub of_terms : (text : List ℕ) → list_all is_term_byte text ≡ true → IsPlainText text
of_terms text h = record { all = weaker is_term_byte is_command_byte (λ b k. left_true (is_term_byte b) _ k) text h }

pub of_names : (text : List ℕ) → list_all is_name_byte text ≡ true → IsPlainText text
of_names text h = of_terms text (weaker is_name_byte is_term_byte (λ b k. left_true (is_name_byte b) _ k) text h)

pub both : (a b : List ℕ) → IsPlainText a → IsPlainText b → IsPlainText (a ++ b)
both a b h k = record { all = list_all-append is_command_byte a b ∙ and_from _ _ h.all k.all }

pub one_more : (c : ℕ) (b : List ℕ) → is_command_byte c ≡ true → IsPlainText b → IsPlainText (c ∷ b)
one_more c b h k = record { all = and_from _ _ h k.all }

pub atom_plain : (names : Texts) (a : AtomId) → IsNames names → IsNamed names a → IsPlainText (atom_text names a.0)
atom_plain names a sound h = of_names (atom_text names a.0) (name_bytes (atom_text names a.0) (atom_is_text names a sound h))

pub number_plain : (n : ℕ) → IsWide n → IsPlainText (decimal n)
number_plain n h = of_names (decimal n) (name_bytes-decimal n h)

module _ (names : Texts) where
  pub function_plain : (to : Mfa) → IsNames names → IsFunctionOf names to → IsPlainText (mfa_text names to)
  function_plain to sound h =
      both (atom_text names to.«module».0 ++ 58 ∷ atom_text names to.name.0) (47 ∷ decimal to.arity)
      (both (atom_text names to.«module».0) (58 ∷ atom_text names to.name.0) (atom_plain names to.«module» sound h.module_named) (one_more 58 _ refl (atom_plain names to.name sound h.name_named)))
      (one_more 47 _ refl (number_plain to.arity (omega (arith, h.few))))

  pub term_plain : (p : PlainTerm) → IsNames names → IsTermOf names p → IsPlainText (plain_text names p)
  term_plain p sound h = of_terms (plain_text names p) (text_back names p sound h).bytes

  terms_plain : IsNames names → (ps : List PlainTerm) → AllByRecursion (IsTermOf names) ps → IsPlainText (join_with_byte 44 (map (plain_text names) ps))
  terms_plain sound [] h = (record { all = refl })
  terms_plain sound (p ∷ []) h = term_plain p sound h.0
  terms_plain sound (p ∷ q ∷ qs) h = both (plain_text names p) _ (term_plain p sound h.0) (one_more 44 _ refl (terms_plain sound (q ∷ qs) h.1))

  pub call_plain : (to : Mfa) (args : List PlainTerm) → IsNames names → IsCallOf names to args → IsPlainText (call_text names to args)
  call_plain to args sound h =
      both ((atom_text names to.«module».0 ++ 58 ∷ atom_text names to.name.0) ++ 40 ∷ join_with_byte 44 (map (plain_text names) args)) (41 ∷ [])
      (both (atom_text names to.«module».0 ++ 58 ∷ atom_text names to.name.0) (40 ∷ join_with_byte 44 (map (plain_text names) args))
      (both (atom_text names to.«module».0) (58 ∷ atom_text names to.name.0) (atom_plain names to.«module» sound h.function.module_named) (one_more 58 _ refl (atom_plain names to.name sound h.function.name_named)))
      (one_more 40 _ refl (terms_plain sound args h.each)))
      (record { all = refl })

  reference_plain : IsNames names → (r : ModRef) → IsReferenceOf names r → IsPlainText (reference_text names r)
  reference_plain sound r h = both (atom_text names r.name.0) (46 ∷ decimal r.version) (atom_plain names r.name sound h.named) (one_more 46 _ refl (number_plain r.version (omega (arith, h.few))))

  references_plain : IsNames names → (refs : List ModRef) → AllByRecursion (IsReferenceOf names) refs → IsPlainText (flat_map (λ r. 32 ∷ reference_text names r) refs)
  references_plain sound [] h = (record { all = refl })
  references_plain sound (r ∷ rs) h = both (32 ∷ reference_text names r) _ (one_more 32 _ refl (reference_plain sound r h.0)) (references_plain sound rs h.1)

switch_plain : (on : Bool) → IsPlainText (switch_text on)
switch_plain true = (record { all = refl })
switch_plain false = (record { all = refl })

module _ (names : Texts) (sound : IsNames names) where
  -- a command
  pub command_plain : (c : Cmd) → IsCommandOf names c → IsPlainText (cmd_text names c)
  command_plain (Load refs) h = both (codes "load") _ (record { all = refl }) (references_plain names sound refs h.1)
  command_plain (Delete a) h = both (codes "delete ") _ (record { all = refl }) (atom_plain names a sound h)
  command_plain (SoftPurge a lingers) h = both (codes "soft_purge ") _ (record { all = refl }) (atom_plain names a sound h)
  command_plain (Doom a) h = both (codes "doom ") _ (record { all = refl }) (atom_plain names a sound h)
  command_plain (Purge a killed) h = both (codes "purge ") _ (record { all = refl }) (atom_plain names a sound h)
  command_plain (CheckOld a) h = both (codes "check_old ") _ (record { all = refl }) (atom_plain names a sound h)
  command_plain (Put key term) h = both (codes "put " ++ atom_text names key.0) _ (both (codes "put ") _ (record { all = refl }) (atom_plain names key sound h.key_named)) (one_more 32 _ refl (term_plain names (plain term) sound h.is_term))
  command_plain (Erase a) h = both (codes "erase ") _ (record { all = refl }) (atom_plain names a sound h)
  command_plain (Trace to on) h = both (codes "trace " ++ mfa_text names to) _ (both (codes "trace ") _ (record { all = refl }) (function_plain names to sound h)) (one_more 32 _ refl (switch_plain on))
  command_plain (Spawn to args) h = both (codes "spawn ") _ (record { all = refl }) (call_plain names to args sound h)
  command_plain (Release serial) h = both (codes "release ") _ (record { all = refl }) (number_plain serial h)

  atoms_plain : (atoms : List AtomId) → AllByRecursion (IsNamed names) atoms → IsPlainText (join_with_byte 44 (map (λ m. atom_text names m.0) atoms))
  atoms_plain [] h = (record { all = refl })
  atoms_plain (a ∷ []) h = atom_plain names a sound h.0
  atoms_plain (a ∷ b ∷ more) h = both (atom_text names a.0) _ (atom_plain names a sound h.0) (one_more 44 _ refl (atoms_plain (b ∷ more) h.1))

  -- a reply
  pub reply_plain : (r : Reply) → IsReplyOf names r → IsPlainText (reply_text names r)
  reply_plain (replies.FalseBy l) h = both (codes "false " ++ decimal l.process) _ (both (codes "false ") _ (record { all = refl }) (number_plain l.process (narrow_wide l.process h.process))) (one_more 32 _ refl (number_plain l.turn (narrow_wide l.turn h.turn)))
  reply_plain (replies.NotPurged atoms) h = both (codes "not_purged [" ++ join_with_byte 44 (map (λ m. atom_text names m.0) atoms)) (93 ∷ []) (both (codes "not_purged [") _ (record { all = refl }) (atoms_plain atoms h)) (record { all = refl })
  reply_plain (replies.Duplicated a) h = both (codes "duplicated ") _ (record { all = refl }) (atom_plain names a sound h)
  reply_plain (replies.SystemLimit Instances) h = (record { all = refl })
  reply_plain r h = (record { all = refl })

-- who made an entry
pub who_plain : (who : Who) → IsWhoOf who → IsPlainText (who_text who)
who_plain (Loader number) h = one_more 76 _ refl (number_plain number (narrow_wide number h))
who_plain Runtime h = (record { all = refl })

-- ---- commands of a report's entries

-- a command as it is read before its reply: none lingers and none was killed
abbrev pub bare : Cmd → Cmd
bare (Load refs) = Load refs
bare (Delete name) = Delete name
bare (SoftPurge name lingers) = SoftPurge name None
bare (Doom name) = Doom name
bare (Purge name killed) = Purge name false
bare (CheckOld name) = CheckOld name
bare (Put key term) = Put key term
bare (Erase key) = Erase key
bare (Trace target on) = Trace target on
bare (Spawn target args) = Spawn target args
bare (Release serial) = Release serial

-- ---- operands

pub reference_lacks : (byte : ℕ) (names : Texts) → IsNames names → is_name_byte byte ≡ false → (46 == byte) ≡ false → (r : ModRef) → IsReferenceOf names r → lacks byte (reference_text names r) ≡ true
reference_lacks byte names sound apart dot r h =
    lacks-append byte (atom_text names r.name.0) (46 ∷ decimal r.version) (named_lacks byte names r.name sound apart h.named)
    (lacks-cons byte 46 (decimal r.version) dot (decimal_lacks byte r.version (digit_apart byte apart) (omega (arith, h.few))))

module _ (names : Texts) (sound : IsNames names) where
  -- what a process showed
  pub shown_plain : (line : Line) → IsLineOf names line → IsPlainText (shown_line_text names line)
  shown_plain (shown.Print term) h = both (codes "print ") _ (record { all = refl }) (term_plain names (plain term) sound h)
  shown_plain (shown.Trace to args) h = both (codes "trace ") _ (record { all = refl }) (call_plain names to args sound h)

  -- an end
  pub end_plain : (fin : End) → IsEndOf names fin → IsPlainText (end_text names fin)
  end_plain (ends.Undef to) h = both (codes "undef ") _ (record { all = refl }) (function_plain names to sound h)
  end_plain (ends.Killed serial) h = both (codes "killed ") _ (record { all = refl }) (number_plain serial h)
  end_plain fin h = (record { all = refl })

  abbrev pub reference : Reader ModRef
  reference = made (pair 46 (atom names sound) version (λ a h. named_lacks 46 names a sound refl h)) (λ p. record { name = p.0; version = p.1 }) (λ r. (r.name, r.version)) (reference_text names) (IsReferenceOf names)
      (λ r. refl) (λ p h. refl) (λ r h. refl) (λ p h. record { named = h.0; some = h.1.0; few = h.1.1 }) (λ r h. (h.named, (h.some, h.few)))

  abbrev pub references : Reader (List ModRef)
  references = row 32 reference (λ r h. reference_lacks 32 names sound refl refl r h)

  abbrev pub keyed : Reader (AtomId × PlainTerm)
  keyed = pair 32 (atom names sound) (term names sound) (λ a h. named_lacks 32 names a sound refl h)

same_switch : (on : Bool) → switch_word on ≡ switch_text on
same_switch true = refl
same_switch false = refl

pub on_is : (text : List ℕ) (on : Bool) → switch_reading text ≡ Some on → IsItem switch_text (λ _. Unit {0}) text on
on_is text on e = record { text_is = switch_is text on e ∙ same_switch on; fits = tt }

pub on_again : (on : Bool) → Unit {0} → switch_reading (switch_text on) ≡ Some on
on_again on h = ap switch_reading (sym (same_switch on)) ∙ switch_again on

abbrev pub breakpoint : (names : Texts) → IsNames names → Reader (Mfa × Bool)
breakpoint names sound = pair 32 (function names sound) (fitting _ (λ _. Unit {0}) _ on_is on_again) (λ to h. function_lacks 32 names to sound refl refl refl h)

-- ---- commands

-- before its reply
pub record IsBare (names : Texts) (c : Cmd) : Type 0 where
  pub command : IsCommandOf names c
  pub bare_is : bare c ≡ c

load_shape : (names : Texts) (refs : List ModRef) → 0 < length refs → codes "load" ++ 32 ∷ join_with_byte 32 (map (reference_text names) refs) ≡ cmd_text names (Load refs)
load_shape names [] h = absurd (omega arith)
load_shape names (r ∷ rs) h = ap (λ (t : List ℕ). codes "load" ++ t) (join-flat (reference_text names) 32 r rs)

abbrev made_put : AtomId × PlainTerm → Cmd
made_put p = Put p.0 (term_of p.1)

on_atom_is : (names : Texts) (word text : List ℕ) (c : Cmd) → on_atom_reading names word text ≡ Some c → IsItem (cmd_text names) (IsBare names) (word ++ 32 ∷ text) c
on_atom_is names word text c e =
    let m = bind_some _ (atom_command word) c e in
    let is = atom_is names text m.0 m.1 in
    let around : List ℕ → List ℕ = λ w. w ++ 32 ∷ text in
    name_is around (cmd_text names) (IsBare names) (codes "delete") (Delete m.0) (ap (λ (t : List ℕ). codes "delete " ++ t) is.text_is) (record { command = is.fits; bare_is = refl }) word _ c m.2
    (λ e1. name_is around (cmd_text names) (IsBare names) (codes "soft_purge") (SoftPurge m.0 None) (ap (λ (t : List ℕ). codes "soft_purge " ++ t) is.text_is) (record { command = is.fits; bare_is = refl }) word _ c e1
    (λ e2. name_is around (cmd_text names) (IsBare names) (codes "doom") (Doom m.0) (ap (λ (t : List ℕ). codes "doom " ++ t) is.text_is) (record { command = is.fits; bare_is = refl }) word _ c e2
    (λ e3. name_is around (cmd_text names) (IsBare names) (codes "purge") (Purge m.0 false) (ap (λ (t : List ℕ). codes "purge " ++ t) is.text_is) (record { command = is.fits; bare_is = refl }) word _ c e3
    (λ e4. name_is around (cmd_text names) (IsBare names) (codes "check_old") (CheckOld m.0) (ap (λ (t : List ℕ). codes "check_old " ++ t) is.text_is) (record { command = is.fits; bare_is = refl }) word _ c e4
    (λ e5. name_is around (cmd_text names) (IsBare names) (codes "erase") (Erase m.0) (ap (λ (t : List ℕ). codes "erase " ++ t) is.text_is) (record { command = is.fits; bare_is = refl }) word None c e5
    (λ no. absurd cc))))))

worded_is : (names : Texts) → IsNames names → (word text : List ℕ) (c : Cmd) → worded_command names word text ≡ Some c → IsItem (cmd_text names) (IsBare names) (word ++ 32 ∷ text) c
worded_is names sound word text c e =
    word_is (references names sound) (λ refs. Load refs) (cmd_text names) (IsBare names) (codes "load") (λ refs h. load_shape names refs h.0) (λ refs h. record { command = h; bare_is = refl }) word text _ c e
    (λ e1. word_is (keyed names sound) made_put (cmd_text names) (IsBare names) (codes "put") (λ p h. ap (λ (t : List ℕ). codes "put " ++ (atom_text names p.0.0 ++ 32 ∷ t)) (sym (text_of_it names p.1)))
    (λ p h. record { command = record { key_named = h.0; is_term = subst (IsTermOf names) (sym (plain-term_of p.1)) h.1 }; bare_is = refl }) word text _ c e1
    (λ e2. word_is (breakpoint names sound) (λ p. Trace p.0 p.1) (cmd_text names) (IsBare names) (codes "trace") (λ p h. refl) (λ p h. record { command = h.0; bare_is = refl }) word text _ c e2
    (λ e3. word_is (call names sound) (λ to. Spawn to.target to.args) (cmd_text names) (IsBare names) (codes "spawn") (λ to h. refl) (λ to h. record { command = h; bare_is = refl }) word text _ c e3
    (λ e4. word_is number (λ serial. Release serial) (cmd_text names) (IsBare names) (codes "release") (λ serial h. refl) (λ serial h. record { command = h; bare_is = refl }) word text _ c e4
    (on_atom_is names word text c)))))

module _ (names : Texts) where
  pub command_is : IsNames names → (text : List ℕ) (c : Cmd) → command_reading names text ≡ Some c → IsItem (cmd_text names) (IsBare names) text c
  command_is sound text c e = longer_is (cmd_text names) (IsBare names) (worded_command names) (worded_is names sound) text c e

  load_again : IsNames names → (refs : List ModRef) → IsCommandOf names (Load refs) → command_reading names (cmd_text names (Load refs)) ≡ Some (Load refs)
  load_again sound refs h = ap (command_reading names) (sym (load_shape names refs h.0)) ∙ made_again (references names sound) (λ refs. Load refs) refs h

  -- the text of a command is read as it, before its reply
  pub command_again : IsNames names → (c : Cmd) → IsCommandOf names c → command_reading names (cmd_text names c) ≡ Some (bare c)
  command_again sound (Load refs) h = load_again sound refs h
  command_again sound (Delete a) h = made_again (atom names sound) (λ b. Delete b) a h
  command_again sound (SoftPurge a lingers) h = made_again (atom names sound) (λ b. SoftPurge b None) a h
  command_again sound (Doom a) h = made_again (atom names sound) (λ b. Doom b) a h
  command_again sound (Purge a killed) h = made_again (atom names sound) (λ b. Purge b false) a h
  command_again sound (CheckOld a) h = made_again (atom names sound) (λ b. CheckOld b) a h
  command_again sound (Put key it) h = made_again (keyed names sound) made_put (key, plain it) (h.key_named, h.is_term) ∙ ap (λ t. some (Put key t)) (term_of-plain it)
  command_again sound (Erase a) h = made_again (atom names sound) (λ b. Erase b) a h
  command_again sound (Trace to on) h = made_again (breakpoint names sound) (λ p. Trace p.0 p.1) (to, on) (h, tt)
  command_again sound (Spawn to args) h = made_again (call names sound) (λ c. Spawn c.target c.args) (call_of to args) h
  command_again sound (Release serial) h = made_again number (λ n. Release n) serial h

  pub bare_again : IsNames names → (c : Cmd) → IsBare names c → command_reading names (cmd_text names c) ≡ Some c
  bare_again sound c h = command_again sound c h.command ∙ ap (λ d. some d) h.bare_is

  abbrev pub command : IsNames names → Reader Cmd
  command sound = fitting _ (IsBare names) _ (command_is sound) (bare_again sound)

-- ---- entries of a report's journal, and their replies

-- ---- operands

abbrev pub linger : Reader Linger
linger = made (pair 32 narrow narrow (λ n h. decimal_lacks 32 n refl (narrow_wide n h))) (λ p. record { process = p.0; turn = p.1 }) (λ l. (l.process, l.turn)) (λ l. decimal l.process ++ 32 ∷ decimal l.turn) IsLingerOf
    (λ l. refl) (λ p h. refl) (λ l h. refl) (λ p h. record { process = h.0; turn = h.1 }) (λ l h. (h.process, h.turn))

abbrev atoms_text : Texts → List AtomId → List ℕ
atoms_text names atoms = join_with_byte 44 (map (λ m. atom_text names m.0) atoms)

nonempty_again : (names : Texts) (text : List ℕ) (o : Option (List AtomId)) → 0 < length text → each_reading (atom_reading names) (parts_between 44 text) ≡ o → atoms_reading names text ≡ o
nonempty_again names [] o h e = absurd (omega arith)
nonempty_again names (c ∷ text) o h e = e

atom_some : (text : List ℕ) → is_atom_text text ≡ true → 0 < length text
atom_some [] h = absurd cc
atom_some (c ∷ text) h = omega arith

joined_some : (a b : List ℕ) → 0 < length (a ++ 44 ∷ b)
joined_some [] b = omega arith
joined_some (c ∷ a) b = omega arith

pub atoms_lack : (byte : ℕ) (names : Texts) → IsNames names → is_name_byte byte ≡ false → (44 == byte) ≡ false → (atoms : List AtomId) → AllByRecursion (IsNamed names) atoms → lacks byte (atoms_text names atoms) ≡ true
atoms_lack byte names sound apart comma atoms h = joined_lacks (λ (m : AtomId). atom_text names m.0) (IsNamed names) 44 byte comma (λ m k. named_lacks byte names m sound apart k) atoms h

module _ (names : Texts) (sound : IsNames names) where
  -- at least one
  abbrev pub some_atoms : Reader (List AtomId)
  some_atoms = row 44 (atom names sound) (λ m h. named_lacks 44 names m sound refl h)

  pub atoms_are : (text : List ℕ) (atoms : List AtomId) → atoms_reading names text ≡ Some atoms → IsItem (atoms_text names) (AllByRecursion (IsNamed names)) text atoms
  atoms_are [] atoms e = subst (IsItem (atoms_text names) (AllByRecursion (IsNamed names)) []) (some_is [] atoms e) (record { text_is = refl; fits = tt })
  atoms_are (c ∷ text) atoms e = let is = some_atoms.is (c ∷ text) atoms e in record { text_is = is.text_is; fits = is.fits.1 }

  -- the text of atoms is not empty
  some_bytes : (a : AtomId) (more : List AtomId) → IsNamed names a → 0 < length (atoms_text names (a ∷ more))
  some_bytes a [] h = atom_some (atom_text names a.0) (atom_is_text names a sound h)
  some_bytes a (b ∷ more) h = joined_some (atom_text names a.0) (atoms_text names (b ∷ more))

  pub atoms_again : (atoms : List AtomId) → AllByRecursion (IsNamed names) atoms → atoms_reading names (atoms_text names atoms) ≡ Some atoms
  atoms_again [] h = refl
  atoms_again (a ∷ more) h = nonempty_again names (atoms_text names (a ∷ more)) (some (a ∷ more)) (some_bytes a more h.0) (some_atoms.again (a ∷ more) (omega arith, h))

  -- in brackets
  abbrev pub modules : Reader (List AtomId)
  modules = begun 91 (closed 93 (fitting (atoms_text names) (AllByRecursion (IsNamed names)) (atoms_reading names) atoms_are atoms_again) (λ atoms h. atoms_lack 93 names sound refl refl atoms h))

pub limit_is : (text : List ℕ) (l : Limit) → limit_reading text ≡ Some l → IsItem limit_text (λ _. Unit {0}) text l
limit_is text l e =
    name_is (λ w. w) limit_text (λ _. Unit {0}) (codes "instances") Instances refl tt text _ l e
    (λ e1. name_is (λ w. w) limit_text (λ _. Unit {0}) (codes "keys") Keys refl tt text _ l e1
    (λ e2. name_is (λ w. w) limit_text (λ _. Unit {0}) (codes "areas") Areas refl tt text None l e2 (λ no. absurd cc)))

pub limit_again : (l : Limit) → Unit {0} → limit_reading (limit_text l) ≡ Some l
limit_again Instances h = refl
limit_again l h = refl

abbrev pub limit : Reader Limit
limit = fitting _ (λ _. Unit {0}) _ limit_is limit_again

-- ---- replies

module _ (names : Texts) (sound : IsNames names) where
  worded_reply_is : (word text : List ℕ) (r : Reply) → worded_reply names word text ≡ Some r → IsItem (reply_text names) (IsReplyOf names) (word ++ 32 ∷ text) r
  worded_reply_is word text r e =
      word_is linger (λ l. replies.FalseBy l) (reply_text names) (IsReplyOf names) (codes "false") (λ l h. refl) (λ l h. h) word text _ r e
      (λ e1. word_is (modules names sound) (λ m. replies.NotPurged m) (reply_text names) (IsReplyOf names) (codes "not_purged") (λ m h. refl) (λ m h. h) word text _ r e1
      (λ e2. word_is (atom names sound) (λ a. replies.Duplicated a) (reply_text names) (IsReplyOf names) (codes "duplicated") (λ a h. refl) (λ a h. h) word text _ r e2
      (λ e3. word_is limit (λ l. replies.SystemLimit l) (reply_text names) (IsReplyOf names) (codes "system_limit") (λ l h. refl) (λ l h. tt) word text None r e3 (λ no. absurd cc))))

  pub reply_is : (text : List ℕ) (r : Reply) → reply_reading names text ≡ Some r → IsItem (reply_text names) (IsReplyOf names) text r
  reply_is text r e =
      name_is (λ w. w) (reply_text names) (IsReplyOf names) (codes "ok") replies.Ok refl tt text _ r e
      (λ e1. name_is (λ w. w) (reply_text names) (IsReplyOf names) (codes "true") replies.True refl tt text _ r e1
      (λ e2. name_is (λ w. w) (reply_text names) (IsReplyOf names) (codes "false") replies.False refl tt text _ r e2
      (longer_is (reply_text names) (IsReplyOf names) (worded_reply names) worded_reply_is text r)))

  pub reply_again : (r : Reply) → IsReplyOf names r → reply_reading names (reply_text names r) ≡ Some r
  reply_again (replies.FalseBy l) h = made_again linger (λ x. replies.FalseBy x) l h
  reply_again (replies.NotPurged atoms) h = made_again (modules names sound) (λ x. replies.NotPurged x) atoms h
  reply_again (replies.Duplicated a) h = made_again (atom names sound) (λ x. replies.Duplicated x) a h
  reply_again (replies.SystemLimit l) h = made_again limit (λ x. replies.SystemLimit x) l tt
  reply_again r h = refl

  abbrev pub reply : Reader Reply
  reply = fitting _ (IsReplyOf names) _ reply_is reply_again

-- ---- what was published

pub published_is : (text : List ℕ) (p : Option ℕ) → published_reading text ≡ Some p → IsItem published_text (λ q. IfSome q IsWide) text p
published_is text p e =
    name_is (λ w. w) published_text (λ q. IfSome q IsWide) (codes "-") None refl tt text _ p e
    (made_is (begun 64 number) (λ n. some n) published_text (λ q. IfSome q IsWide) [] (λ n h. refl) (λ n h. h) text p)

pub published_again : (p : Option ℕ) → IfSome p IsWide → published_reading (published_text p) ≡ Some p
published_again None h = refl
published_again (Some n) h = made_again (begun 64 number) (λ k. some k) n h

abbrev pub published : Reader (Option ℕ)
published = fitting _ (λ q. IfSome q IsWide) _ published_is published_again

-- ---- a command and its reply

-- with what the reply says, a command that fits still fits
pub agreed_fits : (names : Texts) (c : Cmd) (r : Reply) → IsCommandOf names c → IsCommandOf names (agreed c r)
agreed_fits names (Load refs) r h = h
agreed_fits names c r h = h

-- and the two agree
pub agreed_agrees : (c : Cmd) (r : Reply) → Agrees (agreed c r) r
agreed_agrees (SoftPurge name lingers) r = refl
agreed_agrees (Purge name killed) r = refl
agreed_agrees c r = tt

-- where they agree, the reply gives the command back
pub agreed_again : (c : Cmd) (r : Reply) → Agrees c r → agreed (bare c) r ≡ c
agreed_again (SoftPurge name lingers) r h = ap (λ l. SoftPurge name l) (sym h)
agreed_again (Purge name killed) r h = ap (λ k. Purge name k) (sym h)
agreed_again c r h = refl

-- ---- entries of a report's journal

-- ---- who made an entry

pub who_is : (text : List ℕ) (who : Who) → who_reading text ≡ Some who → IsItem who_text IsWhoOf text who
who_is text who e =
    name_is (λ w. w) who_text IsWhoOf (codes "rt") Runtime refl tt text _ who e
    (made_is (begun 76 narrow) (λ n. Loader n) who_text IsWhoOf [] (λ n h. refl) (λ n h. h) text who)

pub who_again : (who : Who) → IsWhoOf who → who_reading (who_text who) ≡ Some who
who_again (Loader number) h = made_again (begun 76 narrow) (λ n. Loader n) number h
who_again Runtime h = refl

pub who_lacks : (who : Who) → IsWhoOf who → lacks 32 (who_text who) ≡ true
who_lacks (Loader number) h = lacks-cons 32 76 (decimal number) refl (decimal_lacks 32 number refl (narrow_wide number h))
who_lacks Runtime h = refl

-- ---- an answer

published_lacks : (p : Option ℕ) → IfSome p IsWide → lacks 32 (published_text p) ≡ true
published_lacks None h = refl
published_lacks (Some n) h = lacks-cons 32 64 (decimal n) refl (decimal_lacks 32 n refl h)

abbrev pub IsAnswer : Texts → Answer → Type 0
IsAnswer names a = IsReplyOf names a.reply × IfSome a.published IsWide

module _ (names : Texts) (sound : IsNames names) where
  pub answered_is : (text : List ℕ) (p : Reply × Option ℕ) → sided (cut_last 32 text) (reply_reading names) published_reading ≡ Some p → IsItem (λ (q : Reply × Option ℕ). reply_text names q.0 ++ 32 ∷ published_text q.1) (λ (q : Reply × Option ℕ). IsReplyOf names q.0 × IfSome q.1 IsWide) text p
  answered_is text p e = sided_is 32 (reply names sound) published (cut_last 32 text) text (cut_last_is 32 text) p e

  pub answered_again : (p : Reply × Option ℕ) → IsReplyOf names p.0 × IfSome p.1 IsWide → sided (cut_last 32 (reply_text names p.0 ++ 32 ∷ published_text p.1)) (reply_reading names) published_reading ≡ Some p
  answered_again p h = sided_again (reply names sound) published (cut_last 32 (reply_text names p.0 ++ 32 ∷ published_text p.1)) p (cut_last_here 32 (reply_text names p.0) (published_text p.1) (published_lacks p.1 h.1)) h.0 h.1

  abbrev pub answer : Reader Answer
  answer = made (fitting (λ (q : Reply × Option ℕ). reply_text names q.0 ++ 32 ∷ published_text q.1) (λ q. IsReplyOf names q.0 × IfSome q.1 IsWide) (λ text. sided (cut_last 32 text) (reply_reading names) published_reading) answered_is answered_again)
      (λ p. record { reply = p.0; published = p.1 }) (λ a. (a.reply, a.published)) (λ a. reply_text names a.reply ++ 32 ∷ published_text a.published) (IsAnswer names) (λ a. refl) (λ p h. refl) (λ a h. refl) (λ p h. h) (λ a h. h)

-- ---- a command, with a space behind it

module _ (names : Texts) (sound : IsNames names) where
  pub front_is : (text : List ℕ) (c : Cmd) → command_front names text ≡ Some c → IsItem (λ (d : Cmd). cmd_text names d ++ 32 ∷ []) (IsBare names) text c
  front_is text c e = closed_by 32 (command names sound) (cut_last 32 text) text (cut_last_is 32 text) c e

  pub front_again : (c : Cmd) → IsBare names c → command_front names (cmd_text names c ++ 32 ∷ []) ≡ Some c
  front_again c h = bind_at _ _ _ _ (cut_last_here 32 (cmd_text names c) [] refl) (bare_again names sound c h)

  pub front_lacks : (c : Cmd) → IsBare names c → lacks 61 (cmd_text names c ++ 32 ∷ []) ≡ true
  front_lacks c h = lacks-append 61 (cmd_text names c) (32 ∷ []) (lacks-all is_command_byte 61 (cmd_text names c) refl (command_plain names sound c h.command).all) refl

  -- ---- an entry

  abbrev pub entry_made : Reader Made
  entry_made = made (pair 61 (fitting (λ (c : Cmd). cmd_text names c ++ 32 ∷ []) (IsBare names) _ front_is front_again) (begun 32 (answer names sound)) front_lacks)
      (λ p. record { cmd = p.0; answer = p.1 }) (λ m. (m.cmd, m.answer)) (λ m. (cmd_text names m.cmd ++ 32 ∷ []) ++ 61 ∷ (32 ∷ (reply_text names m.answer.reply ++ 32 ∷ published_text m.answer.published))) (λ m. IsBare names m.cmd × IsAnswer names m.answer)
      (λ m. refl) (λ p h. refl) (λ m h. refl) (λ p h. h) (λ m h. h)

-- the text of an entry behind its word, grouped as it is cut
abbrev pub entry_bytes : Texts → Entry → List ℕ
entry_bytes names e = who_text e.who ++ 32 ∷ ((cmd_text names e.cmd ++ 32 ∷ []) ++ 61 ∷ (32 ∷ (reply_text names e.reply ++ 32 ∷ published_text e.published)))

abbrev pub made_of : Entry → Made
made_of e = record { cmd = bare e.cmd; answer = record { reply = e.reply; published = e.published } }

bare_agreed : (c : Cmd) (r : Reply) → bare (agreed c r) ≡ bare c
bare_agreed (Load refs) r = refl
bare_agreed c r = refl

pub entry_turn : (who : Who) (m : Made) → bare m.cmd ≡ m.cmd → ◌≡◌ {A = Who × Made} (who, made_of (entry_of who m)) (who, m)
entry_turn who m h = let both : Cmd → Who × Made = λ c. (who, record m { cmd = c }) in ap both (bare_agreed m.cmd m.answer.reply ∙ h)

module _ (names : Texts) where
  bare_text : (c : Cmd) → cmd_text names c ≡ cmd_text names (bare c)
  bare_text (Load refs) = refl
  bare_text c = refl

  pub bare_fits : (c : Cmd) → IsCommandOf names c → IsBare names (bare c)
  bare_fits (Load refs) h = record { command = h; bare_is = refl }
  bare_fits c h = record { command = h; bare_is = refl }

  pub entry_shape : (e : Entry) → entry_bytes names e ≡ who_text e.who ++ 32 ∷ ((cmd_text names (bare e.cmd) ++ 32 ∷ []) ++ 61 ∷ (32 ∷ (reply_text names e.reply ++ 32 ∷ published_text e.published)))
  entry_shape e = ap (λ (t : List ℕ). who_text e.who ++ 32 ∷ ((t ++ 32 ∷ []) ++ 61 ∷ (32 ∷ (reply_text names e.reply ++ 32 ∷ published_text e.published)))) (bare_text e.cmd)

  pub entry_back : (e : Entry) → IsEntryOf names e → entry_of e.who (made_of e) ≡ e
  entry_back e h = ap (λ (c : Cmd). record e { cmd = c }) (agreed_again e.cmd e.reply h.agrees)

  abbrev pub entry : IsNames names → Reader Entry
  entry sound = made (pair 32 (fitting who_text IsWhoOf who_reading who_is who_again) (entry_made names sound) who_lacks) (λ p. entry_of p.0 p.1) (λ e. (e.who, made_of e)) (entry_bytes names) (IsEntryOf names)
      entry_shape (λ p h. entry_turn p.0 p.1 h.1.0.bare_is) entry_back
      (λ p h. record { who = h.0; command = agreed_fits names p.1.cmd p.1.answer.reply h.1.0.command; reply = h.1.1.0; agrees = agreed_agrees p.1.cmd p.1.answer.reply; published = h.1.1.1 })
      (λ e h. (h.who, (bare_fits e.cmd h.command, (h.reply, h.published))))
