-- The steps of a leader keep the rule: taking and giving up the lead, looking at a member's word, raising the counter.
use Rattle.std.proofs.Common.{◌≡◌, ℕ, suc, ◌+◌, ◌-◌, ◌<◌, ◌≤◌, inl, inr, Bool, true, false, cond, ◌&&◌, List, ◌∷◌, length, set, get_or-set_other, get_or-set_same, refl, sym, ap, subst, ◌∙◌, arith, ne_eqb}
use mathlib.Core.Option.{none, some}
use lib.ListN.{get_elem?}
use lib.Seq.{set-get_or}
use prog.Atomic.{either}
use Rattle.std.specs.Prelude.{Some, None, Option, slice_get, slice_index, is_none, ◌==◌}
use Rattle.std.specs.Option.{option_and_then}
use Rattle.atomic_table.specs.Table.{State, keeps, step, Allows}
use Rattle.prgr_core.specs.declared.member.Member as machines
use Rattle.prgr_core.specs.declared.member.Role.{Role}
use Rattle.prgr_core.specs.declared.member.Role.TheVariants.{Follows, Leads}
use Rattle.prgr_core.specs.declared.member.Scans.{Scans}
use Rattle.prgr_core.specs.declared.progress.Progress.{Progress}
use Rattle.prgr_core.specs.declared.event.PrgrEvent.{PrgrEvent}
use Rattle.prgr_core.specs.declared.event.PrgrEvent.TheVariants as prgr
use Rattle.prgr_core.specs.Members as members
use Rattle.prgr_core.specs.Members.{IsLeading}
use Rattle.prgr_core.specs.Step.{after, with_member, by_role, led, given_up}
use Rattle.area_core.specs.declared.table.Published.{Published}
use Rattle.shared_words.specs.declared.table.TheConstants.{COUNTER, LEAD, DELAYS, CONFIRMED}
use Rattle.shared_words.specs.declared.opening.Opening.{Opening}
use Rattle.shared_words.specs.declared.view.FoundWord.{FoundWord}
use Rattle.shared_words.specs.declared.view.FoundWord.TheVariants.{LeaderWord}
use Rattle.shared_words.specs.declared.view.MemberView.{MemberView}
use Rattle.shared_words.specs.declared.view.WriterView.{WriterView}
use Rattle.shared_words.specs.declared.view.View.{View}
use Rattle.shared_words.specs.declared.view.View.TheVariants.{Member}
use Rattle.shared_words.specs.Shown.{leader_in, progress_of}
use Rattle.shared_words.specs.Seats.{member_of}
use Rattle.shared_words.specs.Kinds.{Sat, IsLeader, MayLead, lead_found, lead_taken, lead_given, lead_dropped}
use Rattle.shared_words.specs.Rule.{MemberKnows, RunningRule}
use Rattle.shared_words.proofs.ShownMembers.{shown_at, shown_length, there, set_same}
use Rattle.shared_words.proofs.SlotFrames.{goes_on}
use Rattle.shared_words.proofs.Frames.{after_step, same_rest, stored_front, progress_set, progress_words, member_step}
use Rattle.shared_words.proofs.MemberStores.{seat_of}

-- the member with this record, once these words were found
abbrev pub with_record : MemberView → machines.Member → List FoundWord → MemberView
with_record m a found = record m { member = a; found = found }

-- a member whose record has the same number and generation knows what it knew
pub still_knows : (w : WriterView) (k : ℕ) (m : MemberView) (a : machines.Member) (found : List FoundWord) → a.number ≡ m.member.number → a.generation ≡ m.member.generation → MemberKnows w k m → MemberKnows w k (with_record m a found)
still_knows w k m a found number generation knows = record {
  numbered = number ∙ knows.numbered;
  made = knows.made;
  seen = knows.seen;
  holds = subst (λ (g : ℕ). g < length m.seen) (sym generation) knows.holds;
  noted = knows.noted;
  own_slots = knows.own_slots;
  words = knows.words;
}

module _ {Served : Published → Type 0} {opening : Opening} (s : State (Unit {0}) View) (r : RunningRule Served opening s) where
  -- a store of the counter or of the leader's word, which is an event of a member that keeps its word
  pub machine_store : (i x : ℕ) → 0 < i → i < DELAYS → (i ≡ COUNTER → slice_index s.words COUNTER ≤ x) → (c l : ℕ) → slice_index (set s.words i x) COUNTER ≡ c → slice_index (set s.words i x) LEAD ≡ l → l ≤ length r.writer.members
      → (k : ℕ) (m : MemberView) (a : machines.Member) (found : List FoundWord) (event : PrgrEvent) → get_elem? r.seats k ≡ some (Member m) → a.number ≡ m.member.number → a.generation ≡ m.member.generation → a.word ≡ m.member.word
      → after (progress_of s.words r.writer r.seats) event ≡ Some (record (with_member (progress_of s.words r.writer r.seats) k a) { counter = c; leader = leader_in l })
      → RunningRule Served opening (after_step s (set s.words i x) (suc k) (Member (with_record m a found)))
  machine_store i x first low later c l counter lead small k m a found event at number generation word made =
      let knows = r.each_seat k (Member m) at in
      let size = r.words.all in
      let words' : List ℕ = set s.words i x in
      let same = progress_words s.words words' r.writer r.seats c l counter lead (get_or-set_other s.words i DELAYS x 0 (λ e. absurd (omega arith))) (get_or-set_other s.words i (DELAYS + 1) x 0 (λ e. absurd (omega arith))) in
      let m' = with_record m a found in
      member_step s r words' k m m' at (record {
        rest = stored_front s.words i x first (omega arith) (omega arith) later;
        knows = still_knows r.writer k m a found number generation knows;
        moves = inl (event, made ∙ ap (λ (p : Progress). Some (with_member p k a)) (sym same) ∙ ap (λ (p : Progress). Some p) (sym (progress_set words' r.writer r.seats k m' knows.made (there r.seats k (Member m) at))));
        own = get_or-set_other s.words i (CONFIRMED + k) x 0 (λ e. absurd (omega arith)) ∙ r.machine.own_words k m.member (shown_at r.writer.members r.seats k m knows.made at) ∙ sym word;
        others = λ j other. get_or-set_other s.words i (CONFIRMED + j) x 0 (λ e. absurd (omega arith));
        leader = subst (λ (n : ℕ). n ≤ length r.writer.members) (sym lead) small;
        slots = goes_on r.writer m a found word generation;
      })

  -- a step of a member that only finds words
  pub found_step : (k : ℕ) (m : MemberView) (found : List FoundWord) → get_elem? r.seats k ≡ some (Member m) → RunningRule Served opening (after_step s s.words (suc k) (Member (with_record m m.member found)))
  found_step k m found at =
      let knows = r.each_seat k (Member m) at in
      let p = progress_of s.words r.writer r.seats in
      let shown = shown_at r.writer.members r.seats k m knows.made at in
      let m' = with_record m m.member found in
      member_step s r s.words k m m' at (record {
        rest = same_rest s.words;
        knows = still_knows r.writer k m m.member found refl refl knows;
        moves = inr (progress_set s.words r.writer r.seats k m' knows.made (there r.seats k (Member m) at) ∙ (λ i. record p { members = set_same p.members k m.member shown i }));
        own = r.machine.own_words k m.member shown;
        others = λ j other. refl;
        leader = r.machine.leader_made;
        slots = goes_on r.writer m m.member found refl refl;
      })

-- ---- the lead

-- who leads by its word
leader_is : (k : ℕ) → leader_in (k + 1) ≡ Some k
leader_is k =
    let apart : (k + 1 == 0) ≡ false = ne_eqb (k + 1) 0 (λ e. absurd (omega arith)) in
    let back : k + 1 - 1 ≡ k = omega arith in
    ap (λ (t : Bool). cond t None (Some (k + 1 - 1))) apart ∙ ap (λ (n : ℕ). Some n) back

nobody_leads : (word : ℕ) → (word == 0) ≡ true → leader_in word ≡ None
nobody_leads word is = ap (λ (t : Bool). cond t None (Some (word - 1))) is

lead_event : (p : Progress) (k : ℕ) (a : machines.Member) → slice_get p.members k ≡ Some a → p.leader ≡ None → members.is_value a.word ≡ true → after p (prgr.Lead k) ≡ Some (led p k a)
lead_event p k a at nobody awake =
    ap (option_and_then (λ (member : machines.Member). cond (is_none p.leader && members.is_value member.word) (Some (led p k member)) None)) at
    ∙ ap (λ (o : Option ℕ). cond (is_none o && members.is_value a.word) (Some (led p k a)) None) nobody
    ∙ ap (λ (t : Bool). cond t (Some (led p k a)) None) awake

give_up_event : (p : Progress) (k : ℕ) (a : machines.Member) → slice_get p.members k ≡ Some a → (role : Role) → a.role ≡ role → IsLeading role → after p (prgr.GiveUp k) ≡ Some (given_up p k a)
give_up_event p k a at Follows is leads = absurd leads
give_up_event p k a at (Leads scans) is leads =
    ap (option_and_then (λ (member : machines.Member). by_role member.role (λ (sc : Scans). Some (given_up p k member)))) at
    ∙ ap (λ (role : Role). by_role role (λ (sc : Scans). Some (given_up p k a))) is

module _ {Served : Published → Type 0} {opening : Opening} (s : State (Unit {0}) View) (r : RunningRule Served opening s) where
  -- the exchange, by whether nobody leads
  takes_lead : (k : ℕ) (m : MemberView) → get_elem? r.seats k ≡ some (Member m) → members.is_value m.member.word ≡ true → (b : Bool) → (slice_index s.words LEAD == 0) ≡ b
      → RunningRule Served opening (after_step s (set s.words LEAD (either b (k + 1) (slice_index s.words LEAD))) (suc k) (Member (with_record m (cond b (members.leading m.member) m.member) (LeaderWord (slice_index s.words LEAD) ∷ m.found))))
  takes_lead k m here awake true is =
      let knows = r.each_seat k (Member m) here in
      let size = r.words.all in
      let p = progress_of s.words r.writer r.seats in
      let made = lead_event p k m.member (shown_at r.writer.members r.seats k m knows.made here) (nobody_leads (slice_index s.words LEAD) is) awake in
      machine_store s r LEAD (k + 1) (omega arith) (omega arith) (λ e. absurd (omega arith)) (slice_index s.words COUNTER) (k + 1)
      (get_or-set_other s.words LEAD COUNTER (k + 1) 0 (λ e. absurd (omega arith))) (get_or-set_same s.words LEAD (k + 1) 0 (omega arith)) (let made = knows.made in omega arith)
      k m (members.leading m.member) (LeaderWord (slice_index s.words LEAD) ∷ m.found) (prgr.Lead k) here refl refl refl
      (made ∙ ap (λ (o : Option ℕ). Some (record (with_member p k (members.leading m.member)) { leader = o })) (sym (leader_is k)))
  takes_lead k m here awake false is =
      let m' = with_record m m.member (LeaderWord (slice_index s.words LEAD) ∷ m.found) in
      subst (λ (ws : List ℕ). RunningRule Served opening (after_step s ws (suc k) (Member m'))) (sym (set-get_or s.words LEAD 0)) (found_step s r k m m'.found here)

  drops_lead : (k : ℕ) (m : MemberView) → get_elem? r.seats k ≡ some (Member m) → IsLeader m → RunningRule Served opening (after_step s (set s.words LEAD 0) (suc k) (Member (lead_given m)))
  drops_lead k m here leads =
      let knows = r.each_seat k (Member m) here in
      let size = r.words.all in
      let p = progress_of s.words r.writer r.seats in
      machine_store s r LEAD 0 (omega arith) (omega arith) (λ e. absurd (omega arith)) (slice_index s.words COUNTER) 0
      (get_or-set_other s.words LEAD COUNTER 0 0 (λ e. absurd (omega arith))) (get_or-set_same s.words LEAD 0 0 (omega arith)) (omega arith)
      k m (members.following m.member) m.found (prgr.GiveUp k) here refl refl refl
      (give_up_event p k m.member (shown_at r.writer.members r.seats k m knows.made here) m.member.role refl leads)

-- the exchange may be made by a member that is awake and follows
pub take_lead_is_allowed : (Served : Published → Type 0) (opening : Opening) (slots id number : ℕ) (me : Sat) → me.0 ≡ Member (member_of me.0) → (member_of me.0).member.number ≡ number → MayLead (member_of me.0)
    → Allows (RunningRule Served opening) slots id me LEAD (λ n. either (n == 0) (number + 1) n) (lead_taken (step slots LEAD 0 (number + 1) none) me)
take_lead_is_allowed Served opening slots id number me is numbered may s r wide at fits =
    let m = member_of me.0 in
    let here = at ∙ ap some is in
    let seat = seat_of s r id m here in
    let k = seat.0 in
    let knows = r.each_seat k (Member m) seat.2 in
    let place : number ≡ k = sym numbered ∙ knows.numbered in
    let found = slice_index s.words LEAD in
    let taken = takes_lead s r k m seat.2 may.awake (found == 0) refl in (
      Member (lead_found found m),
      keeps,
      tt,
      subst (λ (z : ℕ × ℕ). RunningRule Served opening (after_step s (set s.words LEAD (either (found == 0) (z.0 + 1) found)) z.1 (Member (lead_found found m)))) (λ i. (sym place i, sym seat.1 i)) taken,
      record { leader = (let made = r.machine.leader_made in let most = r.machine.progress.few in omega (arith, shown_length r.writer.members r.seats)); view = refl },
    )

-- the lead may be given up by who leads
pub drop_lead_is_allowed : (Served : Published → Type 0) (opening : Opening) (slots id : ℕ) (me : Sat) → me.0 ≡ Member (member_of me.0) → IsLeader (member_of me.0)
    → Allows (RunningRule Served opening) slots id me LEAD (λ _. 0) (λ _. lead_dropped (step slots LEAD 0 0 none) me 0)
drop_lead_is_allowed Served opening slots id me is leads s r wide at fits =
    let m = member_of me.0 in
    let seat = seat_of s r id m (at ∙ ap some is) in (
      Member (lead_given m),
      keeps,
      tt,
      subst (λ (i : ℕ). RunningRule Served opening (after_step s (set s.words LEAD 0) i (Member (lead_given m)))) (sym seat.1) (drops_lead s r seat.0 m seat.2 leads),
      refl,
    )
